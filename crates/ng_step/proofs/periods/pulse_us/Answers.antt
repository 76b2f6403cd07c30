use Rattle.std.proofs.Common.{arith}
use Rattle.ng_step.specs.Periods.{pulse_us}
use Rattle.ng_step.proofs.periods.pulse_us.Goals as goal

pub returns : goal.returns
unfolding pulse_us
returns c = λ some. rw (← c.time_us-time.ensures.value) (omega arith)
