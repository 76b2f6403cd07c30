use Rattle.ng_pace.proofs.FinalLimitLemmas.{marks_on}
use Rattle.ng_pace.proofs.settling.settle_all.Goals as goal

pub returns-clause-marks : goal.returns-clause-marks
returns-clause-marks g c = marks_on c.loop-limits.invariant.marks c.settle_one.ensures.keeps c.settle_one.ensures.marks
