use Rattle.std.proofs.Common.{◌≡◌}
use Rattle.ngc_desk.proofs.callers.tick.Given as goal

abbrev pub invariant-loop-tick : goal.invariant-loop-tick
invariant-loop-tick g l = l.seat.parts ≡ 1
