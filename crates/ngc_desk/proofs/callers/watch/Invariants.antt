use Rattle.std.proofs.Common.{◌≡◌}
use Rattle.ngc_desk.proofs.callers.watch.Given as goal

abbrev pub invariant-loop-look : goal.invariant-loop-look
invariant-loop-look g l = l.seat.parts ≡ 1
