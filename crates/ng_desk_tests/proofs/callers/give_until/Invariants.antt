use Rattle.std.proofs.Common.{◌≡◌}
use Rattle.ng_desk_tests.proofs.callers.give_until.Given as goal

abbrev pub invariant-loop-call : goal.invariant-loop-call
invariant-loop-call g l = l.seat.parts ≡ 1
