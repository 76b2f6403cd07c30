use Rattle.std.proofs.Common.{◌≡◌, length}
use Rattle.ng_tests.proofs.records.set_all.Given as goal

abbrev pub invariant-loop-number : goal.invariant-loop-number
invariant-loop-number l = length l.params ≡ 5399
