use Rattle.std.proofs.Common.{◌≡◌, ◌≤◌, length}
use Rattle.ng_params.specs.Differences.{differences_to}
use Rattle.ng_params.proofs.differences.difference_count.Given as goal

abbrev pub invariant-loop-k : goal.invariant-loop-k
invariant-loop-k g l = record {
  count : l.count ≡ length (differences_to l.k l.old l.new);
  few : l.count ≤ l.k;
}
