use Rattle.std.proofs.Common.{◌≡◌, ◌≤◌, ◌++◌, length}
use Rattle.ng_params.specs.Differences.{differences_to}
use Rattle.ng_params.proofs.differences.next_differences.Given as goal

abbrev pub invariant-loop-k : goal.invariant-loop-k
invariant-loop-k g l = record {
  on : differences_to l.k l.old l.new ≡ differences_to l.from l.old l.new ++ l.taken.items;
  few : length l.taken.items ≤ g.row.N;
}
