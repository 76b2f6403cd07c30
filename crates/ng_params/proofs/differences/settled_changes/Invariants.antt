use Rattle.std.proofs.Common.{◌-◌, ◌≤◌}
use Rattle.ng_params.proofs.SettlingLemmas.{IsSettledTo}
use Rattle.ng_params.proofs.differences.settled_changes.Given as goal

abbrev pub invariant-loop-index : goal.invariant-loop-index
invariant-loop-index g l = record {
  settled : IsSettledTo l.passed l.table l.made l.settled.items;
  within : l.passed ≤ 5399;
}

abbrev pub decreases-loop-index : goal.decreases-loop-index
decreases-loop-index g l = 5399 - l.passed
