use Rattle.std.proofs.Common.{◌≡◌, ◌≤◌, [], length, drop}
use Rattle.ng_expr.specs.Private.Walk.{after_nodes}
use Rattle.ng_expr.proofs.walk.walk.Given as goal

-- the walk over the remaining nodes, from what was found, ends as the whole walk does; each node adds at most one value
abbrev pub invariant-loop-next : goal.invariant-loop-next
invariant-loop-next g l = record {
  walk : after_nodes l.params (drop l.next-index l.nodes) l.stack ≡ after_nodes l.params l.nodes [];
  few : length l.stack ≤ l.next-index;
}
