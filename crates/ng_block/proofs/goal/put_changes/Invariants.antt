use Rattle.std.proofs.Common.{◌≡◌, ◌+◌, ◌++◌, take, length}
use Rattle.ng_block.proofs.goal.put_changes.Given as goal

abbrev pub invariant-loop-change : goal.invariant-loop-change
invariant-loop-change l = record {
  items : l.changes.items ≡ l.fn.changes.items ++ take l.change-index l.from;
  count : length l.changes.items ≡ length l.fn.changes.items + l.change-index;
}
