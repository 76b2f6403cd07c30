use Rattle.std.proofs.Common.{◌≡◌, ◌≤◌, take, length, flat_map}
use Rattle.std.specs.Option.{option_to_list}
use Rattle.ng_block.proofs.actions.put_given.Given as goal

abbrev pub invariant-loop-row : goal.invariant-loop-row
invariant-loop-row l = record {
  items : l.actions.items ≡ flat_map option_to_list (take l.row-index l.rows);
  few : length l.actions.items ≤ l.row-index;
}
