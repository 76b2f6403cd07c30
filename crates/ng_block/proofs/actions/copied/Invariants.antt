use Rattle.std.proofs.Common.{◌≡◌, take}
use Rattle.ng_block.proofs.actions.copied.Given as goal

abbrev pub invariant-loop-action : goal.invariant-loop-action
invariant-loop-action l = l.copy.items ≡ take l.action-index l.actions.items
