use Rattle.std.proofs.Common.{◌≡◌, take}
use Rattle.ng_block.specs.Action.{outputs_after}
use Rattle.ng_block.proofs.action.outputs_after.Given as goal

abbrev pub invariant-loop-action : goal.invariant-loop-action
invariant-loop-action l = l.outputs ≡ outputs_after l.fn.before (take l.action-index l.actions)
