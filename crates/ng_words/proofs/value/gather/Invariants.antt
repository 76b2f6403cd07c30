use Rattle.std.proofs.Common.{◌≡◌, ◌+◌, length}
use Rattle.ng_words.proofs.WalkPlaceLemmas.{IsGathering}
use Rattle.ng_words.proofs.value.gather.Given as goal

abbrev pub invariant-loop-operation : goal.invariant-loop-operation
invariant-loop-operation l =
    IsGathering l.most l.fn.stack.items l.fn.nodes.items l.stack.items l.nodes.items
    × (length l.stack.items + length l.nodes.items ≡ length l.fn.stack.items + length l.fn.nodes.items)

abbrev pub decreases-loop-operation : goal.decreases-loop-operation
decreases-loop-operation l = length l.stack.items
