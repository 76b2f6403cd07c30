use Rattle.std.proofs.Common.{◌≡◌, ◌+◌, length}
use Rattle.ng_words.proofs.WalkPlaceLemmas.{IsSettling}
use Rattle.ng_words.proofs.value.settle.Given as goal

abbrev pub invariant-loop-stack : goal.invariant-loop-stack
invariant-loop-stack l =
    IsSettling l.fn.stack.items l.fn.nodes.items l.stack.items l.nodes.items
    × (length l.stack.items + length l.nodes.items ≡ length l.fn.stack.items + length l.fn.nodes.items)

abbrev pub decreases-loop-stack : goal.decreases-loop-stack
decreases-loop-stack l = length l.stack.items
