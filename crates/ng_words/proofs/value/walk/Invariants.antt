use Rattle.std.proofs.Common.{◌≡◌, ◌+◌, ◌≤◌, length}
use Rattle.ng_words.proofs.WalkPlaceLemmas.{IsWalking}
use Rattle.ng_words.proofs.value.walk.Given as goal

abbrev pub invariant-loop-cursor : goal.invariant-loop-cursor
invariant-loop-cursor l =
    IsWalking l.fn.cursor l.fn.nodes.items l.cursor l.after_value l.stack.items l.nodes.items
    × (length l.stack.items + length l.nodes.items + length l.cursor ≤ length l.fn.nodes.items + length l.fn.cursor)
    × (l.start ≡ length l.fn.nodes.items)

abbrev pub decreases-loop-cursor : goal.decreases-loop-cursor
decreases-loop-cursor l = length l.cursor
