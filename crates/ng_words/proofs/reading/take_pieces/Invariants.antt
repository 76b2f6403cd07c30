use Rattle.std.proofs.Common.{◌≡◌, ◌+◌, ◌*◌, ◌≤◌, length}
use Rattle.ng_words.specs.Private.Items.{last_size}
use Rattle.ng_words.specs.Private.Walks.{store_of}
use Rattle.ng_words.proofs.AddedPieceLemmas.{IsTaking}
use Rattle.ng_words.proofs.reading.take_pieces.Given as goal

abbrev pub invariant-loop-cursor : goal.invariant-loop-cursor
invariant-loop-cursor l =
    IsTaking l.fn.cursor l.cursor (store_of l.items.items l.nodes.items l.comments.bytes.items)
    × (2 * length l.items.items + length l.cursor ≤ 256)
    × (length l.nodes.items + length l.cursor ≤ 256)
    × (length l.comments.bytes.items + length l.cursor ≤ 256)
    × (l.comments.last ≡ last_size l.items.items)

abbrev pub decreases-loop-cursor : goal.decreases-loop-cursor
decreases-loop-cursor l = length l.cursor
