use Rattle.std.proofs.Common.{arith, rules, refl, sym, ap, ◌∙◌, length, ◌+◌, ◌≤◌, ◌≡◌, true}
use Rattle.ng_words.specs.Private.Items.{last_size}
use Rattle.ng_words.proofs.AddedPieceLemmas.{taking_starts, taking_goes, piece_shorter, one_item_more}
use Rattle.ng_words.proofs.reading.take_pieces.Goals as goal

pub loop-cursor-init : goal.loop-cursor-init
loop-cursor-init c = (
  taking_starts c.args.cursor.now _ _ _ c.requires.no_items c.requires.no_nodes c.requires.no_bytes,
  omega (arith, ap length c.requires.no_items, c.requires.short),
  omega (arith, ap length c.requires.no_nodes, c.requires.short),
  omega (arith, ap length c.requires.no_bytes, c.requires.short),
  c.requires.no_comment ∙ sym (ap last_size c.requires.no_items),
)

pub loop-cursor-smaller : goal.loop-cursor-smaller
loop-cursor-smaller c =
    let less : length c.piece.new.cursor + 2 ≤ length c.loop-cursor.cursor = piece_shorter c.loop-cursor.cursor
    c.piece.new.cursor true _ _ c.if-not-piece.ensures.piece (search rules) in omega arith

pub loop-cursor-preserved : goal.loop-cursor-preserved
loop-cursor-preserved c =
    let less : length c.piece.new.cursor + 2 ≤ length c.loop-cursor.cursor = piece_shorter c.loop-cursor.cursor
    c.piece.new.cursor true _ _ c.if-not-piece.ensures.piece (search rules) in
    let one : length c.piece.new.items.items ≡ length c.loop-cursor.items.items + 1 =
    one_item_more c.loop-cursor.cursor c.piece.new.cursor true _ _ c.if-not-piece.ensures.piece refl in (
      taking_goes c.args.cursor.now c.loop-cursor.cursor c.piece.new.cursor true _ _ c.loop-cursor.invariant.0 c.if-not-piece.ensures.piece refl,
      omega arith,
      c.if-not-piece.ensures.nodes_fit (search rules),
      c.if-not-piece.ensures.bytes_fit (search rules),
      c.if-not-piece.ensures.last (search rules),
    )

pub piece-requires-clause-last : goal.piece-requires-clause-last
piece-requires-clause-last c = c.loop-cursor.invariant.4

pub returns-clause-last : goal.returns-clause-last
returns-clause-last c = λ t. c.loop-cursor.invariant.4
