use Rattle.std.proofs.Common.{refl}
use Rattle.ng_words.proofs.AddedPieceLemmas.{pieces_taken}
use Rattle.ng_words.proofs.ReadLemmas.{read_too_long, read_no_number, read_no_pieces, read_ok, read_sound, read_only}
use Rattle.ng_words.proofs.ReadLemmas.{read_none, length-pieces, length_over, length_within}
use Rattle.ng_words.proofs.line.Line.read.Goals as goal

pub returns-then-is_too_long-clause-value : goal.returns-then-is_too_long-clause-value
returns-then-is_too_long-clause-value c = read_too_long c.args.text.now (length_over c.args.text.now _ c.is_too_long.ensures c.if-is_too_long.true)

pub returns-in-None-clause-value : goal.returns-in-None-clause-value
returns-in-None-clause-value c =
    read_no_number _ _ _ _ (length_within c.args.text.now _ c.is_too_long.ensures c.if-is_too_long.false)
    c.new-cursor.ensures c.slash-deletable.ensures c.in-None.ensures

pub returns-in-None-clause-none : goal.returns-in-None-clause-none
returns-in-None-clause-none c = read_none _ _ (returns-in-None-clause-value c)

pub read_pieces-requires-clause-short : goal.read_pieces-requires-clause-short
read_pieces-requires-clause-short c =
    length-pieces _ _ _ _ (c.in-Some.number, c.block_number.new.cursor)
    (length_within c.args.text.now _ c.is_too_long.ensures c.if-is_too_long.false) c.new-cursor.ensures
    c.slash-deletable.ensures c.in-Some.ensures

pub returns-then-not-read_pieces-clause-value : goal.returns-then-not-read_pieces-clause-value
returns-then-not-read_pieces-clause-value c =
    read_no_pieces _ _ _ _ (c.in-Some.number, c.block_number.new.cursor)
    (length_within c.args.text.now _ c.is_too_long.ensures c.if-is_too_long.false) c.new-cursor.ensures
    c.slash-deletable.ensures c.in-Some.ensures c.if-not-read_pieces.ensures.pieces

pub returns-then-not-read_pieces-clause-none : goal.returns-then-not-read_pieces-clause-none
returns-then-not-read_pieces-clause-none c = read_none _ _ (returns-then-not-read_pieces-clause-value c)

pub returns-clause-value : goal.returns-clause-value
returns-clause-value c =
    read_ok _ _ _ _ (c.in-Some.number, c.block_number.new.cursor) _
    (length_within c.args.text.now _ c.is_too_long.ensures c.if-is_too_long.false) c.new-cursor.ensures
    c.slash-deletable.ensures c.in-Some.ensures
    (pieces_taken c.block_number.new.cursor _ c.if-not-read_pieces.ensures.pieces) refl refl

pub returns-clause-reads : goal.returns-clause-reads
returns-clause-reads c = read_sound _ _ (returns-clause-value c)

pub returns-clause-only : goal.returns-clause-only
returns-clause-only c = read_only _ _ (returns-clause-value c)
