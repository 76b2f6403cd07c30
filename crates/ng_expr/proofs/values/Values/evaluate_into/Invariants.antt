use Rattle.std.proofs.Common.{◌≡◌, ◌≤◌, ◌+◌, length}
use Rattle.ng_words.specs.LineStorage.{pieces_by}
use Rattle.ng_expr.specs.Settle.{followed_if_ok, settled_pieces, settled_of}
use Rattle.ng_expr.proofs.values.Values.evaluate_into.Given as goal

-- the values so far, followed by those of the remaining pieces, are those of the line; each piece adds at most one
abbrev pub invariant-loop-piece : goal.invariant-loop-piece
invariant-loop-piece g l = record {
  found : followed_if_ok (settled_of l.self) (settled_pieces (pieces_by l.pieces) l.params) ≡ settled_pieces (pieces_by l.line.places) l.params;
  few : length l.self.words.items + length l.self.assignments.items + length (pieces_by l.pieces) ≤ 128;
}

abbrev pub decreases-loop-piece : goal.decreases-loop-piece
decreases-loop-piece g l = length (pieces_by l.pieces)
