-- Facts about a line that was read.
use Rattle.std.specs.Prelude.{ℕ, List, [], ◌∷◌, false, Option, Some, None}
use Rattle.std.specs.Option.{option_or}
use Rattle.ng_words.specs.Grammar.{Piece, word, assignment, comment, ParsedLine}
use Rattle.ng_words.specs.LineStorage.{tree_by}
use Rattle.ng_words.specs.declared.pieces.PieceRef.{PieceRef}
use Rattle.ng_words.specs.declared.pieces.PieceRef.TheVariants.{Word, Assignment, Comment}

-- nothing on it
abbrev pub blank : ParsedLine
blank = record { deletable = false; number = None; pieces = [] }

-- the last comment's bytes
abbrev pub last_comment : List Piece → Option (List ℕ)
last_comment [] = None
last_comment (word letter t ∷ pieces) = last_comment pieces
last_comment (assignment index value ∷ pieces) = last_comment pieces
last_comment (comment text ∷ pieces) = option_or (last_comment pieces) (Some text)

-- a piece that is handed out, wherever its parts are stored
abbrev pub piece_of : PieceRef → Piece
piece_of (Word letter t) = word letter (tree_by t)
piece_of (Assignment index value) = assignment (tree_by index) (tree_by value)
piece_of (Comment text) = comment text.now
