-- The pieces at the front of a list of bytes, and what is left. They serve the proofs only; the contract is the grammar
-- (`laws::lines`).
use Rattle.std.specs.Prelude.{ℕ, zero, suc, List, [], ◌∷◌, codes, ◌==◌, Option, Some, None, if◌then◌else◌}
use Rattle.std.specs.Option.{option_map, option_and_then}
use Rattle.ng_words.specs.Grammar.{Tree, Piece, word, assignment, comment}
use Rattle.ng_words.specs.Scan.{letter_of}
use Rattle.ng_words.specs.Value.{strip_prefix, value_at}

-- a comment's bytes up to its closing parenthesis, and what comes after it
abbrev pub comment_at : List ℕ → Option (List ℕ × List ℕ)
comment_at [] = None
comment_at (b ∷ bs) = if b == 41 then Some ([], bs) else if b == 40 then None else option_map (λ x. (b ∷ x.0, x.1)) (comment_at bs)

-- after an assignment's index: the equals sign and the value
abbrev pub set_at : Tree → List ℕ → Option (Piece × List ℕ)
set_at i bytes = option_and_then (λ rest. option_map (λ v. (assignment i v.0, v.1)) (value_at rest)) (strip_prefix (codes "=") bytes)

-- the piece that begins with a byte
abbrev pub piece_from : ℕ → List ℕ → Option (Piece × List ℕ)
piece_from b bs =
    if b == 40 then option_map (λ x. (comment x.0, x.1)) (comment_at bs)
    else if b == 35 then option_and_then (λ i. set_at i.0 i.1) (value_at bs)
    else option_and_then (λ l. option_map (λ v. (word l v.0, v.1)) (value_at bs)) (letter_of b)

abbrev pub piece_at : List ℕ → Option (Piece × List ℕ)
piece_at [] = None
piece_at (b ∷ bs) = piece_from b bs

-- the pieces up to the end; the first argument limits how many there may be
abbrev pub pieces_at : ℕ → List ℕ → Option (List Piece)
pieces_at most [] = Some []
pieces_at zero (b ∷ bs) = None
pieces_at (suc most) (b ∷ bs) = option_and_then (λ x. option_map (λ ps. x.0 ∷ ps) (pieces_at most x.1)) (piece_at (b ∷ bs))
