-- Which comments are messages (NISTIR 6556, 3.3.4).
use Rattle.std.specs.Prelude.{ℕ, List, [], ◌∷◌, ◌==◌, codes, Option, Some, None, if◌then◌else◌}
use Rattle.std.specs.Option.{option_and_then}
use Rattle.ng_words.specs.Plain.{is_blank, capital}

-- the bytes after a capital letter, if it comes next, in either case; blanks before it don't count
abbrev pub past : ℕ → List ℕ → Option (List ℕ)
past c [] = None
past c (b ∷ bs) = if is_blank b then past c bs else if capital b == c then Some bs else None

-- the bytes after several capitals in order
abbrev pub past_all : List ℕ → List ℕ → Option (List ℕ)
past_all [] bytes = Some bytes
past_all (c ∷ cs) bytes = option_and_then (past_all cs) (past c bytes)

-- the message of a comment: what comes after MSG and a comma, if they come first
abbrev pub message_of : List ℕ → Option (List ℕ)
message_of comment = past_all (codes "MSG,") comment
