-- The numbers of a state field as they are written (own).
use Rattle.std.specs.Prelude.{◌≡◌, ◌+◌, ◌==◌, ◌&&◌, Bool, true, ℕ, List, [], ◌∷◌}
use Rattle.std.specs.List.{All}
use Rattle.ng_layout.specs.Fields.{number_at, signed_at}
use Rattle.ng_layout.specs.declared.rows.Number.{Number}
use Rattle.ng_layout.specs.declared.rows.Number.TheVariants.{U8, U16, U64, I64}

-- how many bytes a number takes
abbrev pub width : Number → ℕ
width (U8 n) = 1
width (U16 n) = 2
width (U64 n) = 8
width (I64 n) = 8

-- the number is there from this byte on
abbrev pub IsAt : ℕ → Number → List ℕ → Type 0
IsAt at (U8 n) bytes = number_at 1 at bytes ≡ n
IsAt at (U16 n) bytes = number_at 2 at bytes ≡ n
IsAt at (U64 n) bytes = number_at 8 at bytes ≡ n
IsAt at (I64 n) bytes = signed_at at bytes ≡ n

-- each number is there from its byte on
abbrev pub AreAt : List (ℕ × Number) → List ℕ → Type 0
AreAt rows bytes = All (λ row. IsAt row.0 row.1 bytes) rows

-- where the first of these numbers begins, or this byte if there is none
abbrev pub begin : List (ℕ × Number) → ℕ → ℕ
begin [] to = to
begin (row ∷ rows) to = row.0

-- each number ends where the next one begins, and the last one at this byte
abbrev pub follow : List (ℕ × Number) → ℕ → Bool
follow [] to = true
follow (row ∷ rows) to = (row.0 + width row.1 == begin rows to) && follow rows to

-- the numbers follow one another from one byte up to another
abbrev pub are_joined : ℕ → List (ℕ × Number) → ℕ → Bool
are_joined from rows to = (begin rows to == from) && follow rows to
