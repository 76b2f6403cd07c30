-- What is at the front of a list of bytes, and what is left: the functions that the readers compute. They serve the
-- proofs only; the contract is the grammar (`laws::lines`).
use Rattle.std.specs.Prelude.{ℕ, ◌+◌, ◌-◌, ◌*◌, ◌/◌, List, [], ◌∷◌, length, Bool, true, false, ◌||◌, ◌&&◌, ◌==◌, ℤ}
use Rattle.std.specs.Prelude.{Option, Some, None, if◌then◌else◌, nat_lt, min}
use Rattle.std.specs.Option.{option_map}
use Rattle.ng_num.specs.Rounding.{signed}
use Rattle.ng_words.specs.Grammar.{is_digit, count_of, code}
use Rattle.ng_words.specs.declared.letter.Letter.{Letter}
use Rattle.ng_words.specs.declared.letter.Letter.TheVariants.{A, B, C, D, F, G, H, I, J, K, L, M, P, Q, R, S, T, X, Y, Z}

abbrev pub front_digits : List ℕ → List ℕ
front_digits [] = []
front_digits (b ∷ bs) = if is_digit b then (b ∷ front_digits bs) else []

abbrev pub after_digits : List ℕ → List ℕ
after_digits [] = []
after_digits (b ∷ bs) = if is_digit b then after_digits bs else (b ∷ bs)

-- the whole part, which stops at ten million
abbrev pub whole_after : ℕ → List ℕ → ℕ
whole_after n [] = n
whole_after n (b ∷ bs) = whole_after (min 10_000_000 (n * 10 + (b - 48))) bs

-- the digits after the point, the first of them worth unit
abbrev pub fraction_from : ℕ → List ℕ → ℕ
fraction_from unit [] = 0
fraction_from unit (b ∷ bs) = (b - 48) * unit + fraction_from (unit / 10) bs

-- the point and the digits after it, if there is a point
abbrev pub point_at : List ℕ → Option (List ℕ)
point_at [] = None
point_at (b ∷ bs) = if b == 46 then Some bs else None

abbrev pub is_empty : List ℕ → Bool
is_empty [] = true
is_empty (b ∷ bs) = false

-- an unsigned number's millionths, and what follows
abbrev pub unsigned_parts : List ℕ → List ℕ → Option (List ℕ) → Option (ℕ × List ℕ)
unsigned_parts whole rest None = if is_empty whole then None else Some (whole_after 0 whole * 1_000_000, rest)
unsigned_parts whole rest (Some after) =
    if is_empty whole && is_empty (front_digits after) then None
    else Some (whole_after 0 whole * 1_000_000 + (fraction_from 1_000_000 (front_digits after) + 5) / 10, after_digits after)

abbrev pub unsigned_at : List ℕ → Option (ℕ × List ℕ)
unsigned_at bytes = unsigned_parts (front_digits bytes) (after_digits bytes) (point_at (after_digits bytes))

-- whether a minus sign comes first, and what follows the sign
abbrev pub sign_at : List ℕ → Bool × List ℕ
sign_at [] = (false, [])
sign_at (b ∷ bs) = if b == 43 then (false, bs) else (if b == 45 then (true, bs) else (false, b ∷ bs))

-- a number's value, and what follows
abbrev pub number_at : List ℕ → Option (Option ℤ × List ℕ)
number_at bytes = option_map (λ x. (count_of (signed (sign_at bytes).0 x.0), x.1)) (unsigned_at (sign_at bytes).1)

-- all letters
abbrev pub letters : List Letter
letters = A ∷ B ∷ C ∷ D ∷ F ∷ G ∷ H ∷ I ∷ J ∷ K ∷ L ∷ M ∷ P ∷ Q ∷ R ∷ S ∷ T ∷ X ∷ Y ∷ Z ∷ []

-- the first of the letters whose byte is b
abbrev pub letter_among : ℕ → List Letter → Option Letter
letter_among b [] = None
letter_among b (l ∷ ls) = if b == code l then Some l else letter_among b ls

-- the letter of a byte
abbrev pub letter_of : ℕ → Option Letter
letter_of b = letter_among b letters

-- whether a slash comes first, and what follows it
abbrev pub slash_at : List ℕ → Bool × List ℕ
slash_at [] = (false, [])
slash_at (b ∷ bs) = if b == 47 then (true, bs) else (false, b ∷ bs)

-- one to five digits after an N, and what follows
abbrev pub numbered : List ℕ → List ℕ → Option (Option ℕ × List ℕ)
numbered digits rest = if is_empty digits || nat_lt 5 (length digits) then None else Some (Some (whole_after 0 digits), rest)

-- the block number, if an N comes first, and what follows
abbrev pub block_number_at : List ℕ → Option (Option ℕ × List ℕ)
block_number_at [] = Some (None, [])
block_number_at (b ∷ bs) = if b == 78 then numbered (front_digits bs) (after_digits bs) else Some (None, b ∷ bs)
