-- The canonical text of numbers (own): an optional minus, the whole part, a point and six decimals.
use Rattle.std.specs.Prelude.{ℕ, ◌+◌, ◌/◌, ◌%◌, List, [], ◌∷◌, ◌++◌, ℤ, pos, negsuc, unsigned_abs, codes}
use Rattle.std.specs.Fmt.{decimal}
use Rattle.ng_num.specs.declared.point.Point.{Point}

-- the digit of n at the place worth unit
abbrev pub digit_at : ℕ → ℕ → ℕ
digit_at unit n = 48 + n / unit % 10

-- the last six digits of n
abbrev pub six_digits : ℕ → List ℕ
six_digits n = digit_at 100_000 n ∷ digit_at 10_000 n ∷ digit_at 1_000 n ∷ digit_at 100 n ∷ digit_at 10 n ∷ digit_at 1 n ∷ []

abbrev pub minus : ℤ → List ℕ
minus (pos n) = []
minus (negsuc n) = 45 ∷ []

-- a count of millionths, printed as a number
unfoldable pub number_text : ℤ → List ℕ
number_text z = minus z ++ (decimal (unsigned_abs z / 1_000_000) ++ (46 ∷ six_digits (unsigned_abs z)))

-- the three coordinates of a point in millimetres, joined by a comma and a blank
abbrev pub point_text : Point → List ℕ
point_text p = number_text p.x ++ codes ", " ++ number_text p.y ++ codes ", " ++ number_text p.z
