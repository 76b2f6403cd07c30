-- Radii that count as equal (own). A radius is the root of a whole number of square nanometres, which usually isn't a
-- fraction; it is given by the fractions that it doesn't exceed.
use Rattle.std.specs.Prelude.{ℕ, ◌+◌, ◌-◌, ◌*◌, ◌<◌, ◌≤◌, min, max, Bool, nat_le}

-- the root of n is at most p / q
abbrev pub IsRootAtMost : ℕ → ℕ → ℕ → Type 0
IsRootAtMost n p q = n * (q * q) ≤ p * p

-- the root of n is longer than that of m by at most t: if the root of m is at most a fraction, the root of n is at most
-- that fraction plus t
abbrev pub IsLongerByAtMost : ℕ → ℕ → ℕ → Type 0
IsLongerByAtMost t n m = (p q : ℕ) → 0 < q → IsRootAtMost m p q → IsRootAtMost n (p + t * q) q

-- the roots of n and m differ by at most t
pub record AreAlike (n m t : ℕ) : Type 0 where
  pub first : IsLongerByAtMost t n m
  pub second : IsLongerByAtMost t m n

-- how much u is above v plus the square of t; 0 if it isn't
abbrev pub excess : ℕ → ℕ → ℕ → ℕ
excess t u v = u - v - t * t

-- whether this excess is allowed
unfoldable pub is_excess_allowed : ℕ → ℕ → ℕ → Bool
is_excess_allowed t u v = nat_le (excess t u v * excess t u v) (4 * (t * t) * v)

-- whether two radii are alike, by whole numbers
abbrev pub are_alike : ℕ → ℕ → ℕ → Bool
are_alike n m t = is_excess_allowed t (max n m) (min n m)
