-- A quotient rounded to a whole number, half away from zero (own).
use Rattle.std.specs.Prelude.{◌≡◌, ℕ, suc, Bool, true, false, ◌+◌, ◌*◌, ◌/◌, ◌<◌, ◌≤◌, ℤ, pos, negsuc, neg_ℤ, ◌-ℤ◌, ◌*ℤ◌, unsigned_abs}

-- n is the whole number nearest to p / q: at most half away from it, and of two equally near the one farther from zero.
-- Everything is multiplied by q.
pub record IsNearest (p q n : ℤ) : Type 0 where
  pub within_half : 2 * unsigned_abs (p -ℤ n *ℤ q) ≤ unsigned_abs q
  pub away_from_zero : 2 * unsigned_abs (p -ℤ n *ℤ q) ≡ unsigned_abs q → unsigned_abs p < unsigned_abs (n *ℤ q)

-- n / d, rounded half up
abbrev pub nearest : ℕ → ℕ → ℕ
nearest n d = (2 * n + d) / (2 * d)

-- p / d, rounded half away from zero, as a function
abbrev pub near : ℤ → ℕ → ℤ
near (pos n) d = pos (nearest n d)
near (negsuc n) d = neg_ℤ (pos (nearest (suc n) d))

-- p / d for a divisor of either sign
abbrev pub near_by : ℤ → ℤ → ℤ
near_by p (pos d) = near p d
near_by p (negsuc d) = near (neg_ℤ p) (suc d)

-- a size with a sign
abbrev pub signed : Bool → ℕ → ℤ
signed true n = neg_ℤ (pos n)
signed false n = pos n

-- exactly one of the two is negative
abbrev pub is_unlike : ℤ → ℤ → Bool
is_unlike (pos a) (pos b) = false
is_unlike (pos a) (negsuc b) = true
is_unlike (negsuc a) (pos b) = true
is_unlike (negsuc a) (negsuc b) = false
