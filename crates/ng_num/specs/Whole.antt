-- Whole numbers near a count of millionths (NISTIR 6556, 3.3.2.4; ties of ROUND and closeness own).
use Rattle.std.specs.Prelude.{◌≡◌, ◌≤◌, ℤ, neg_ℤ, ◌-ℤ◌, ◌*ℤ◌, ◌≤ℤ◌, unsigned_abs, Option, Some, None, nat_le, if◌then◌else◌}
use Rattle.std.specs.Int.{int_rem_euclid}
use Rattle.ng_num.specs.Arithmetic.{million}
use Rattle.ng_num.specs.Extremes.{IsGreatest, IsLeast}
use Rattle.ng_num.specs.Rounding.{IsNearest, near}

-- w is a whole number
abbrev pub IsWhole : ℤ → Type 0
IsWhole w = (k : ℤ) × (w ≡ k *ℤ million)

-- w is FIX of z: the greatest whole number not above it
abbrev pub IsFix : ℤ → ℤ → Type 0
IsFix z w = IsGreatest (λ v. IsWhole v × (v ≤ℤ z)) w

-- w is FUP of z: the least whole number not below it
abbrev pub IsFup : ℤ → ℤ → Type 0
IsFup z w = IsLeast (λ v. IsWhole v × (z ≤ℤ v)) w

-- w is ROUND of z: the whole number nearest to it, of two equally near the one farther from zero
abbrev pub IsRound : ℤ → ℤ → Type 0
IsRound z w = (k : ℤ) × (w ≡ k *ℤ million) × IsNearest z million k

-- FIX, FUP and ROUND as functions
abbrev pub fix : ℤ → ℤ
fix z = z -ℤ int_rem_euclid z million

abbrev pub fup : ℤ → ℤ
fup z = neg_ℤ (fix (neg_ℤ z))

abbrev pub round : ℤ → ℤ
round z = near z 1_000_000 *ℤ million

-- z is within 0.0001 of the whole number n
abbrev pub IsClose : ℤ → ℤ → Type 0
IsClose z n = unsigned_abs (z -ℤ n *ℤ million) ≤ 100

-- the whole number that z counts as, if any
unfoldable pub whole_of : ℤ → Option ℤ
whole_of z = if nat_le (unsigned_abs (z -ℤ near z 1_000_000 *ℤ million)) 100 then Some (near z 1_000_000) else None
