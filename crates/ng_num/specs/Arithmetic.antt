-- Operations on counts of millionths (NISTIR 6556, 3.3.2.3; rounding own).
use Rattle.std.specs.Prelude.{◌≡◌, ◌<◌, ℤ, pos, ◌+ℤ◌, ◌*ℤ◌, ◌≤ℤ◌, unsigned_abs, Result, Ok, Err, nat_eq, if◌then◌else◌}
use Rattle.std.specs.Int.{int_rem_euclid}
use Rattle.ng_num.specs.Range.{in_range}
use Rattle.ng_num.specs.Rounding.{near, near_by}
use Rattle.ng_num.specs.declared.fault.Fault.{Fault}
use Rattle.ng_num.specs.declared.fault.Fault.TheVariants.{BadArithmetic}

-- the count of the number 1
abbrev pub million : ℤ
million = pos 1_000_000

-- a times b
abbrev pub product : ℤ → ℤ → ℤ
product a b = near (a *ℤ b) 1_000_000

-- a divided by b
unfoldable pub quotient_of : ℤ → ℤ → Result ℤ Fault
quotient_of a b = if nat_eq (unsigned_abs b) 0 then Err BadArithmetic else in_range (near_by (a *ℤ million) b)

-- r is a MOD b: from 0 to below the size of b, with a - r a whole multiple of b
pub record IsRemainder (a b r : ℤ) : Type 0 where
  pub from_zero : pos 0 ≤ℤ r
  pub below : unsigned_abs r < unsigned_abs b
  pub multiple : (k : ℤ) × (a ≡ k *ℤ b +ℤ r)

-- a MOD b
unfoldable pub remainder_of : ℤ → ℤ → Result ℤ Fault
remainder_of a b = if nat_eq (unsigned_abs b) 0 then Err BadArithmetic else Ok (int_rem_euclid a b)
