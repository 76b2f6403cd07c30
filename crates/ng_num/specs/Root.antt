-- The square root of a count of millionths, rounded down to a count (NISTIR 6556, 3.3.2.4; rounding own).
use Rattle.std.specs.Prelude.{ℕ, zero, suc, ◌*◌, ℤ, pos, negsuc, ◌*ℤ◌, ◌≤ℤ◌, Result, Ok, Err, nat_le, if◌then◌else◌}
use Rattle.ng_num.specs.Arithmetic.{million}
use Rattle.ng_num.specs.Extremes.{IsGreatest}
use Rattle.ng_num.specs.declared.fault.Fault.{Fault}
use Rattle.ng_num.specs.declared.fault.Fault.TheVariants.{BadArithmetic}

-- s is SQRT of z: the greatest non-negative number whose square isn't above z
abbrev pub IsRoot : ℤ → ℤ → Type 0
IsRoot z s = IsGreatest (λ v. (pos 0 ≤ℤ v) × ((v *ℤ v) ≤ℤ (z *ℤ million))) s

-- the greatest number up to k whose square isn't above n
abbrev pub root_up_to : ℕ → ℕ → ℕ
root_up_to zero n = 0
root_up_to (suc k) n = if nat_le (suc k * suc k) n then suc k else root_up_to k n

-- SQRT of z, as a function
unfoldable pub root_of : ℤ → Result ℤ Fault
root_of (pos n) = Ok (pos (root_up_to (n * 1_000_000) (n * 1_000_000)))
root_of (negsuc n) = Err BadArithmetic
