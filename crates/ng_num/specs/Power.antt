-- Powers of a count of millionths (NISTIR 6556, 3.3.2.3; the exponents, rounding and order of faults own).
use Rattle.std.specs.Prelude.{◌≤◌, ℕ, zero, suc, ℤ, pos, negsuc, Option, Some, None, Result, Ok, Err, nat_le, if◌then◌else◌}
use Rattle.ng_num.specs.Arithmetic.{million, product}
use Rattle.ng_num.specs.Range.{in_range}
use Rattle.ng_num.specs.Whole.{IsClose, whole_of}
use Rattle.ng_num.specs.declared.fault.Fault.{Fault}
use Rattle.ng_num.specs.declared.fault.Fault.TheVariants.{BadArithmetic}

-- a power times x, if there is a power
abbrev pub times : ℤ → Result ℤ Fault → Result ℤ Fault
times x (Ok power) = in_range (product power x)
times x (Err fault) = Err fault

-- x to the n: 1, multiplied by x n times, each product rounded
unfoldable pub power : ℤ → ℕ → Result ℤ Fault
power x zero = Ok million
power x (suc n) = times x (power x n)

-- n is the exponent that a number counts as: whole from 0 to 32
abbrev pub IsExponent : ℤ → ℕ → Type 0
IsExponent y n = (n ≤ 32) × IsClose y (pos n)

-- the exponent that a number counts as, given the whole number that it counts as
abbrev pub exponent_of : Option ℤ → Option ℕ
exponent_of None = None
exponent_of (Some (pos n)) = if nat_le n 32 then Some n else None
exponent_of (Some (negsuc n)) = None

abbrev pub power_by : ℤ → Option ℕ → Result ℤ Fault
power_by x None = Err BadArithmetic
power_by x (Some n) = power x n

-- x ** y
unfoldable pub power_of : ℤ → ℤ → Result ℤ Fault
power_of x y = power_by x (exponent_of (whole_of y))
