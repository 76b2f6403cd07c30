-- The range of numbers and lengths, and what an operation returns beyond it (own).
use Rattle.std.specs.Prelude.{◌≡◌, ℕ, ◌≤◌, ℤ, unsigned_abs, Result, Ok, Err, nat_le, if◌then◌else◌}
use Rattle.ng_num.specs.declared.fault.Fault.{Fault}
use Rattle.ng_num.specs.declared.fault.Fault.TheVariants.{OutOfRange}

-- the greatest absolute value of a count of millionths or nanometres
abbrev pub greatest : ℕ
greatest = 9_999_999_999_999

abbrev pub IsCount : ℤ → Type 0
IsCount n = unsigned_abs n ≤ greatest

-- n, if it is a count
abbrev pub in_range : ℤ → Result ℤ Fault
in_range n = if nat_le (unsigned_abs n) greatest then Ok n else Err OutOfRange

-- the answer is the only value that a statement allows if that is a count, else OutOfRange
pub record IsOnlyAnswer (Said : ℤ → Type 0) (answer : Result ℤ Fault) : Type 0 where
  pub value : ℤ
  pub said : Said value
  pub only : (other : ℤ) → Said other → other ≡ value
  pub answered : answer ≡ in_range value
