-- The period of a pulse (own).
use Rattle.std.specs.Prelude.{ℕ, zero, suc, ◌+◌, ◌-◌, ◌*◌, ◌/◌, ◌≤◌, max, nat_le, if◌then◌else◌}
use Rattle.ng_canon.specs.declared.geometry.Geometry.{Geometry}
use Rattle.ng_canon.specs.declared.pace.Pace.{Pace}
use Rattle.ng_canon.specs.declared.pace.Pace.TheVariants.{Traverse, Feed, InverseTime}

-- the least whole number whose square isn't below n: the one for n - 1, or one more
unfoldable pub root_up : ℕ → ℕ
root_up zero = 0
root_up (suc n) = if nat_le (suc n) (root_up n * root_up n) then root_up n else root_up n + 1

-- what this means: its square isn't below n, and no smaller number has such a square
pub record IsRootUp (n root : ℕ) : Type 0 where
  pub enough : n ≤ root * root
  pub least : (k : ℕ) → n ≤ k * k → root ≤ k

-- a quotient rounded up
abbrev pub ceil_div : ℕ → ℕ → ℕ
ceil_div a b = (a + b - 1) / b

-- the microseconds of a length in nanometres: at a rate in nanometres a minute, or in one minute divided by a count of
-- millionths
abbrev pub time_us : ℕ → Pace → ℕ → ℕ
time_us traverse Traverse length = ceil_div (length * 60_000_000) traverse
time_us traverse (Feed rate) length = ceil_div (length * 60_000_000) rate
time_us traverse (InverseTime count) length = ceil_div 60_000_000_000_000 count

-- the microseconds of each pulse, given the number of pulses and a length
unfoldable pub pulse_us : Geometry → Pace → ℕ → ℕ → ℕ
pulse_us g pace length pulses = max g.least_period_us (ceil_div (time_us g.traverse pace length) pulses)
