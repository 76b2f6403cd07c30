-- The time of a line.
use Rattle.std.specs.Prelude.{ℕ, Bool, ◌+◌, ◌-◌, ◌*◌, ◌/◌, ◌^◌, ◌<◌, ◌≤◌, ◌≡◌, ◌==◌, ◌&&◌, max, if◌then◌else◌}
use Rattle.ng_pace.specs.declared.line.Line.{Line}
use Rattle.ng_pace.specs.Due.{least_ns, own_square_of}

-- the whole root of a number
pub record IsRoot (n r : ℕ) : Type 0 where
  pub reached : r * r ≤ n
  pub next : n < (r + 1) * (r + 1)

-- a pulse at the mean of two rates, given by their sum in pulses a second times 2^8: its nanoseconds rounded up, and no
-- less than the least; a second, at least, where both are 0
abbrev pub time_at : ℕ → ℕ → ℕ
time_at least both = if both == 0 then max least 1000000000 else max ((512000000000 + both - 1) / both) least

-- a line is passed at the rate of its own time, where own times are at so many percent
abbrev pub is_at_own_rate : ℕ → Line → ℕ → ℕ → Bool
is_at_own_rate percent line from to = (from == to) && (to == own_square_of percent line.item)

-- the time of a line whose square goes from one to another, where own times are at so many percent: its own at its own
-- rate, otherwise that of the mean rate
pub record IsTimeOf (percent : ℕ) (line : Line) (from to ns : ℕ) : Type 0 where
  pub root_from : ℕ
  pub root_to : ℕ
  pub is_root_from : IsRoot from root_from
  pub is_root_to : IsRoot to root_to
  pub time : ns ≡ (if is_at_own_rate percent line from to then least_ns percent line.item else time_at (least_ns percent line.item) (root_from + root_to))

-- one pulse lasts no shorter than it does at the mean of two rates, whose squares are given: two seconds over their sum
pub record IsNoSooner (from to ns : ℕ) : Type 0 where
  pub root_from : ℕ
  pub root_to : ℕ
  pub is_root_from : IsRoot from root_from
  pub is_root_to : IsRoot to root_to
  pub mean : 0 < root_from + root_to → 2 * 10 ^ 9 * 2 ^ 8 ≤ ns * (root_from + root_to)

-- a line comes at its own rate from its pulse to the next one
abbrev pub KeepsOwnRate : ℕ → Line → ℕ → ℕ → Type 0
KeepsOwnRate percent line from to = (from ≡ to) × (to ≡ own_square_of percent line.item)
