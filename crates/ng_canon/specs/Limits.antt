-- What a machine may be (own).
use Rattle.std.specs.Prelude.{ℕ, ◌≤◌, ℤ, pos, negsuc, ◌≤ℤ◌}

-- nanometres per step, and the least and the greatest coordinate
abbrev pub IsAxis : ℕ → ℤ → ℤ → Type 0
IsAxis step low high = (10 ≤ step) × (step ≤ 1_000_000) × (negsuc 9_999_999_999 ≤ℤ low) × (low ≤ℤ pos 0) × (pos 0 ≤ℤ high) × (high ≤ℤ pos 10_000_000_000)

-- the traverse rate in nanometres per minute, and the least period of a pulse in microseconds
abbrev pub IsPacing : ℕ → ℕ → Type 0
IsPacing traverse period = (traverse ≤ 100_000_000_000) × (1 ≤ period) × (period ≤ 1_000_000)
