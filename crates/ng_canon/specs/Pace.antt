-- Rates and times of moves, which are above 0 (own).
use Rattle.std.specs.Prelude.{ℕ, ℤ, pos, unsigned_abs, int_lt, Option, Some, None, if◌then◌else◌}

-- a count that is above 0
abbrev pub above_zero : ℤ → Option ℕ
above_zero n = if int_lt (pos 0) n then Some (unsigned_abs n) else None
