-- A table of parameters: the list of the values of parameters 1, 2, 3 and so on (NISTIR 6556, 3.2.1).
use Rattle.std.specs.Prelude.{ℕ, ◌-◌, List, ℤ, pos, replicate, set, get_or}
use Rattle.ng_params.specs.Numbers.{parameter_count, system_in_force}

-- the value of parameter p
abbrev pub at : List ℤ → ℕ → ℤ
at table p = get_or table (p - 1) (pos 0)

-- the table in which p has this value
abbrev pub with_value : List ℤ → ℕ → ℤ → List ℤ
with_value table p value = set table (p - 1) value

-- a fresh table: system 1 is in force, all else is 0 (NISTIR 6556, 3.2.1, table 2)
abbrev pub defaults : List ℤ
defaults = with_value (replicate parameter_count (pos 0)) system_in_force (pos 1_000_000)
