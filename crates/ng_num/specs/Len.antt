-- Lengths in the units of a program (NISTIR 6556, 3.5.7; rounding own).
use Rattle.std.specs.Prelude.{◌≡◌, ℤ, pos, ◌*ℤ◌}
use Rattle.ng_num.specs.Rounding.{IsNearest, near}
use Rattle.ng_num.specs.declared.unit.Unit.{Unit as LengthUnit}
use Rattle.ng_num.specs.declared.unit.Unit.TheVariants.{Inches, Millimetres}

-- the nanometres of a count of millionths of a unit: an inch is 25.4 millimetres
abbrev pub nm_of : ℤ → LengthUnit → ℤ
nm_of count Inches = near (count *ℤ pos 254) 10
nm_of count Millimetres = count

-- nm is the length that a number stands for in a unit, rounded half away from zero
abbrev pub IsLength : ℤ → LengthUnit → ℤ → Type 0
IsLength count Inches nm = IsNearest (count *ℤ pos 254) (pos 10) nm
IsLength count Millimetres nm = nm ≡ count
