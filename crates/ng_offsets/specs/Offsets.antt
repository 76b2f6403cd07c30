-- Program and machine coordinates: machine = program + origin + G92 offset + tool length on Z (NISTIR 6556, 3.2.2,
-- 3.5.11, 3.5.18).
use Rattle.std.specs.Prelude.{ℤ, ◌+ℤ◌, ◌-ℤ◌, pos, Result, Ok}
use Rattle.ng_num.specs.Point.{zero_point}
use Rattle.ng_num.specs.Range.{in_range}
use Rattle.ng_num.specs.Results.{and_then}
use Rattle.ng_num.specs.declared.fault.Fault.{Fault}
use Rattle.ng_num.specs.declared.point.Point.{Point}
use Rattle.ng_offsets.specs.declared.offsets.Offsets.{Offsets}

abbrev pub no_offsets : Offsets
no_offsets = record { origin = zero_point; g92 = zero_point; tool_length = pos 0 }

-- the difference between the program and the machine coordinate of each axis
abbrev pub shift_x : Offsets → ℤ
shift_x o = o.origin.x +ℤ o.g92.x

abbrev pub shift_y : Offsets → ℤ
shift_y o = o.origin.y +ℤ o.g92.y

abbrev pub shift_z : Offsets → ℤ
shift_z o = o.origin.z +ℤ o.g92.z +ℤ o.tool_length

-- the point with three coordinates, if each is in range
abbrev pub point_of : ℤ → ℤ → ℤ → Result Point Fault
point_of x y z =
    and_then (in_range x) (λ x'.
    and_then (in_range y) (λ y'.
    and_then (in_range z) (λ z'.
    Ok (record { x = x'; y = y'; z = z' }))))

-- the machine point of a program point, and the program point of a machine point
abbrev pub to_machine : Offsets → Point → Result Point Fault
to_machine o program = point_of (program.x +ℤ shift_x o) (program.y +ℤ shift_y o) (program.z +ℤ shift_z o)

abbrev pub to_program : Offsets → Point → Result Point Fault
to_program o machine = point_of (machine.x -ℤ shift_x o) (machine.y -ℤ shift_y o) (machine.z -ℤ shift_z o)
