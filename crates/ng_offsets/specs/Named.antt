-- The axes that a line names, each with the length of its word (NISTIR 6556, 3.5.7).
use Rattle.std.specs.Prelude.{ℤ, Option, Some, None, unwrap_or, Result, Ok}
use Rattle.ng_num.specs.Len.{nm_of}
use Rattle.ng_num.specs.Range.{in_range}
use Rattle.ng_num.specs.Results.{and_then}
use Rattle.ng_num.specs.declared.fault.Fault.{Fault}
use Rattle.ng_num.specs.declared.point.Point.{Point}
use Rattle.ng_num.specs.declared.unit.Unit.{Unit as LengthUnit}
use Rattle.ng_offsets.specs.declared.named.Named.{Named}

-- the length of a word in a unit, if there is a word
abbrev pub length_by : Option ℤ → LengthUnit → Result (Option ℤ) Fault
length_by None unit = Ok None
length_by (Some number) unit = and_then (in_range (nm_of number unit)) (λ length. Ok (Some length))

abbrev pub named_by : Option ℤ → Option ℤ → Option ℤ → LengthUnit → Result Named Fault
named_by x y z unit =
    and_then (length_by x unit) (λ x'.
    and_then (length_by y unit) (λ y'.
    and_then (length_by z unit) (λ z'.
    Ok (record { x = x'; y = y'; z = z' }))))

-- the point with the named lengths on the named axes; its other coordinates stay
abbrev pub put : Named → Point → Point
put named point = record { x = unwrap_or named.x point.x; y = unwrap_or named.y point.y; z = unwrap_or named.z point.z }
