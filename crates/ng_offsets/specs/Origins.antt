-- What words do to the offsets and to the parameters that store them. None of them moves the machine (NISTIR 6556,
-- 3.5.5, 3.5.11, 3.5.13, 3.5.18).
use Rattle.std.specs.Prelude.{◌≡◌, ℕ, ℤ, ◌+ℤ◌, ◌-ℤ◌, ◌==◌, if◌then◌else◌, List, [], ◌∷◌, Option, Some, None, IfSome, Result, Ok}
use Rattle.ng_num.specs.Point.{zero_point}
use Rattle.ng_num.specs.Range.{in_range}
use Rattle.ng_num.specs.Results.{and_then}
use Rattle.ng_num.specs.declared.fault.Fault.{Fault}
use Rattle.ng_num.specs.declared.point.Point.{Point}
use Rattle.ng_params.specs.Points.{origin_of, g92_stored, g92_changes, origin_changes, selection}
use Rattle.ng_params.specs.declared.change.Change.{Change}
use Rattle.ng_offsets.specs.Named.{put}
use Rattle.ng_offsets.specs.Offsets.{shift_x, shift_y, shift_z, point_of}
use Rattle.ng_offsets.specs.Tools.{length_of_slot}
use Rattle.ng_offsets.specs.declared.named.Named.{Named}
use Rattle.ng_offsets.specs.declared.new_offsets.NewOffsets.{NewOffsets}
use Rattle.ng_offsets.specs.declared.offsets.Offsets.{Offsets}

-- new offsets, with the sums that are printed: origin plus G92 offset
abbrev pub printed : Offsets → Result NewOffsets Fault
printed o = and_then (point_of (o.origin.x +ℤ o.g92.x) (o.origin.y +ℤ o.g92.y) (o.origin.z +ℤ o.g92.z)) (λ shown. Ok (record { offsets = o; shown = shown }))

-- a result, with changes of parameters
abbrev pub storing : {X : Type 0} → Result X Fault → (X → List Change) → Result (X × List Change) Fault
storing found changes = and_then found (λ x. Ok (x, changes x))

-- G54 to G59.3: the origin of a system, from the table; the system is then in force
abbrev pub selected : Offsets → ℕ → List ℤ → Result (NewOffsets × List Change) Fault
selected o system table = storing (printed (record o { origin = origin_of table system })) (λ _. selection system ∷ [])

-- the origin that G10 gives a system: the named axes have the named lengths, the others those of the table
abbrev pub origin_by : ℕ → Named → List ℤ → Point
origin_by system named table = put named (origin_of table system)

-- G10: that origin is stored; if the system is in force, it is also the origin in force
abbrev pub given_origin : Offsets → ℕ → ℕ → Named → List ℤ → Result (Option NewOffsets × List Change) Fault
given_origin o system in_force named table =
    let origin = origin_by system named table in
    let changes = origin_changes system origin in
    if system == in_force
    then and_then (printed (record o { origin = origin })) (λ new. Ok (Some new, changes))
    else Ok (None, changes)

-- the G92 offset of an axis: old offset + current program coordinate - wanted coordinate, if one is wanted
abbrev pub offset_for : Option ℤ → ℤ → ℤ → ℤ → Result ℤ Fault
offset_for None old shift machine = Ok old
offset_for (Some wanted) old shift machine = and_then (in_range (machine -ℤ shift)) (λ current. in_range ((old +ℤ current) -ℤ wanted))

abbrev pub offsets_for : Offsets → Named → Point → Result Point Fault
offsets_for o wanted machine =
    and_then (offset_for wanted.x o.g92.x (shift_x o) machine.x) (λ x'.
    and_then (offset_for wanted.y o.g92.y (shift_y o) machine.y) (λ y'.
    and_then (offset_for wanted.z o.g92.z (shift_z o) machine.z) (λ z'.
    Ok (record { x = x'; y = y'; z = z' }))))

-- G92: that offset is in force, and stored
abbrev pub set_offset : Offsets → Named → Point → Result (NewOffsets × List Change) Fault
set_offset o wanted machine =
    and_then (offsets_for o wanted machine) (λ offset.
    storing (printed (record o { g92 = offset })) (λ _. g92_changes offset))

-- under these offsets the machine point has the wanted program coordinates
pub record HasCoordinates (o : Offsets) (wanted : Named) (machine : Point) : Type 0 where
  pub x : IfSome wanted.x (λ program. machine.x ≡ program +ℤ shift_x o)
  pub y : IfSome wanted.y (λ program. machine.y ≡ program +ℤ shift_y o)
  pub z : IfSome wanted.z (λ program. machine.z ≡ program +ℤ shift_z o)

-- G92.2: no G92 offset is in force
abbrev pub dropped : Offsets → NewOffsets
dropped o = record { offsets = record o { g92 = zero_point }; shown = o.origin }

-- G92.3: the stored one is
abbrev pub restored : Offsets → List ℤ → Result NewOffsets Fault
restored o table = printed (record o { g92 = g92_stored table })

-- G43 and G49: the length of a slot; that of slot 0 is 0
abbrev pub with_tool : Offsets → ℕ → List ℤ → Offsets
with_tool o slot lengths = record o { tool_length = length_of_slot lengths slot }
