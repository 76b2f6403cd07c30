-- What a line's coordinate system and axis data do to the offsets: G54 to G59.3, G10, and G92 to G92.3 (NISTIR 6556,
-- 3.5.5, 3.5.13, 3.5.18).
use Rattle.std.specs.Prelude.{ℕ, ℤ, List, Option, Some, None, unwrap_or, Result, Ok}
use Rattle.std.specs.Option.{option_map}
use Rattle.ng_num.specs.Point.{zero_point}
use Rattle.ng_num.specs.Results.{and_then}
use Rattle.ng_num.specs.declared.unit.Unit.{Unit as LengthUnit}
use Rattle.ng_num.specs.declared.point.Point.{Point}
use Rattle.ng_num.specs.declared.fault.Fault.{Fault}
use Rattle.ng_params.specs.Points.{g92_changes}
use Rattle.ng_modal.specs.WholeNumbers.{system_on}
use Rattle.ng_modal.specs.declared.requests.NonModal.{NonModal}
use Rattle.ng_modal.specs.declared.requests.NonModal.TheVariants.{SetOrigin, SetOffset, CancelOffsetAndParameters, CancelOffset, RestoreOffset}
use Rattle.ng_modal.specs.declared.block.Block.{Block}
use Rattle.ng_state.specs.declared.modes.Modes.{Modes}
use Rattle.ng_offsets.specs.Named.{named_by}
use Rattle.ng_offsets.specs.Origins.{selected, given_origin, set_offset, dropped, restored}
use Rattle.ng_offsets.specs.declared.named.Named.{Named}
use Rattle.ng_offsets.specs.declared.new_offsets.NewOffsets.{NewOffsets}
use Rattle.ng_offsets.specs.declared.offsets.Offsets.{Offsets}
use Rattle.ng_block.specs.declared.axis_data.AxisData.{AxisData}

-- the unit and the system after the line's own words
abbrev pub unit_after : Block → Modes → LengthUnit
unit_after b m = unwrap_or b.g.unit m.unit

abbrev pub system_after : Block → Modes → ℕ
system_after b m = unwrap_or b.g.system m.system

-- the axes that the line names, each with its length
abbrev pub named_on : Block → Modes → Result Named Fault
named_on b m = named_by b.values.x b.values.y b.values.z (unit_after b m)

-- the offsets after a step that may change them, and what it prints of them
abbrev pub offsets_after : Option NewOffsets → Offsets → Offsets
offsets_after None o = o
offsets_after (Some new) o = new.offsets

abbrev pub offsets_shown : Option NewOffsets → Option Point
offsets_shown new = option_map (λ n. n.shown) new

-- G54 to G59.3
abbrev pub with_system : Option ℕ → Offsets → List ℤ → Result (Option NewOffsets) Fault
with_system None o table = Ok None
with_system (Some system) o table = and_then (selected o system table) (λ found. Ok (Some found.0))

abbrev pub no_axis_data : AxisData
no_axis_data = record { new = None; stored = None }

-- G10 L2, for the system that P names; every valid line with G10 has a P
abbrev pub with_origin : Option ℕ → Block → Modes → Offsets → List ℤ → Result AxisData Fault
with_origin None b m o table = Ok no_axis_data
with_origin (Some system) b m o table =
    and_then (named_on b m) (λ named.
    and_then (given_origin o system (system_after b m) named table) (λ found.
    Ok (record { new = found.0; stored = Some found.1 })))

-- G92
abbrev pub with_offset : Block → Modes → Point → Offsets → Result AxisData Fault
with_offset b m machine o =
    and_then (named_on b m) (λ named.
    and_then (set_offset o named machine) (λ found.
    Ok (record { new = Some found.0; stored = Some found.1 })))

-- what a word of group 0 does to the offsets in force after the line's system, and which parameters it stores
abbrev pub axis_data_by : Option NonModal → Block → Modes → Point → Offsets → List ℤ → Result AxisData Fault
axis_data_by (Some SetOrigin) b m machine o table = with_origin (system_on b.values.p) b m o table
axis_data_by (Some SetOffset) b m machine o table = with_offset b m machine o
axis_data_by (Some CancelOffsetAndParameters) b m machine o table = Ok (record { new = Some (dropped o); stored = Some (g92_changes zero_point) })
axis_data_by (Some CancelOffset) b m machine o table = Ok (record { new = Some (dropped o); stored = None })
axis_data_by (Some RestoreOffset) b m machine o table = and_then (restored o table) (λ new. Ok (record { new = Some new; stored = None }))
axis_data_by _ b m machine o table = Ok no_axis_data

abbrev pub axis_data_of : Block → Modes → Point → Offsets → List ℤ → Result AxisData Fault
axis_data_of b m machine o table = axis_data_by b.g.non_modal b m machine o table
