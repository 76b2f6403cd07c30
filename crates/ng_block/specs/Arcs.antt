-- G2 and G3: the arc that a line asks for (NISTIR 6556, 3.5.3; that an end equal to the start is a full turn is own).
use Rattle.std.specs.Prelude.{ℤ, Option, Some, None, Result, Ok}
use Rattle.std.specs.Option.{is_some}
use Rattle.ng_num.specs.Results.{and_then}
use Rattle.ng_num.specs.declared.point.Point.{Point}
use Rattle.ng_num.specs.declared.fault.Fault.{Fault}
use Rattle.ng_canon.specs.declared.pace.Pace.{Pace}
use Rattle.ng_canon.specs.declared.plane.ArcDirection.{ArcDirection}
use Rattle.ng_arc.specs.Checking.{checked}
use Rattle.ng_arc.specs.Shape.{arc_at}
use Rattle.ng_arc.specs.declared.shape.ArcShape.{ArcShape}
use Rattle.ng_arc.specs.declared.asked.AskedArc.{AskedArc}
use Rattle.ng_arc.specs.declared.asked.NamedAxes.{NamedAxes}
use Rattle.ng_arc.specs.declared.asked.CentreOffsets.{CentreOffsets}
use Rattle.ng_modal.specs.Block.{plane_after}
use Rattle.ng_modal.specs.declared.block.Block.{Block}
use Rattle.ng_modal.specs.declared.by_letter.ByLetter.{ByLetter}
use Rattle.ng_state.specs.declared.modes.Modes.{Modes}
use Rattle.ng_offsets.specs.Named.{named_by}
use Rattle.ng_offsets.specs.declared.offsets.Offsets.{Offsets}
use Rattle.ng_state.specs.declared.modal_state.ModalState.{ModalState}
use Rattle.ng_block.specs.declared.path.Path.{Path}
use Rattle.ng_block.specs.declared.path.Path.TheVariants.{WithoutFeed, Round}
use Rattle.ng_block.specs.AxisData.{unit_after}
use Rattle.ng_block.specs.Motion.{fed_pace_of, end_of}

-- the axes that the line names
abbrev pub axes_on : ByLetter → NamedAxes
axes_on v = record { x = is_some v.x; y = is_some v.y; z = is_some v.z }

-- how far the centre is from the start: I, J and K, in the unit after the line
abbrev pub centre_offsets_on : Block → Modes → Result CentreOffsets Fault
centre_offsets_on b m =
    and_then (named_by b.values.i b.values.j b.values.k (unit_after b m)) (λ named.
    Ok (record { i = named.x; j = named.y; k = named.z }))

-- the arc from the machine's position
abbrev pub asked_by : Block → ModalState → ArcDirection → Point → CentreOffsets → AskedArc
asked_by b m turn end offsets = record {
  plane = plane_after b m.modes;
  turn = turn;
  start = m.point;
  end = end;
  named = axes_on b.values;
  offsets = offsets;
  unit = unit_after b m.modes;
}

-- around an arc at a pace; a block that moves without a pace is refused
abbrev pub round_path_at : Option Pace → ArcShape → Path
round_path_at None shape = WithoutFeed
round_path_at (Some pace) shape = Round (arc_at shape pace)

-- around to the line's end, with the feed after the line; or E3 if a computed length, also of the centre, is out of
-- range, or else the first of C1 to C4
unfoldable pub path_along_arc : ArcDirection → Block → ModalState → Offsets → ℤ → Result Path Fault
path_along_arc turn b m o feed =
    and_then (end_of b m o) (λ end.
    and_then (centre_offsets_on b m.modes) (λ offsets.
    and_then (checked (asked_by b m turn end offsets)) (λ shape.
    Ok (round_path_at (fed_pace_of b m feed) shape))))
