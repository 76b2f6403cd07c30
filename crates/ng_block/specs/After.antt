-- The state after a block, one equation for each field (NISTIR 6556, 3.5, 3.6, 3.8; the program's end 3.6.1).
use Rattle.std.specs.Prelude.{Bool, not, ◌||◌, unwrap_or, if◌then◌else◌}
use Rattle.std.specs.Option.{is_some}
use Rattle.ng_canon.specs.declared.plane.Plane.TheVariants.{Xy}
use Rattle.ng_modal.specs.Block.{motion_after, plane_after}
use Rattle.ng_modal.specs.declared.block.Block.{Block}
use Rattle.ng_state.specs.declared.modes.Modes.{Modes}
use Rattle.ng_state.specs.declared.modes.Motion.TheVariants.{Feed}
use Rattle.ng_state.specs.declared.modes.Distance.TheVariants.{Absolute}
use Rattle.ng_state.specs.declared.modes.FeedMode.TheVariants.{PerMinute}
use Rattle.ng_state.specs.declared.modal_state.ModalState.{ModalState}
use Rattle.ng_block.specs.AxisData.{system_after}
use Rattle.ng_block.specs.Motion.{feed_mode_after}
use Rattle.ng_block.specs.Ends.{ends}
use Rattle.ng_block.specs.Goal.{Goal}
use Rattle.ng_block.specs.Path.{point_after}
use Rattle.ng_block.specs.Plan.{Plan, outputs_of}

-- the program's end sets G1, G17, G90, G94, G54, M48; unit, retract and path mode stay
abbrev pub modes_after : Block → Modes → Modes
modes_after b m = record {
  motion = if ends b.m.stop then Feed else motion_after b m;
  plane = if ends b.m.stop then Xy else plane_after b m;
  distance = if ends b.m.stop then Absolute else unwrap_or b.g.distance m.distance;
  feed_mode = if ends b.m.stop then PerMinute else feed_mode_after b m;
  unit = unwrap_or b.g.unit m.unit;
  retract = unwrap_or b.g.retract m.retract;
  system = if ends b.m.stop then 1 else system_after b m;
  path = unwrap_or b.g.path m.path;
  overrides = ends b.m.stop || unwrap_or b.m.overrides m.overrides;
}

-- no word of a block changes a mode but the motion
abbrev pub keeps_modes : Block → Bool
keeps_modes b =
    not (is_some b.g.plane || is_some b.g.distance || is_some b.g.feed_mode || is_some b.g.unit || is_some b.g.retract || is_some b.g.path || is_some b.g.system
    || is_some b.m.overrides || is_some b.m.stop)

abbrev pub modal_state_after : Block → Goal → Plan → ModalState → ModalState
modal_state_after b goal plan m = record {
  modes = modes_after b m.modes;
  feed_per_min = goal.feed_per_min;
  outputs = outputs_of plan;
  offsets = goal.offsets;
  kept = goal.kept;
  point = point_after goal.path m.point;
  point_known = m.point_known;
}
