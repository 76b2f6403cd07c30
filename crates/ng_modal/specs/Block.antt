-- What a line does, given the modes before it: what it moves, and the modes after it (NISTIR 6556, 3.4 and 3.5).
use Rattle.std.specs.Prelude.{Bool, true, false, not, ◌&&◌, Option, Some, None, unwrap_or}
use Rattle.std.specs.Option.{option_and_then}
use Rattle.ng_canon.specs.declared.plane.Plane.{Plane}
use Rattle.ng_modal.specs.ByLetter.{has_axis}
use Rattle.ng_modal.specs.declared.requests.NonModal.{NonModal}
use Rattle.ng_modal.specs.declared.requests.NonModal.TheVariants.{SetOrigin, Home, SecondHome, SetOffset}
use Rattle.ng_modal.specs.declared.by_group.GWords.{GWords}
use Rattle.ng_modal.specs.declared.by_letter.ByLetter.{ByLetter}
use Rattle.ng_modal.specs.declared.block.Block.{Block}
use Rattle.ng_state.specs.declared.modes.Modes.{Modes}
use Rattle.ng_state.specs.declared.modes.Motion.{Motion}
use Rattle.ng_modal.specs.declared.movement.Movement.{Movement}
use Rattle.ng_modal.specs.Movement.{movement_of}

-- G10, G28, G30 and G92 use the axis words of their line
abbrev pub takes_axes : Option NonModal → Bool
takes_axes (Some SetOrigin) = true
takes_axes (Some Home) = true
takes_axes (Some SecondHome) = true
takes_axes (Some SetOffset) = true
takes_axes _ = false

-- the motion mode by which a line moves: that of its group 1 word or, without one, the mode in force, if axis words
-- call for it
abbrev pub motion_by : Option Motion → Bool → Motion → Option Motion
motion_by (Some word) calls mode = Some word
motion_by None true mode = Some mode
motion_by None false mode = None

-- what the line moves: axis words call for a movement unless a word of group 0 uses them
abbrev pub movement_for : GWords → ByLetter → Motion → Option Movement
movement_for g v mode = option_and_then movement_of (motion_by g.motion (has_axis v && not (takes_axes g.non_modal)) mode)

-- what its group 1 word moves
abbrev pub movement_of_word : Block → Option Movement
movement_of_word b = option_and_then movement_of b.g.motion

-- the motion mode and the plane after the line
abbrev pub motion_after : Block → Modes → Motion
motion_after b m = unwrap_or b.g.motion m.motion

abbrev pub plane_after : Block → Modes → Plane
plane_after b m = unwrap_or b.g.plane m.plane
