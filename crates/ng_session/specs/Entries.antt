-- What is committed, and the state after it (own).
use Rattle.std.specs.Prelude.{ℕ, ◌+◌, ℤ, List, ◌++◌, take, Bool, true, Result, Option, None, Some, unwrap_or, length, if◌then◌else◌}
use Rattle.std.specs.Option.{is_some}
use Rattle.ng_num.specs.declared.fault.Fault.{Fault}
use Rattle.ng_num.specs.declared.point.Point.{Point}
use Rattle.ng_canon.specs.declared.geometry.Geometry.{Geometry}
use Rattle.ng_canon.specs.declared.item.Item.{Item}
use Rattle.ng_canon.specs.declared.pace.Pace.TheVariants as pace
use Rattle.ng_canon.specs.declared.segment.Segment.TheVariants as segment
use Rattle.ng_cycles.specs.Segments.{after_segments, line_to}
use Rattle.ng_cycles.specs.declared.motion_state.MotionState.{MotionState}
use Rattle.ng_step.specs.Hands.{hand}
use Rattle.ng_params.specs.Lasting.{cleared}
use Rattle.ng_block.specs.Program.{TermsModel, executed_in_program, executed_unless_deleted, is_end}
use Rattle.ng_block.specs.Effects.{Done, executed}
use Rattle.ng_block.specs.Ends.{switched_off}
use Rattle.ng_state.specs.State.{StateModel}
use Rattle.ng_block.specs.declared.effect.ProgramFlow.{ProgramFlow}
use Rattle.ng_state.specs.declared.modal_state.ModalState.{ModalState}
use Rattle.ng_layout.specs.Stored.{HalfModel, StoredModel}
use Rattle.ng_offsets.specs.Tools.{with_slot}
use Rattle.ng_layout.specs.declared.half.Source.{Source}
use Rattle.ng_layout.specs.declared.half.Source.TheVariants.{Program, Mdi}
use Rattle.ng_text.specs.Programs.{lines_before}
use Rattle.ng_session.specs.declared.stage.Approach.{Approach}

-- what is committed: a line of the program or of the operator, begun with block delete on or off; a program; the point
-- at which the machine is; the approach to where a half-done block goes on; that such a block is given up; a tool's
-- length, in a slot of the table
pub data Entry : Type 0 where
  Block : Source → List ℕ → Bool → Entry
  Loaded : List ℕ → Entry
  Referenced : Point → Entry
  Approached : Entry
  Abandoned : Entry
  Tooled : ℕ → ℤ → Entry

abbrev pub terms_of : Geometry → List ℤ → Bool → TermsModel
terms_of geometry tools block_delete = record { block_delete = block_delete; tools = tools; geometry = geometry }

-- what a line does with the stored tool table, or why it is refused; a line of the program comes after those before its
-- place
unfoldable pub done_of : Geometry → List ℕ → StoredModel → Source → List ℕ → Bool → Result Done Fault
done_of geometry program x Program text block_delete = executed_in_program (terms_of geometry x.tools block_delete) (lines_before program x.place) x.setup text
done_of geometry program x Mdi text block_delete = executed_unless_deleted (terms_of geometry x.tools block_delete) x.setup text

-- what a half-done block does from its beginning, or why it is refused; it is neither deleted nor a percent line, since
-- it had a segment
unfoldable pub done_again : Geometry → StoredModel → List ℕ → Result Done Fault
done_again geometry x text = executed x.setup x.tools geometry text

-- where the program goes on after a block: after a line of the program at the next line, after the program's end at the
-- beginning
abbrev pub place_by : ℕ → ℕ → Source → ℕ
place_by next place Program = next
place_by next place Mdi = place

abbrev pub place_after : ℕ → ℕ → Source → ProgramFlow → ℕ
place_after next place source stop = if is_end stop then 0 else place_by next place source

-- the state after a block, given the place at which the next line of the program begins
abbrev pub after_block : ℕ → StoredModel → Source → Done → StoredModel
after_block next x source done =
    record x { entries = x.entries + 1; setup = done.setup; place = place_after next x.place source done.stop; half = None }

-- the state after the load of a program of this length
abbrev pub after_load : StoredModel → ℕ → StoredModel
after_load x length =
    record x { entries = x.entries + 1; setup = record { params = cleared x.setup.params; modal = x.setup.modal }; place = 0; length = length; half = None }

-- ---- a half-done block

-- the machine's position and outputs before a given segment of a block, if the block begins in a given state
abbrev pub motion_state_before : StateModel → Done → ℕ → MotionState
motion_state_before setup done n = after_segments (record { point = setup.modal.point; outputs = done.before }) (take n done.segments)

-- what an approach hands out: a switch with the outputs there, then a line at the traverse rate
abbrev pub hand_approach : Geometry → Approach → List Item
hand_approach geometry a = hand (segment.Switch a.to.outputs) geometry ++ hand (line_to pace.Traverse a.from a.to.point) geometry

-- the machine at a point that the operator gave
abbrev pub placed : StateModel → Point → StateModel
placed setup point = record { params = setup.params; modal = record setup.modal { point = point; point_known = true } }

-- a half-done block whose machine is at a point
abbrev pub placed_at : Point → HalfModel → HalfModel
placed_at point half = record half { at = Some point; opened = None }

-- the state after a reference; if a block is half-done, only the point of that block's machine changes
abbrev pub referenced : StoredModel → Point → Option HalfModel → StoredModel
referenced x point None = record x { entries = x.entries + 1; setup = placed x.setup point; half = None }
referenced x point (Some half) = record x { entries = x.entries + 1; half = Some (placed_at point half) }

abbrev pub after_reference : StoredModel → Point → StoredModel
after_reference x point = referenced x point x.half

-- the state after an approach of a half-done block that ended at a point
abbrev pub reached : StoredModel → HalfModel → Point → StoredModel
reached x half point = record x { entries = x.entries + 1; half = Some (placed_at point half) }

abbrev pub reached_by : StoredModel → Option HalfModel → Point → StoredModel
reached_by x None point = x
reached_by x (Some half) point = reached x half point

abbrev pub after_approach : StoredModel → Point → StoredModel
after_approach x point = reached_by x x.half point

-- the machine after a half-done block is given up: at the point of that block's machine, if that is known
abbrev pub given_up : ModalState → HalfModel → ModalState
given_up m half = record m { outputs = switched_off m.outputs; point = unwrap_or half.at m.point; point_known = is_some half.at }

abbrev pub abandoned : StoredModel → Option HalfModel → StoredModel
abandoned x None = x
abandoned x (Some half) = record x { entries = x.entries + 1; setup = record { params = x.setup.params; modal = given_up x.setup.modal half }; half = None }

-- the state after a half-done block is given up
abbrev pub after_abandon : StoredModel → StoredModel
after_abandon x = abandoned x x.half

-- ---- the tool table

-- the state after a tool's length was put into a slot; the length in force stays until the next G43
abbrev pub after_tool : StoredModel → ℕ → ℤ → StoredModel
after_tool x slot nm = record x { entries = x.entries + 1; tools = with_slot (record { slot = slot; length = nm }) x.tools }
