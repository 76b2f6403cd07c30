-- For each event of the operator: the reply, what is committed, and the session after it (own).
use Rattle.std.specs.Prelude.{ℕ, ℤ, ◌==◌, nat_lt, Bool, true, false, not, ◌&&◌, ◌||◌, if◌then◌else◌}
use Rattle.std.specs.Prelude.{Option, None, Some, unwrap_or, Result, Ok, Err, List, [], drop, length}
use Rattle.std.specs.Option.{is_some, is_none, option_map}
use Rattle.ng_num.specs.declared.point.Point.{Point}
use Rattle.ng_num.specs.declared.fault.Fault.{Fault}
use Rattle.ng_num.specs.declared.fault.Fault.TheVariants as fault
use Rattle.ng_canon.specs.Geometry.{is_inside}
use Rattle.ng_canon.specs.declared.geometry.Geometry.{Geometry}
use Rattle.ng_block.specs.Effects.{Done}
use Rattle.ng_offsets.specs.Tools.{is_tool_length}
use Rattle.ng_layout.specs.Tools.{takes_slot}
use Rattle.ng_layout.specs.Stored.{HalfModel, StoredModel}
use Rattle.ng_layout.specs.declared.half.Source.{Source}
use Rattle.ng_layout.specs.declared.half.Source.TheVariants as source
use Rattle.ng_text.specs.Programs.{next_line_start}
use Rattle.ng_session.specs.Entries.{Loaded, Referenced, Abandoned, Tooled, done_of}
use Rattle.ng_session.specs.Entries.{done_again, place_after, after_load, motion_state_before}
use Rattle.ng_session.specs.Entries.{after_reference, after_abandon, after_tool}
use Rattle.ng_session.specs.declared.activity.Activity.{Activity}
use Rattle.ng_session.specs.declared.activity.Activity.TheVariants as activity
use Rattle.ng_session.specs.declared.reply.Reply.TheVariants as reply
use Rattle.ng_session.specs.declared.reply.Condition.{Condition}
use Rattle.ng_session.specs.declared.reply.Condition.TheVariants as condition
use Rattle.ng_session.specs.declared.reply.HalfShown.{HalfShown}
use Rattle.ng_session.specs.declared.reply.Status.{Status}
use Rattle.ng_session.specs.declared.stage.Stage.TheVariants as stage
use Rattle.ng_session.specs.Session.{CurrentBlockModel, SessionModel, Transition, answers, refuses, commits}
use Rattle.ng_session.specs.Session.{is_running, is_idle, is_at_rest, accepts_load, idleness, begun}

-- ---- the operator's events

abbrev pub start : List ℕ → SessionModel → Transition
start program s =
    if not (accepts_load s) then refuses program fault.Busy s
    else if not s.stored.setup.modal.point_known then refuses program fault.PlaceUnknown s
    else if s.stored.length == 0 then refuses program fault.NoProgram s
    else answers program reply.Going (record s { activity = activity.Running })

abbrev pub hold : List ℕ → SessionModel → Transition
hold program s =
    if is_running s.activity || is_some s.current then answers program reply.Held (record s { held = true })
    else answers program (idleness s.activity) s

abbrev pub resume_held : List ℕ → SessionModel → Transition
resume_held program s =
    if s.held then answers program reply.Going (record s { held = false })
    else if is_running s.activity || is_some s.current then refuses program fault.Busy s
    else if is_idle s.activity then refuses program fault.NoProgram s
    else answers program reply.Going (record s { activity = activity.Running })

-- a line of the operator ends a hold, and the program that was held waits
abbrev pub mdi_by : List ℕ → SessionModel → List ℕ → Result Done Fault → Transition
mdi_by program s text (Err fault) = refuses program fault s
mdi_by program s text (Ok done) = answers program reply.Begun (record s {
  current = Some (begun s.stored source.Mdi text s.block_delete s.stored.place done);
  held = false;
  activity = if s.held && is_running s.activity then activity.Stopped else s.activity;
})

-- a block is current or half-done, or the program runs and isn't held
abbrev pub refuses_mdi : SessionModel → Bool
refuses_mdi s = is_some s.current || (is_running s.activity && not s.held) || is_some s.stored.half

-- block delete takes effect here, when the line is begun
abbrev pub mdi : Geometry → List ℕ → SessionModel → List ℕ → Transition
mdi geometry program s text =
    if refuses_mdi s then refuses program fault.Busy s
    else if not s.stored.setup.modal.point_known then refuses program fault.PlaceUnknown s
    else mdi_by program s text (done_of geometry program s.stored source.Mdi text s.block_delete)

abbrev pub load_refusal : SessionModel → List ℕ → Option Fault
load_refusal s text =
    if not (accepts_load s) then Some fault.Busy
    else if nat_lt s.stored.program_limit (length text) then Some fault.ProgramTooLong
    else None

abbrev pub loaded : SessionModel → StoredModel → SessionModel
loaded s x = record s { stored = x; activity = activity.Idle }

abbrev pub load_unless : List ℕ → SessionModel → List ℕ → Option Fault → Transition
load_unless program s text (Some fault) = refuses program fault s
load_unless program s text None = commits text (Loaded text) (loaded s (after_load s.stored (length text)))

abbrev pub load : List ℕ → SessionModel → List ℕ → Transition
load program s text = load_unless program s text (load_refusal s text)

-- ---- a half-done block: the point of its machine is given, it goes on, or it is given up

-- the point may be given whether or not a block is half-done
abbrev pub reference_refusal : Geometry → SessionModel → Point → Option Fault
reference_refusal geometry s point =
    if not (is_at_rest s) then Some fault.Busy
    else if not (is_inside geometry point) then Some fault.OutsideTravel
    else None

abbrev pub reference_unless : List ℕ → SessionModel → Point → Option Fault → Transition
reference_unless program s point (Some fault) = refuses program fault s
reference_unless program s point None = commits program (Referenced point) (record s { stored = after_reference s.stored point })

abbrev pub reference : Geometry → List ℕ → SessionModel → Point → Transition
reference geometry program s point = reference_unless program s point (reference_refusal geometry s point)

-- why a half-done block can't be given up
abbrev pub abandon_refusal : SessionModel → Option Fault
abandon_refusal s =
    if not (is_at_rest s) then Some fault.Busy
    else if is_none s.stored.half then Some fault.NothingHalfDone
    else None

abbrev pub abandon_unless : List ℕ → SessionModel → Option Fault → Transition
abandon_unless program s (Some fault) = refuses program fault s
abandon_unless program s None = commits program Abandoned (record s { stored = after_abandon s.stored })

abbrev pub abandon : List ℕ → SessionModel → Transition
abandon program s = abandon_unless program s (abandon_refusal s)

-- The half-done block from its index on, after the approach from a point. The state after it is that after the whole
-- block.
abbrev pub begun_again : StoredModel → HalfModel → Point → ℕ → Done → CurrentBlockModel
begun_again x half from next done = record {
  source = half.source;
  text = half.text;
  block_delete = false;
  stage = stage.ToApproach (record { from = from; to = motion_state_before x.setup done half.index });
  index = half.index;
  left = drop half.index done.segments;
  items = [];
  setup = done.setup;
  place = place_after next x.place half.source done.stop;
  stop = done.stop;
}

-- if the block is a line of the program, the program goes on too
abbrev pub activity_again : Source → Activity → Activity
activity_again source.Program before = activity.Running
activity_again source.Mdi before = before

-- where the next line of the program begins then: after the block's line, if that came from the program
abbrev pub next_place_after : List ℕ → ℕ → Source → ℕ
next_place_after program place source.Program = next_line_start program place
next_place_after program place source.Mdi = place

-- why a line is refused, if it is
abbrev pub refusal_of : Result Done Fault → Option Fault
refusal_of (Ok done) = None
refusal_of (Err fault) = Some fault

abbrev pub half_refusal : Geometry → StoredModel → HalfModel → Option Point → Option Fault
half_refusal geometry x half None = Some fault.PlaceUnknown
half_refusal geometry x half (Some from) = refusal_of (done_again geometry x half.text)

abbrev pub waiting_refusal : Geometry → StoredModel → Option HalfModel → Option Fault
waiting_refusal geometry x None = Some fault.NothingHalfDone
waiting_refusal geometry x (Some half) = half_refusal geometry x half half.at

-- why a half-done block can't go on: the session isn't at rest, no block is half-done, the point of its machine isn't
-- known, or its line is refused
abbrev pub resume_refusal : Geometry → SessionModel → Option Fault
resume_refusal geometry s = if not (is_at_rest s) then Some fault.Busy else waiting_refusal geometry s.stored s.stored.half

abbrev pub resume_by : List ℕ → SessionModel → HalfModel → Point → Result Done Fault → Transition
resume_by program s half from (Err fault) = refuses program fault s
resume_by program s half from (Ok done) = answers program reply.Going (record s {
  current = Some (begun_again s.stored half from (next_place_after program s.stored.place half.source) done);
  activity = activity_again half.source s.activity;
})

abbrev pub resume_from : Geometry → List ℕ → SessionModel → HalfModel → Option Point → Transition
resume_from geometry program s half None = refuses program fault.PlaceUnknown s
resume_from geometry program s half (Some from) = resume_by program s half from (done_again geometry s.stored half.text)

abbrev pub resume_half : Geometry → List ℕ → SessionModel → Option HalfModel → Transition
resume_half geometry program s None = refuses program fault.NothingHalfDone s
resume_half geometry program s (Some half) = resume_from geometry program s half half.at

abbrev pub resume : Geometry → List ℕ → SessionModel → Transition
resume geometry program s = if not (is_at_rest s) then refuses program fault.Busy s else resume_half geometry program s s.stored.half

-- ---- the tool table

-- why a tool's length is refused: the session isn't at rest or a block is half-done, there is no such slot, or the
-- length isn't a tool's
abbrev pub tool_refusal : SessionModel → ℕ → ℤ → Option Fault
tool_refusal s slot nm =
    if not (accepts_load s) then Some fault.Busy
    else if not (takes_slot s.stored.tools slot) then Some fault.BadSlot
    else if not (is_tool_length nm) then Some fault.OutOfRange
    else None

abbrev pub tool_unless : List ℕ → SessionModel → ℕ → ℤ → Option Fault → Transition
tool_unless program s slot nm (Some fault) = refuses program fault s
tool_unless program s slot nm None = commits program (Tooled slot nm) (record s { stored = after_tool s.stored slot nm })

abbrev pub tool : List ℕ → SessionModel → ℕ → ℤ → Transition
tool program s slot nm = tool_unless program s slot nm (tool_refusal s slot nm)

-- ---- what the status shows

-- a block with an open segment counts as half-done
abbrev pub point_shown : Point → Option HalfModel → Point
point_shown point None = point
point_shown point (Some half) = unwrap_or half.at point

abbrev pub point_known_shown : Bool → Option HalfModel → Bool
point_known_shown known None = known
point_known_shown known (Some half) = is_some half.at

abbrev pub half_shown : HalfModel → HalfShown
half_shown half = record { source = half.source; index = half.index }

abbrev pub condition_of : Activity → Condition
condition_of activity.Idle = condition.Idle
condition_of activity.Running = condition.Running
condition_of activity.Stopped = condition.Stopped

abbrev pub session_status : SessionModel → Status
session_status s = record {
  entries = s.stored.entries;
  place = s.stored.place;
  point = point_shown s.stored.setup.modal.point s.stored.half;
  point_known = point_known_shown s.stored.setup.modal.point_known s.stored.half;
  half = option_map half_shown s.stored.half;
  condition = if s.held then condition.Held else condition_of s.activity;
}
