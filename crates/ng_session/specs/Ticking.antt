-- For a Tick: the reply, what is handed out and committed, and the session after it (own).
use Rattle.std.specs.Prelude.{ℕ, ◌+◌, min, Bool, true, if◌then◌else◌}
use Rattle.std.specs.Prelude.{Option, None, Some, Result, Ok, Err, List, [], ◌∷◌}
use Rattle.std.specs.Option.{option_map}
use Rattle.ng_num.specs.declared.point.Point.{Point}
use Rattle.ng_num.specs.declared.fault.Fault.{Fault}
use Rattle.ng_canon.specs.declared.geometry.Geometry.{Geometry}
use Rattle.ng_canon.specs.declared.item.Item.{Item}
use Rattle.ng_canon.specs.declared.segment.Segment.{Segment}
use Rattle.ng_step.specs.Hands.{hand}
use Rattle.ng_text.specs.Percent.{first_kind, missing_end}
use Rattle.ng_block.specs.Effects.{Done}
use Rattle.ng_block.specs.declared.effect.ProgramFlow.{ProgramFlow}
use Rattle.ng_block.specs.declared.effect.ProgramFlow.TheVariants as stop
use Rattle.ng_layout.specs.Stored.{HalfModel, StoredModel}
use Rattle.ng_layout.specs.declared.half.Source.{Source}
use Rattle.ng_layout.specs.declared.half.Source.TheVariants as source
use Rattle.ng_layout.specs.declared.half.Opened.{Opened}
use Rattle.ng_layout.specs.declared.half.Opened.TheVariants as open_part
use Rattle.ng_text.specs.Programs.{ProgramLineModel, lines_before, program_line_at}
use Rattle.ng_session.specs.Entries.{Entry, Block, Approached, done_of, hand_approach}
use Rattle.ng_session.specs.declared.activity.Activity.{Activity}
use Rattle.ng_session.specs.declared.activity.Activity.TheVariants as activity
use Rattle.ng_session.specs.declared.reply.Reply.{Reply}
use Rattle.ng_session.specs.declared.reply.Reply.TheVariants as reply
use Rattle.ng_session.specs.declared.stage.Approach.{Approach}
use Rattle.ng_session.specs.declared.stage.Stage.{Stage}
use Rattle.ng_session.specs.declared.stage.Stage.TheVariants as stage
use Rattle.ng_session.specs.Session.{CurrentBlockModel, SessionModel, Transition, answers, commits, is_running}
use Rattle.ng_session.specs.Session.{idleness, begun}

-- ---- the parts of a Tick

-- 1. the next item of what is open is handed out, if one is left
abbrev pub first_of : List Item → Option Item
first_of [] = None
first_of (item ∷ items) = Some item

abbrev pub rest_of : List Item → List Item
rest_of [] = []
rest_of (item ∷ items) = items

abbrev pub item_of : Option CurrentBlockModel → Option Item
item_of None = None
item_of (Some c) = first_of c.items

abbrev pub handed_on : CurrentBlockModel → CurrentBlockModel
handed_on c = record c { items = rest_of c.items }

abbrev pub handed : SessionModel → SessionModel
handed s = record s { current = option_map handed_on s.current }

abbrev pub hand_out : List ℕ → SessionModel → Item → Transition
hand_out program s item = record { reply = reply.Moved; items = item ∷ []; entries = []; program = program; next = handed s }

-- 2. the approach or the next segment is opened, if one is left: its block is stored as half-done. Indices are counted
-- up to the greatest number of 64 bits
abbrev pub greatest_index : ℕ
greatest_index = 18_446_744_073_709_551_615

abbrev pub half_open : CurrentBlockModel → Opened → HalfModel
half_open c opened = record { text = c.text; source = c.source; index = c.index; at = None; opened = Some opened }

abbrev pub segment_open : CurrentBlockModel → List Segment → Option HalfModel
segment_open c [] = None
segment_open c (segment ∷ left) = Some (half_open c open_part.Segment)

abbrev pub opening_on : CurrentBlockModel → Stage → Option HalfModel
opening_on c (stage.ToApproach a) = Some (half_open c open_part.Approach)
opening_on c (stage.OnApproach a) = None
opening_on c stage.OnBlock = segment_open c c.left

abbrev pub opening_of : Option CurrentBlockModel → Option HalfModel
opening_of None = None
opening_of (Some c) = opening_on c c.stage

abbrev pub next_opened : Geometry → CurrentBlockModel → List Segment → CurrentBlockModel
next_opened geometry c [] = c
next_opened geometry c (segment ∷ left) = record c { index = min (c.index + 1) greatest_index; left = left; items = hand segment geometry }

abbrev pub opened_on : Geometry → CurrentBlockModel → Stage → CurrentBlockModel
opened_on geometry c (stage.ToApproach a) = record c { stage = stage.OnApproach a; items = hand_approach geometry a }
opened_on geometry c (stage.OnApproach a) = c
opened_on geometry c stage.OnBlock = next_opened geometry c c.left

abbrev pub opened : Geometry → SessionModel → HalfModel → SessionModel
opened geometry s half = record s {
  stored = record s.stored { half = Some half };
  current = option_map (λ c. opened_on geometry c c.stage) s.current;
}

abbrev pub opening_reply : ℕ → Option Opened → Reply
opening_reply index None = reply.Opened index
opening_reply index (Some open_part.Segment) = reply.Opened index
opening_reply index (Some open_part.Approach) = reply.Approaching

abbrev pub open_part_of : Geometry → List ℕ → SessionModel → HalfModel → Transition
open_part_of geometry program s half = answers program (opening_reply half.index half.opened) (opened geometry s half)

-- 3. an approach with nothing left is committed: the half-done block's machine is then where the approach ends. A block
-- with nothing left is committed too. Optional stop takes effect here. M2, M30 and the closing percent line end the
-- program, and M0, M1 and M60 stop it; in a line of the operator, these three do nothing
abbrev pub stopped_by : Source → Bool → Activity → Activity
stopped_by source.Program wanted before = if wanted then activity.Stopped else before
stopped_by source.Mdi wanted before = before

abbrev pub activity_after : Source → ProgramFlow → Bool → Activity → Activity
activity_after source stop.GoesOn optional_stop before = before
activity_after source stop.Stops optional_stop before = stopped_by source true before
activity_after source stop.StopsIfWanted optional_stop before = stopped_by source optional_stop before
activity_after source stop.Ends optional_stop before = activity.Idle

-- the state after the current block
abbrev pub after_current_block : StoredModel → CurrentBlockModel → StoredModel
after_current_block x c = record x { entries = x.entries + 1; setup = c.setup; place = c.place; half = None }

-- the state after the approach of the current block, which ends at a point
abbrev pub after_current_approach : StoredModel → CurrentBlockModel → Point → StoredModel
after_current_approach x c point = record x {
  entries = x.entries + 1;
  half = Some (record { text = c.text; source = c.source; index = c.index; at = Some point; opened = None });
}

abbrev pub approach_done : SessionModel → CurrentBlockModel → Approach → SessionModel
approach_done s c a = record s { stored = after_current_approach s.stored c a.to.point; current = Some (record c { stage = stage.OnBlock }) }

-- an approach is opened before it is committed, so no Tick uses the first of these cases
abbrev pub committed_on : SessionModel → CurrentBlockModel → Stage → SessionModel
committed_on s c (stage.ToApproach a) = approach_done s c a
committed_on s c (stage.OnApproach a) = approach_done s c a
committed_on s c stage.OnBlock = record s {
  stored = after_current_block s.stored c;
  activity = activity_after c.source c.stop s.optional_stop s.activity;
  current = None;
}

abbrev pub committed : SessionModel → CurrentBlockModel → SessionModel
committed s c = committed_on s c c.stage

abbrev pub entry_on : CurrentBlockModel → Stage → Entry
entry_on c (stage.ToApproach a) = Approached
entry_on c (stage.OnApproach a) = Approached
entry_on c stage.OnBlock = Block c.source c.text c.block_delete

abbrev pub commit : List ℕ → SessionModel → CurrentBlockModel → Transition
commit program s c = commits program (entry_on c c.stage) (committed s c)

-- 4. a line of the program is begun; if it is refused, the program stops before it
abbrev pub begin_by : List ℕ → SessionModel → ProgramLineModel → Result Done Fault → Transition
begin_by program s line (Err fault) = answers program (reply.Refused fault) (record s { activity = activity.Stopped })
begin_by program s line (Ok done) =
    answers program reply.Begun (record s { current = Some (begun s.stored source.Program line.text s.block_delete line.next done) })

-- a program whose text ends without a program end stops there
abbrev pub break_off : List ℕ → SessionModel → Transition
break_off program s =
    answers program (reply.Refused (missing_end (first_kind (lines_before program s.stored.place))))
    (record s { activity = activity.Stopped })

abbrev pub begin : Geometry → List ℕ → SessionModel → Option ProgramLineModel → Transition
begin geometry program s None = break_off program s
begin geometry program s (Some line) = begin_by program s line (done_of geometry program s.stored source.Program line.text s.block_delete)

-- 5. there is nothing to do
abbrev pub rest : List ℕ → SessionModel → Transition
rest program s = answers program (idleness s.activity) s

-- ---- a Tick: nothing if held, else the first part that applies

abbrev pub if_some : {T : Type 0} → Option T → (found : T → Transition) → (otherwise : Transition) → Transition
if_some None found otherwise = otherwise
if_some (Some x) found otherwise = found x

abbrev pub tick : Geometry → List ℕ → SessionModel → Transition
tick geometry program s =
    if s.held then answers program reply.Held s
    else if_some (item_of s.current) (λ item. hand_out program s item)
    (if_some (opening_of s.current) (λ half. open_part_of geometry program s half)
    (if_some s.current (λ c. commit program s c)
    (if is_running s.activity then begin geometry program s (program_line_at program s.stored.place)
    else rest program s)))

-- a Tick from its third part on, and from its second part on
abbrev pub end : Geometry → List ℕ → SessionModel → Option CurrentBlockModel → Transition
end geometry program s current =
    if_some current (λ c. commit program s c)
    (if is_running s.activity then begin geometry program s (program_line_at program s.stored.place)
    else rest program s)

abbrev pub open_next : Geometry → List ℕ → SessionModel → Option HalfModel → Transition
open_next geometry program s opening = if_some opening (λ half. open_part_of geometry program s half) (end geometry program s s.current)

abbrev pub hand_next : Geometry → List ℕ → SessionModel → Option Item → Transition
hand_next geometry program s item = if_some item (λ item. hand_out program s item) (open_next geometry program s (opening_of s.current))
