-- A session over a list of events (own).
use Rattle.std.specs.Prelude.{ℕ, ◌+◌, List, [], ◌∷◌, ◌++◌, Option, Some, None}
use Rattle.ng_canon.specs.declared.item.Item.{Item}
use Rattle.ng_layout.specs.Stored.{DurableState}
use Rattle.ng_canon.specs.declared.geometry.Geometry.{Geometry}
use Rattle.ng_session.specs.Entries.{Entry}
use Rattle.ng_session.specs.Session.{CurrentBlockModel, SessionModel, Transition, resting}
use Rattle.ng_session.specs.Ticking.{entry_on}
use Rattle.ng_session.specs.Step.{step}
use Rattle.ng_session.specs.declared.event.Event.{Event}
use Rattle.ng_session.specs.declared.event.Event.TheVariants as event
use Rattle.ng_session.specs.declared.reply.Reply.{Reply}
use Rattle.ng_session.specs.declared.reply.Reply.TheVariants as reply

-- a session, with the program that the device has
pub record ProgramSession : Type 0 where
  pub program : List ℕ
  pub session : SessionModel

-- a session at power on
abbrev pub session_at_power_on : DurableState → ProgramSession
session_at_power_on x = record { program = x.program; session = resting x.saved }

abbrev pub leads_to : {A : Type 0} → Geometry → ProgramSession → Event A → Transition
leads_to geometry s event = step geometry s.program s.session event

abbrev pub session_of_transition : Transition → ProgramSession
session_of_transition out = record { program = out.program; session = out.next }

abbrev pub replies_of : {A : Type 0} → Geometry → ProgramSession → List (Event A) → List Reply
replies_of geometry s [] = []
replies_of geometry s (event ∷ events) = (leads_to geometry s event).reply ∷ replies_of geometry (session_of_transition (leads_to geometry s event)) events

abbrev pub items_of : {A : Type 0} → Geometry → ProgramSession → List (Event A) → List Item
items_of geometry s [] = []
items_of geometry s (event ∷ events) = (leads_to geometry s event).items ++ items_of geometry (session_of_transition (leads_to geometry s event)) events

abbrev pub entries_of : {A : Type 0} → Geometry → ProgramSession → List (Event A) → List Entry
entries_of geometry s [] = []
entries_of geometry s (event ∷ events) = (leads_to geometry s event).entries ++ entries_of geometry (session_of_transition (leads_to geometry s event)) events

abbrev pub session_after : {A : Type 0} → Geometry → ProgramSession → List (Event A) → ProgramSession
session_after geometry s [] = s
session_after geometry s (event ∷ events) = session_after geometry (session_of_transition (leads_to geometry s event)) events

-- the entry as which the current block, or the approach before it, is committed
abbrev pub entry_of : Option CurrentBlockModel → List Entry
entry_of None = []
entry_of (Some c) = entry_on c c.stage ∷ []

-- what is under way after some events
abbrev pub under_way : {A : Type 0} → Geometry → ProgramSession → List (Event A) → List Entry
under_way geometry s events = entry_of (session_after geometry s events).session.current

-- what a power cut leaves: the stored state, and the items handed out
pub record CrashState : Type 0 where
  pub standing : DurableState
  pub items : List Item

abbrev pub crash_in : ProgramSession → List Item → CrashState
crash_in s items = record { standing = record { saved = s.session.stored; program = s.program }; items = items }

-- what a power cut leaves after some events, given the items handed out before
abbrev pub crash_after : {A : Type 0} → Geometry → ProgramSession → List Item → List (Event A) → CrashState
crash_after geometry s before events = crash_in (session_after geometry s events) (before ++ items_of geometry s events)

abbrev pub done_count : Reply → ℕ
done_count (reply.Done n) = 1
done_count reply.Begun = 0
done_count reply.Moved = 0
done_count (reply.Opened index) = 0
done_count reply.Approaching = 0
done_count reply.Going = 0
done_count reply.Held = 0
done_count reply.Idle = 0
done_count reply.Stopped = 0
done_count reply.Taken = 0
done_count (reply.Status status) = 0
done_count (reply.Refused fault) = 0

-- how many entries were acknowledged
abbrev pub dones : List Reply → ℕ
dones [] = 0
dones (r ∷ rs) = done_count r + dones rs

-- the lines that the operator gave
abbrev pub given_by : {A : Type 0} → Event A → List (List ℕ)
given_by (event.Load text) = []
given_by event.Start = []
given_by event.Hold = []
given_by event.Continue = []
given_by (event.Mdi text) = text ∷ []
given_by (event.Reference point) = []
given_by event.Resume = []
given_by event.Abandon = []
given_by (event.Tool slot nm) = []
given_by (event.OptionalStop wanted) = []
given_by (event.BlockDelete on) = []
given_by event.Status = []
given_by event.Tick = []

abbrev pub lines_given : {A : Type 0} → List (Event A) → List (List ℕ)
lines_given [] = []
lines_given (event ∷ events) = given_by event ++ lines_given events
