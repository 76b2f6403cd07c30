-- What a list of events does (own).
use Rattle.std.specs.Prelude.{◌≡◌, ◌≤◌, ◌+◌, ◌%◌, ◌^◌, ℕ, suc, Bool, true, false, List, [], ◌∷◌, ◌++◌, length, map, take, Result, Ok, Err}
use Rattle.ng_num.specs.declared.fault.Fault.{Fault}
use Rattle.ng_num.specs.declared.fault.Fault.TheVariants.{DeviceFailed}
use Rattle.ng_canon.specs.declared.item.Item.{Item}
use Rattle.ng_rig.specs.Rig.{Device}
use Rattle.ng_rig.specs.Trace.{Image, Trace, items, moment}
use Rattle.ng_journal.specs.Journal.{StandsFor}
use Rattle.ng_canon.specs.declared.geometry.Geometry.{Geometry}
use Rattle.ng_session.specs.Runs.{ProgramSession, crash_after, replies_of, items_of, session_after}
use Rattle.ng_session.specs.declared.event.Event.{Event}
use Rattle.ng_session.specs.declared.reply.Reply.{Reply}
use Rattle.ng_core.specs.Model.{ControllerModel, IsAtRestWith}
use Rattle.ng_core.specs.Events.{reply_to, program_session_of}
use Rattle.ng_core.specs.Moments.{AtEachStop, IsRising, answered_by}

-- ---- what happened, in terms of the session alone

-- the events that the session answered, until the device failed
abbrev pub answered_events_by : {A : Type 0} → Result Reply Fault → Event A → List (Event A) → List (Event A)
answered_events_by (Ok r) event events = event ∷ events
answered_events_by (Err DeviceFailed) event events = []
answered_events_by (Err fault) event events = events

abbrev pub answered_events : {A : Type 0} → List (Event A) → List (Result Reply Fault) → List (Event A)
answered_events [] answers = []
answered_events (event ∷ events) [] = []
answered_events (event ∷ events) (answer ∷ answers) = answered_events_by answer event (answered_events events answers)

-- those events, and the one in which it failed
abbrev pub tried_events_by : {A : Type 0} → Result Reply Fault → Event A → List (Event A) → List (Event A)
tried_events_by (Ok r) event events = event ∷ events
tried_events_by (Err DeviceFailed) event events = event ∷ []
tried_events_by (Err fault) event events = events

abbrev pub tried_events : {A : Type 0} → List (Event A) → List (Result Reply Fault) → List (Event A)
tried_events [] answers = []
tried_events (event ∷ events) [] = []
tried_events (event ∷ events) (answer ∷ answers) = tried_events_by answer event (tried_events events answers)

-- the replies to the events that came
abbrev pub session_replies_by : Result Reply Fault → List Reply → List Reply
session_replies_by (Ok r) replies = r ∷ replies
session_replies_by (Err DeviceFailed) replies = []
session_replies_by (Err fault) replies = replies

abbrev pub session_replies : List (Result Reply Fault) → List Reply
session_replies [] = []
session_replies (answer ∷ answers) = session_replies_by answer (session_replies answers)

-- A stop leaves the state after the first n of these events, and what they handed out; n is at least `least`.
pub record IsCrashAfterSome {A : Type 0} (least : ℕ) (geometry : Geometry) (scene : ProgramSession)
    (before : List Item) (events : List (Event A)) (image : Image) (handed : List Item) : Type 0 where
  pub count : ℕ
  pub all : least ≤ count
  pub within : count ≤ length events
  pub stands_for : let left = crash_after geometry scene before (take count events) in StandsFor left.standing left.items image handed

-- The replies are the session's, to the events that came. Each event was answered at its moment of the device's trace.
-- A stop leaves the state after those that came of the events answered by then, or after the one under way too. Unless
-- the device failed, the state and the items handed out now are the session's.
pub record PassesAsSession {A R : Type 0} (seen : R → Device) (events : List (Event A)) (replies : List Reply)
    (moments : List ℕ) (geometry : Geometry) (scene : ProgramSession) (trace_old : Trace) (new : ControllerModel R)
    : Type 0 where
  pub answers : List (Result Reply Fault)
  pub replies_are : replies ≡ map reply_to answers
  pub told_is : session_replies answers ≡ replies_of geometry scene (answered_events events answers)
  pub each : length moments ≡ length events
  pub rising : IsRising (moment trace_old) (moment (seen new.journal.rig).trace) moments
  pub stops : AtEachStop trace_old (seen new.journal.rig).trace (λ t. let n = answered_by t moments in
      IsCrashAfterSome (length (answered_events (take n events) answers)) geometry scene (items trace_old) (tried_events (take (suc n) events) answers))
  pub session_is : new.journal.broken ≡ false → new.session ≡ (session_after geometry scene (answered_events events answers)).session
  pub rests : new.journal.broken ≡ false → IsAtRestWith (seen new.journal.rig).trace new (session_after geometry scene (answered_events events answers)).program
  pub items_are : new.journal.broken ≡ false → items (seen new.journal.rig).trace ≡ items trace_old ++ items_of geometry scene (answered_events events answers)

-- whatever program is stored with the session, the events proceed as the session does
abbrev pub IsRun : {A R : Type 0} → (R → Device) → List (Event A) → List Reply → (moments : List ℕ) → ControllerModel R → ControllerModel R → Type 0
IsRun seen events replies moments old new = (program : List ℕ) → old.journal.broken ≡ false → IsAtRestWith (seen old.journal.rig).trace old program
    → PassesAsSession seen events replies moments old.geometry (program_session_of program old) (seen old.journal.rig).trace new

-- The device counted one failure if the controller broke, and none otherwise; a broken controller stays broken.
abbrev pub CountsOneFailure : Bool → Bool → ℕ → ℕ → Type 0
CountsOneFailure true broken old new = (broken ≡ true) × (new ≡ old)
CountsOneFailure false true old new = new ≡ (old + 1) % 2 ^ 64
CountsOneFailure false false old new = new ≡ old
