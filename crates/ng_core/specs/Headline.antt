-- What a power cut at any time since power on leaves, in terms of the plain interpreter alone (own).
use Rattle.std.specs.Prelude.{◌≡◌, ◌≤◌, ◌+◌, ℕ, ℤ, suc, false, List, [], ◌++◌, length, take, drop, Ok, IfOk}
use Rattle.ng_canon.specs.declared.item.Item.{Item}
use Rattle.ng_rig.specs.Rig.{Device}
use Rattle.ng_rig.specs.Calls.{IfHonest}
use Rattle.ng_rig.specs.Trace.{Image, Trace, reads, items, moment, trace_at, IsStop}
use Rattle.ng_layout.specs.Stands.{stands_beside, IsWritten}
use Rattle.ng_layout.specs.Stored.{DurableState}
use Rattle.ng_journal.specs.Journal.{StandsFor}
use Rattle.ng_journal.specs.Recovery.{recovered_of}
use Rattle.ng_canon.specs.declared.geometry.Geometry.{Geometry}
use Rattle.ng_session.specs.Entries.{Entry}
use Rattle.ng_session.specs.Session.{resting}
use Rattle.ng_session.specs.Runs.{CrashState, session_at_power_on, entries_of, under_way, dones, lines_given}
use Rattle.ng_session.specs.Cuts.{IsCut}
use Rattle.ng_session.specs.declared.event.Event.{Event}
use Rattle.ng_session.specs.declared.reply.Reply.{Reply}
use Rattle.ng_core.specs.Model.{ControllerModel, IsAtRestWith}
use Rattle.ng_core.specs.Moments.{AtEachStop, answered_by}
use Rattle.ng_core.specs.Power.{PowerOnResult}
use Rattle.ng_core.specs.Runs.{PassesAsSession, IsRun, tried_events}
use Rattle.ng_core.specs.AnsweredEvents.{AreAnsweredEvents, answered_at}

-- ---- what happened since power on

-- A controller as power on returned it over a durable state: whole, at rest, and with its device at rest with that
-- state.
pub record IsPoweredOn {R : Type 0} (seen : R → Device) (x : DurableState) (c : ControllerModel R) : Type 0 where
  pub whole : c.journal.broken ≡ false
  pub session : c.session ≡ resting x.saved
  pub rests : IsAtRestWith (seen c.journal.rig).trace c x.program

-- What happened from there until now: these events, each with its reply and with the moment at which it was answered.
pub record IsPast {A R : Type 0} (seen : R → Device) (x : DurableState) (events : List (Event A))
    (replies : List Reply) (moments : List ℕ) (first now : ControllerModel R) : Type 0 where
  pub began : IsPoweredOn seen x first
  pub exchanges : AreAnsweredEvents seen events replies first now
  pub answered : moments ≡ answered_at seen events replies first now exchanges

-- ---- what a stop leaves of it

-- A stop leaves a cut of the first of the executed entries, as many as were acknowledged or one more. The plain
-- interpreter carries them out from the state at power on, with the lines that the operator gave. The other executed
-- entries come next, and what is under way then.
pub record IsAccounted (geometry : Geometry) (lines : List (List ℕ)) (x : DurableState) (before : List Item)
    (executed begun : List Entry) (acknowledged : ℕ) (image : Image) (handed : List Item) : Type 0 where
  pub count : ℕ
  pub all : acknowledged ≤ count
  pub few : count ≤ acknowledged + 1
  pub within : count ≤ length executed
  pub left : CrashState
  pub cut : IsCut geometry lines x before (take count executed) (drop count (executed ++ begun)) left
  pub stands_for : StandsFor left.standing left.items image handed

-- The events proceed as the session does. Whenever power was cut since power on, the stop is accounted for: by the
-- entries that the session executed for the events answered by then and for the one under way, and by what is under way
-- after that; by as many entries as replies of Done by then, or one more; and by the lines that these events gave. The
-- moments are those at which the events were answered.
pub record Accounts {A R : Type 0} (seen : R → Device) (x : DurableState) (events : List (Event A))
    (replies : List Reply) (moments : List ℕ) (first now : ControllerModel R) : Type 0 where
  pub passes : PassesAsSession seen events replies moments first.geometry (session_at_power_on x) (seen first.journal.rig).trace now
  pub stops : AtEachStop (seen first.journal.rig).trace (seen now.journal.rig).trace
      (λ t. let n = answered_by t moments in let tried = tried_events (take (suc n) events) passes.answers in
      IsAccounted first.geometry (lines_given (take (suc n) events)) x (items (seen first.journal.rig).trace)
      (entries_of first.geometry (session_at_power_on x) tried)
      (under_way first.geometry (session_at_power_on x) tried) (dones (take n replies)))

-- So a stop has as many entries more than the state at power on as there were replies of Done by its moment, or one
-- more, with whatever table power on reads it.
abbrev pub CountsAcknowledged : {R : Type 0} → (R → Device) → DurableState → List Reply → (moments : List ℕ) → ControllerModel R → ControllerModel R → Type 0
CountsAcknowledged seen x replies moments first now = (t : ℕ) (image : Image) (handed : List Item) (tools : List ℤ) (y : DurableState)
    → moment (seen first.journal.rig).trace ≤ t → t ≤ moment (seen now.journal.rig).trace
    → IsStop (trace_at t (seen now.journal.rig).trace) image handed → stands_beside tools image ≡ Ok y
    → let acknowledged = dones (take (answered_by t moments) replies) in
    (x.saved.entries + acknowledged ≤ y.saved.entries) × (y.saved.entries ≤ x.saved.entries + acknowledged + 1)

-- ---- the contracts of the calls

-- Power on begins the first past, with no event: over the recovered state of an image that only such a controller
-- wrote, with these tools if the image was of format 1.
abbrev pub BeginsPast : {R : Type 0} → Type 0 → List ℤ → (R → Device) → PowerOnResult R → Trace → Type 0
BeginsPast {R} A tools seen result old =
    IsWritten (reads old) → IfOk result (λ c. (x : DurableState) → recovered_of (stands_beside tools (reads old)) ≡ Ok x → IsPast {A = A} seen x [] [] [] c c)

-- Each past now ends with these events, replies and moments, after its own, which are unchanged. All of it is accounted
-- for.
abbrev pub AddsToPast : {A R : Type 0} → (R → Device) → List (Event A) → List Reply → (moments : List ℕ) → ControllerModel R → ControllerModel R → Type 0
AddsToPast {A} {R} seen events replies moments old new = (x : DurableState) (past : List (Event A))
    (told : List Reply) (before : List ℕ) (first : ControllerModel R)
    → IsPast seen x past told before first old
    → IsPast seen x (past ++ events) (told ++ replies) (before ++ moments) first new
    × Accounts seen x (past ++ events) (told ++ replies) (before ++ moments) first new

-- What a list of events does, each answered in turn at its moment of the device's trace. Over an honest device they
-- proceed as the session does, and each past ends with them.
pub record AreRun {A R : Type 0} (seen : R → Device) (events : List (Event A)) (replies : List Reply)
    (moments : List ℕ) (old new : ControllerModel R) : Type 0 where
  pub exchanges : AreAnsweredEvents seen events replies old new
  pub answered : moments ≡ answered_at seen events replies old new exchanges
  pub ran : IfHonest (seen old.journal.rig) (seen new.journal.rig) (IsRun seen events replies moments old new)
  pub past : IfHonest (seen old.journal.rig) (seen new.journal.rig) (AddsToPast seen events replies moments old new)
