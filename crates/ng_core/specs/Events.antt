-- What an event does to a controller and to its device (own).
use Rattle.std.specs.Prelude.{◌≡◌, ◌≢◌, ◌⊎◌, ℕ, ◌+◌, ◌%◌, ◌^◌, if◌then◌else◌, List, [], ◌∷◌, ◌++◌, Option, Some}
use Rattle.std.specs.Prelude.{None, Result, Ok, Err, IfOk, IfErr, MatchResult}
use Rattle.ng_num.specs.declared.fault.Fault.{Fault}
use Rattle.ng_num.specs.declared.fault.Fault.TheVariants.{DeviceFailed, Broken}
use Rattle.ng_canon.specs.declared.item.Item.{Item}
use Rattle.ng_rig.specs.Rig.{Device}
use Rattle.ng_rig.specs.Trace.{Image, Trace, Handed, items}
use Rattle.ng_rig.specs.Calls.{IfHonest}
use Rattle.ng_rig.specs.Continuation.{IsContinuation}
use Rattle.ng_journal.specs.Journal.{StandsFor, IsBrokenBy, CountsFailure}
use Rattle.ng_journal.specs.Loads.{StoresLoad}
use Rattle.ng_journal.specs.Storing.{Ledger, Storing, Commit, Open, Load, StoresRecord, IsLedgerAfter, with_program, ledger_of}
use Rattle.ng_text.specs.Programs.{ProgramLineModel}
use Rattle.ng_session.specs.Session.{SessionModel, Transition, is_running}
use Rattle.ng_session.specs.Operator.{session_status}
use Rattle.ng_session.specs.Ticking.{begin}
use Rattle.ng_session.specs.Runs.{ProgramSession, CrashState, crash_in, session_of_transition}
use Rattle.ng_session.specs.declared.event.Event.{Event}
use Rattle.ng_session.specs.declared.event.Event.TheVariants as event
use Rattle.ng_session.specs.declared.reply.Reply.{Reply}
use Rattle.ng_session.specs.declared.reply.Reply.TheVariants as reply
use Rattle.ng_session.specs.declared.reply.Status.{Status}
use Rattle.ng_session.specs.declared.reply.Condition.TheVariants as condition
use Rattle.ng_core.specs.Causes.{IsCausedBy, stored_for, transition_of}
use Rattle.ng_core.specs.Model.{ControllerModel, IsAtRestWith, HasInForce}
use Rattle.ng_core.specs.Needs.{Needs, needs_of}

-- the reply to an event that the session answered, or why it didn't
abbrev pub reply_to : Result Reply Fault → Reply
reply_to (Ok r) = r
reply_to (Err fault) = reply.Refused fault

-- The reply to an event with this outcome, and the session after it. Without memory or a counter for it, the session is
-- unchanged; if the device failed, what the status shows is unchanged.
abbrev pub IsAnsweredBy : {R : Type 0} → Result Reply Fault → Transition → ControllerModel R → ControllerModel R → Type 0
IsAnsweredBy (Ok r) out old new = (r ≡ out.reply) × (new.session ≡ out.next)
IsAnsweredBy (Err DeviceFailed) out old new = session_status new.session ≡ session_status old.session
IsAnsweredBy (Err fault) out old new = new.session ≡ old.session

-- If an event isn't answered, what the status shows is unchanged. If the device didn't fail, the whole session and what
-- the journal keeps are unchanged too, and the device isn't called, unless a line is read.
pub record KeepsSession {R : Type 0} (reads : Type 0) (fault : Fault) (old new : ControllerModel R) : Type 0 where
  pub status : session_status new.session ≡ session_status old.session
  pub session : fault ≢ DeviceFailed → new.session ≡ old.session
  pub ledger : fault ≢ DeviceFailed → ledger_of new.journal ≡ ledger_of old.journal
  pub journal : fault ≢ DeviceFailed → (reads → ⊥) → new.journal ≡ old.journal

-- The reply and the session after it, with any device. They depend on the session alone, unless a line is read for it.
abbrev pub IsAnsweredAnyway : {R : Type 0} → (reads : Type 0) → Result Reply Fault → (List ℕ → Transition) → ControllerModel R → ControllerModel R → Type 0
IsAnsweredAnyway reads answer out old new =
    MatchResult answer (λ r. (reads → ⊥) → (program : List ℕ) → (r ≡ (out program).reply)
    × (new.session ≡ (out program).next)) (λ fault. KeepsSession reads fault old new)

-- What an event leads to if a line was read, or no line. A program that runs begins that line, after the lines of this
-- program before its place. A half-done block goes on as in this program.
abbrev pub by_line : {R : Type 0} → (List ℕ → Transition) → ControllerModel R → List ℕ → Option ProgramLineModel → Transition
by_line out c program line = if is_running c.session.activity then begin c.geometry program c.session line else out program

-- Whatever the device returned, the event is answered for one line, after the lines of some program, or for no line.
-- The session goes on accordingly, and what the journal keeps is unchanged.
pub record IsAnsweredByLine {R : Type 0} (r : Reply) (out : List ℕ → Transition) (old new : ControllerModel R) : Type 0 where
  pub program : List ℕ
  pub line : Option ProgramLineModel
  pub comes : IsAnsweredBy (Ok r) (by_line out old program line) old new
  pub ledger : ledger_of new.journal ≡ ledger_of old.journal

-- The durable state and the items handed out after an event. With a reply they are those of its outcome. Without memory
-- or a counter for it, the device is unchanged.
abbrev pub LeavesDevice : {R : Type 0} → Result Reply Fault → Transition → List ℕ → ControllerModel R → Trace → Trace → Type 0
LeavesDevice (Ok r) out program new trace_old trace_new = IsAtRestWith trace_new new out.program × (items trace_new ≡ items trace_old ++ out.items)
LeavesDevice (Err DeviceFailed) out program new trace_old trace_new = Unit {0}
LeavesDevice (Err fault) out program new trace_old trace_new = IsAtRestWith trace_new new program × (trace_new ≡ trace_old)

-- a reply for which nothing is stored and nothing handed out
abbrev pub TouchesNothing : Reply → Type 0
TouchesNothing (reply.Done n) = ⊥
TouchesNothing (reply.Opened index) = ⊥
TouchesNothing reply.Approaching = ⊥
TouchesNothing reply.Moved = ⊥
TouchesNothing reply.Begun = Unit {0}
TouchesNothing reply.Going = Unit {0}
TouchesNothing reply.Held = Unit {0}
TouchesNothing reply.Idle = Unit {0}
TouchesNothing reply.Stopped = Unit {0}
TouchesNothing reply.Taken = Unit {0}
TouchesNothing (reply.Status status) = Unit {0}
TouchesNothing (reply.Refused fault) = Unit {0}

-- A stop leaves either the one or the other.
pub record IsCrashOfEither (before after : CrashState) (image : Image) (handed : List Item) : Type 0 where
  pub left : CrashState
  pub which : (left ≡ before) ⊎ (left ≡ after)
  pub stands_for : StandsFor left.standing left.items image handed

abbrev pub program_session_of : {R : Type 0} → List ℕ → ControllerModel R → ProgramSession
program_session_of program c = record { program = program; session = c.session }

-- An event was carried out: each stop since leaves what was there before it or what is there after it. If nothing is
-- stored and nothing handed out, the device's trace is unchanged.
pub record IsCarriedOut {R : Type 0} (answer : Result Reply Fault) (out : Transition) (program : List ℕ)
    (old new : ControllerModel R) (trace_old trace_new : Trace) : Type 0 where
  pub comes : IsAnsweredBy answer out old new
  pub stops : IsContinuation trace_old trace_new
      (IsCrashOfEither (crash_in (program_session_of program old) (items trace_old))
      (crash_in (session_of_transition out) (items trace_old ++ out.items)))
  pub leaves : LeavesDevice answer out program new trace_old trace_new
  pub untouched : IfOk answer (λ r. TouchesNothing r → trace_new ≡ trace_old)

-- An event was carried out over an honest device that is at rest with what the session stored. The outcome is that for
-- the program in the durable state.
abbrev pub IsCarriedOutIfHonest : {R : Type 0} → (R → Device) → Result Reply Fault → (List ℕ → Transition) → ControllerModel R → ControllerModel R → Type 0
IsCarriedOutIfHonest seen answer out old new =
    IfHonest (seen old.journal.rig) (seen new.journal.rig) ((program : List ℕ) → IsAtRestWith (seen old.journal.rig).trace old program
    → IsCarriedOut answer (out program) program old new (seen old.journal.rig).trace (seen new.journal.rig).trace)

-- these items are handed out one after another, and nothing else is called
abbrev pub handed_all : List Item → Trace → Trace
handed_all [] trace = trace
handed_all (item ∷ items) trace = handed_all items (Handed item trace)

-- after a failure all of them or none
abbrev pub HandsAll : {T E : Type 0} → Result T E → List Item → Trace → Trace → Type 0
HandsAll (Ok _) items old new = new ≡ handed_all items old
HandsAll (Err _) items old new = (new ≡ old) ⊎ (new ≡ handed_all items old)

-- What is called for an outcome of which this is to be stored: only that is written, and nothing is handed out. If
-- nothing is to be stored, nothing is written, and the items of the outcome are handed out.
abbrev pub MakesCalls : {T E : Type 0} → Result T E → Option Storing → Transition → (sectors : ℕ) → Ledger → Trace → Trace → Type 0
MakesCalls answer None out sectors ledger old new = HandsAll answer out.items old new
MakesCalls answer (Some (Commit saved)) out sectors ledger old new = StoresRecord answer ledger saved old new
MakesCalls answer (Some (Open half)) out sectors ledger old new = StoresRecord answer ledger (record ledger.saved { half = Some half }) old new
MakesCalls answer (Some (Load saved)) out sectors ledger old new =
    StoresLoad answer sectors ledger (record { saved = saved; program = out.program }) old new

-- What is called for the answer to an outcome. Unless it is answered or the device failed, the device is unchanged.
pub record CallsFor (answer : Result Reply Fault) (out : Transition) (sectors : ℕ) (ledger : Ledger) (old new : Trace) : Type 0 where
  pub calls : MakesCalls answer (stored_for out out.reply) out sectors ledger old new
  pub unchanged : IfErr answer (λ fault. fault ≢ DeviceFailed → new ≡ old)

-- Whatever an honest device stands for, it is called for the outcome. What that stores and hands out is the same for
-- each program.
abbrev pub CallsIfHonest : {R : Type 0} → (R → Device) → Result Reply Fault → (List ℕ → Transition) → ControllerModel R → ControllerModel R → Type 0
CallsIfHonest seen answer out old new = (seen old.journal.rig).honest → (program : List ℕ)
    → CallsFor answer (out program) (seen old.journal.rig).sectors (ledger_of old.journal) (seen old.journal.rig).trace (seen new.journal.rig).trace

-- what a journal keeps afterwards, if this was to be stored
abbrev pub IsStoredAfter : Option Storing → (sectors : ℕ) → Ledger → Ledger → Type 0
IsStoredAfter None sectors old new = new ≡ old
IsStoredAfter (Some (Commit saved)) sectors old new = IsLedgerAfter old saved new
IsStoredAfter (Some (Open half)) sectors old new = IsLedgerAfter old (record old.saved { half = Some half }) new
IsStoredAfter (Some (Load saved)) sectors old new = new ≡ with_program sectors old saved

-- With any device, the journal keeps what the outcome stores, which is the same for each program.
abbrev pub KeepsLedger : {R : Type 0} → (R → Device) → (List ℕ → Transition) → ControllerModel R → ControllerModel R → Type 0
KeepsLedger seen out old new = (program : List ℕ)
    → IsStoredAfter (stored_for (out program) (out program).reply) (seen old.journal.rig).sectors (ledger_of old.journal) (ledger_of new.journal)

-- The program in force after an event: that of its outcome or, without memory or a counter for it, the one before.
abbrev pub LeavesProgram : {R : Type 0} → Result Reply Fault → Transition → List ℕ → ControllerModel R → Trace → Type 0
LeavesProgram (Ok r) out program new trace = HasInForce trace new out.program
LeavesProgram (Err DeviceFailed) out program new trace = Unit {0}
LeavesProgram (Err fault) out program new trace = HasInForce trace new program

-- Whatever an honest device stands for, a line that is read is of the program in force: the event is answered as it is
-- for that program. What is known afterwards is true of the program then in force.
abbrev pub ReadsProgram : {R : Type 0} → (R → Device) → Result Reply Fault → (List ℕ → Transition) → ControllerModel R
    → ControllerModel R → Type 0
ReadsProgram seen answer out old new =
    (seen old.journal.rig).honest → (program : List ℕ) → HasInForce (seen old.journal.rig).trace old program
    → IsAnsweredBy answer (out program) old new
    × LeavesProgram answer (out program) program new (seen new.journal.rig).trace

-- an item of the open segment is handed out, which this session took from it
abbrev pub handing : Item → List ℕ → SessionModel → Transition
handing item program s = record { reply = reply.Moved; items = item ∷ []; entries = []; program = program; next = s }

-- The answer to an outcome and what it leaves, of an honest device and of any; what an honest device is called for, of
-- which program its lines are, and what the journal keeps then. If a line is read for it, it is that line's. An error
-- has its cause, depending on what the answer needs. The journal is broken, and the device counted a failure, exactly
-- if the device failed. The device keeps its size.
pub record CarriesOut {R : Type 0} (seen : R → Device) (needs : Needs) (out : List ℕ → Transition)
    (answer : Result Reply Fault) (old new : ControllerModel R) : Type 0 where
  pub does : IsCarriedOutIfHonest seen answer out old new
  pub calls : CallsIfHonest seen answer out old new
  pub reads : ReadsProgram seen answer out old new
  pub comes : IsAnsweredAnyway needs.reads answer out old new
  pub line : needs.reads → IfOk answer (λ r. IsAnsweredByLine r out old new)
  pub ledger : IfOk answer (λ r. KeepsLedger seen out old new)
  pub hindered : IfErr answer (IsCausedBy needs.memory needs.device (ledger_of old.journal) out)
  pub broken : IsBrokenBy answer new.journal.broken
  pub geometry : new.geometry ≡ old.geometry
  pub size : (seen new.journal.rig).sectors ≡ (seen old.journal.rig).sectors
  pub failures : CountsFailure answer (seen old.journal.rig).failed (seen new.journal.rig).failed

-- The answer to an event, given its outcome and what it needs.
abbrev pub CarriesOutEvent : {A R : Type 0} → (R → Device) → Event A → Result Reply Fault → ControllerModel R → ControllerModel R → Type 0
CarriesOutEvent seen event answer old new =
    CarriesOut seen (needs_of old.geometry old.session event) (λ program. transition_of old program event) answer old new

-- The reply to an event, and what the event did.
pub record Handles {A R : Type 0} (seen : R → Device) (event : Event A) (told : Reply) (old new : ControllerModel R) : Type 0 where
  pub answer : Result Reply Fault
  pub told_is : told ≡ reply_to answer
  pub carried : CarriesOutEvent seen event answer old new

-- The reply reports a failed device exactly if the device counted a failure, and then one.
abbrev pub TellsFailure : Reply → ℕ → ℕ → Type 0
TellsFailure told old new = (told ≡ reply.Refused DeviceFailed → new ≡ (old + 1) % 2 ^ 64) × ((told ≡ reply.Refused DeviceFailed → ⊥) → new ≡ old)

-- After the device failed, each event but Status is refused, and the status says so.
abbrev pub broken_status : SessionModel → Status
broken_status s = record (session_status s) { condition = condition.Broken }

abbrev pub broken_answer : {A : Type 0} → SessionModel → Event A → Result Reply Fault
broken_answer s event.Status = Ok (reply.Status (broken_status s))
broken_answer s (event.Load text) = Err Broken
broken_answer s event.Start = Err Broken
broken_answer s event.Hold = Err Broken
broken_answer s event.Continue = Err Broken
broken_answer s (event.Mdi text) = Err Broken
broken_answer s (event.Reference point) = Err Broken
broken_answer s event.Resume = Err Broken
broken_answer s event.Abandon = Err Broken
broken_answer s (event.Tool slot nm) = Err Broken
broken_answer s (event.OptionalStop wanted) = Err Broken
broken_answer s (event.BlockDelete on) = Err Broken
broken_answer s event.Tick = Err Broken
