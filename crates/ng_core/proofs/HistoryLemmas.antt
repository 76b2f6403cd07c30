-- What a list of events does to a controller over an honest device, one after another.
use Rattle.std.proofs.Common.{◌≡◌, ℕ, Bool, true, false, List, [], ◌∷◌, Result, Ok, Err, IfErr}
use Rattle.ng_num.specs.declared.fault.Fault.{Fault}
use Rattle.ng_rig.specs.Rig.{Device}
use Rattle.ng_rig.specs.Trace.{moment}
use Rattle.ng_journal.specs.Journal.{IsBrokenBy}
use Rattle.ng_journal.specs.Storing.{ledger_of}
use Rattle.ng_session.specs.Session.{Transition}
use Rattle.ng_session.specs.Step.{TakesMemory, AsksDevice}
use Rattle.ng_session.specs.declared.event.Event.{Event}
use Rattle.ng_session.specs.declared.reply.Reply.{Reply}
use Rattle.ng_core.specs.Model.{ControllerModel}
use Rattle.ng_core.specs.Causes.{IsCausedBy, transition_of}
use Rattle.ng_core.specs.Events.{IsCarriedOut, reply_to, broken_answer}

-- why an event isn't answered
abbrev pub HasRefusalCause : {A R : Type 0} → ControllerModel R → Event A → Fault → Type 0
HasRefusalCause c event fault = IsCausedBy (TakesMemory c.geometry c.session event)
    (AsksDevice c.geometry c.session event) (ledger_of c.journal) (λ program. transition_of c program event) fault

-- the program that the device has after an event: that of its outcome, if it was answered
abbrev pub program_after : Result Reply Fault → Transition → List ℕ → List ℕ
program_after (Ok r) out program = out.program
program_after (Err fault) out program = program

-- A whole controller carried an event out, or was kept from it. The controller is broken then if the device failed.
pub record OnSpecIfHonest {A R : Type 0} (seen : R → Device) (answer : Result Reply Fault) (event : Event A)
    (program : List ℕ) (old new : ControllerModel R) : Type 0 where
  pub acts : IsCarriedOut answer (transition_of old program event) program old new (seen old.journal.rig).trace (seen new.journal.rig).trace
  pub hindered : IfErr answer (HasRefusalCause old event)
  pub broken : IsBrokenBy answer new.journal.broken
  pub geometry : new.geometry ≡ old.geometry

-- what an event does to a controller, broken or whole
abbrev pub OnSpecAnyState : {A R : Type 0} → (R → Device) → Bool → Result Reply Fault → Event A → List ℕ → ControllerModel R → ControllerModel R → Type 0
OnSpecAnyState seen true answer event program old new = (answer ≡ broken_answer old.session event) × (new ≡ old)
OnSpecAnyState seen false answer event program old new = OnSpecIfHonest seen answer event program old new

-- an event with its reply, and the moment at which it was answered
pub record HonestExchange {A R : Type 0} (seen : R → Device) (event : Event A) (r : Reply) (at : ℕ)
    (answer : Result Reply Fault) (program : List ℕ) (old new : ControllerModel R) : Type 0 where
  pub told_is : r ≡ reply_to answer
  pub moment_is : at ≡ moment (seen new.journal.rig).trace
  pub stepping : OnSpecAnyState seen old.journal.broken answer event program old new

-- One event after another, each with its reply and its moment, from the controller and device that the one before left.
abbrev pub History : {A R : Type 0} → (R → Device) → List (Event A) → List Reply → (moments program : List ℕ) → ControllerModel R → ControllerModel R → Type 0
History seen [] [] [] program old new = new ≡ old
History seen [] [] (m ∷ moments) program old new = ⊥
History seen [] (r ∷ replies) moments program old new = ⊥
History seen (event ∷ events) [] moments program old new = ⊥
History seen (event ∷ events) (r ∷ replies) [] program old new = ⊥
History {A} {R} seen (event ∷ events) (r ∷ replies) (m ∷ moments) program old new =
    (answer : Result Reply Fault) × ((between : ControllerModel R) × (HonestExchange seen event r m answer program old between
    × History seen events replies moments (program_after answer (transition_of old program event) program) between new))
