-- A reply reports a failed device exactly if the device counted a failure: an event that is answered isn't refused for
-- a failure of the device.
use Rattle.std.proofs.Common.{◌≡◌, inl, inr, ℕ, Bool, true, false, if◌then◌else◌, List, [], Option, Result, Ok, Err, sym, ◌∙◌, ap, subst}
use Rattle.ng_num.specs.declared.fault.Fault.{Fault}
use Rattle.ng_num.specs.declared.fault.Fault.TheVariants.{DeviceFailed, CountersUsed, OutOfMemory}
use Rattle.ng_rig.specs.Rig.{Device}
use Rattle.ng_journal.specs.Journal.{CountsFailure}
use Rattle.ng_journal.specs.Storing.{Ledger, ledger_of}
use Rattle.ng_text.specs.Programs.{ProgramLineModel}
use Rattle.ng_session.specs.Session.{Transition, is_running}
use Rattle.ng_session.specs.Ticking.{begin}
use Rattle.ng_session.specs.Step.{TakesMemory, AsksDevice, NeedsProgramLine}
use Rattle.ng_session.specs.declared.event.Event.{Event}
use Rattle.ng_session.specs.declared.reply.Reply.{Reply}
use Rattle.ng_session.specs.declared.reply.Reply.TheVariants as reply
use Rattle.ng_core.specs.Model.{ControllerModel}
use Rattle.ng_core.specs.Causes.{IsCausedBy, transition_of}
use Rattle.ng_core.specs.Events.{CarriesOutEvent, IsAnsweredByLine, TellsFailure, by_line, reply_to}
use Rattle.ng_session.proofs.OwnReplyLemmas.{TellsOwn, own_begin, own_step}

own_if : (b : Bool) (x y : Transition) → TellsOwn x.reply → TellsOwn y.reply → TellsOwn (if b then x else y).reply
own_if true x y one other = one
own_if false x y one other = other

own_by_line : {R : Type 0} (out : List ℕ → Transition) (c : ControllerModel R) (program : List ℕ) (line : Option ProgramLineModel)
    → TellsOwn (out program).reply → TellsOwn (by_line out c program line).reply
own_by_line out c program line own = own_if (is_running c.session.activity)
    (begin c.geometry program c.session line) (out program) (own_begin c.geometry program c.session line) own

not_lost : (told : Reply) → TellsOwn told → told ≡ reply.Refused DeviceFailed → ⊥
not_lost told own is = let z : false ≡ true = subst TellsOwn is own in cc

-- the reply is the session's, whether or not a line is read for it
answers_own : {A R : Type 0} (reads : Type 0) (r : Reply) (event : Event A) (old new : ControllerModel R)
    → ((reads → ⊥) → (program : List ℕ) → (r ≡ (transition_of old program event).reply) × (new.session ≡ (transition_of old program event).next))
    → (reads → IsAnsweredByLine r (λ program. transition_of old program event) old new)
    → r ≡ reply.Refused DeviceFailed → ⊥
answers_own reads r event old new comes line lost =
    let unread : reads → ⊥ = λ read.
    let by = line read in
    not_lost r (subst TellsOwn (sym by.comes.0)
    (own_by_line (λ program. transition_of old program event) old by.program by.line
    (own_step old.geometry by.program old.session event))) lost in
    not_lost r (subst TellsOwn (sym (comes unread []).0) (own_step old.geometry [] old.session event)) lost

-- a fault that keeps an event from being answered
told_of : (memory device : Type 0) (ledger : Ledger) (out : List ℕ → Transition) (fault : Fault) (before after : ℕ)
    → IsCausedBy memory device ledger out fault
    → (let answer : Result Reply Fault = Err fault in CountsFailure answer before after)
    → TellsFailure (reply.Refused fault) before after
told_of memory device ledger out fault before after (inl short) counts =
    let same : (let answer : Result Reply Fault = Err OutOfMemory in CountsFailure answer before after) =
    subst (λ (f : Fault). let answer : Result Reply Fault = Err f in CountsFailure answer before after) short.0
    counts in (
      λ lost. absurd (let z : reply.Refused OutOfMemory ≡ reply.Refused DeviceFailed =
          sym (ap (λ (f : Fault). reply.Refused f) short.0) ∙ lost in cc),
      λ other. same,
    )
told_of memory device ledger out fault before after (inr (inl used)) counts =
    let same : (let answer : Result Reply Fault = Err CountersUsed in CountsFailure answer before after) =
    subst (λ (f : Fault). let answer : Result Reply Fault = Err f in CountsFailure answer before after) used.0
    counts in (
      λ lost. absurd (let z : reply.Refused CountersUsed ≡ reply.Refused DeviceFailed =
          sym (ap (λ (f : Fault). reply.Refused f) used.0) ∙ lost in cc),
      λ other. same,
    )
told_of memory device ledger out fault before after (inr (inr asked)) counts =
    let one : (let answer : Result Reply Fault = Err DeviceFailed in CountsFailure answer before after) =
    subst (λ (f : Fault). let answer : Result Reply Fault = Err f in CountsFailure answer before after) asked.0
    counts in
    (λ lost. one, λ other. absurd (other (ap (λ (f : Fault). reply.Refused f) asked.0)))

pub tells_failure : {A R : Type 0} (seen : R → Device) (event : Event A) (answer : Result Reply Fault) (old new : ControllerModel R)
    → CarriesOutEvent seen event answer old new → TellsFailure (reply_to answer) (seen old.journal.rig).failed (seen new.journal.rig).failed
tells_failure seen event (Ok r) old new c =
    (λ lost. absurd (answers_own (NeedsProgramLine old.geometry old.session event) r event old new c.comes c.line lost), λ other. c.failures)
tells_failure seen event (Err fault) old new c =
    told_of (TakesMemory old.geometry old.session event) (AsksDevice old.geometry old.session event)
    (ledger_of old.journal) (λ program. transition_of old program event)
    fault (seen old.journal.rig).failed (seen new.journal.rig).failed c.hindered c.failures
