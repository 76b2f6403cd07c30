-- The other events, from the contracts of their calls.
use Rattle.std.proofs.Common.{◌≡◌, ◌⊎◌, ◌↔◌, inl, inr, ℕ, ◌<◌, ◌≤◌, List, length, Option, None, Result, Ok, Err, refl, sym, ◌∙◌, ap, subst, arith}
use Rattle.std.specs.Prelude.{IsErrOf}
use Rattle.ng_num.specs.declared.fault.Fault.{Fault}
use Rattle.ng_num.specs.declared.fault.Fault.TheVariants.{DeviceFailed, CountersUsed, ProgramTooLong}
use Rattle.ng_rig.specs.Rig.{Device}
use Rattle.ng_rig.specs.Calls.{IfHonest}
use Rattle.ng_rig.proofs.GuaranteeLemmas.{meaning}
use Rattle.ng_layout.specs.Stored.{StoredModel, DurableState}
use Rattle.ng_journal.specs.Journal.{JournalModel, IsDurablyAt, CommitSpec}
use Rattle.ng_session.specs.Entries.{after_load}
use Rattle.ng_session.specs.Planned.{IsKnownOf}
use Rattle.ng_session.specs.Operator.{load, load_unless, load_refusal, loaded}
use Rattle.ng_session.specs.Step.{step, IsQuiet}
use Rattle.ng_session.specs.declared.event.Event.{Event}
use Rattle.ng_session.specs.declared.reply.Reply.{Reply}
use Rattle.ng_session.specs.declared.reply.Reply.TheVariants as reply
use Rattle.ng_core.specs.Model.{ControllerModel, durable_state_of}
use Rattle.ng_core.specs.Events.{IsCarriedOutIfHonest, TouchesNothing}
use Rattle.ng_core.proofs.QuietEventLemmas.{still_step}
use Rattle.ng_core.proofs.HonestEventLemmas.{does_still, does_moved, does_unmoved, Storing}
use Rattle.ng_core.proofs.TickLemmas.{does_on}

pub does_answer : {A R : Type 0} (seen : R → Device) (event : Event A) (r : Reply) (old new : ControllerModel R)
    → IsQuiet event → new.journal ≡ old.journal → new.lines ≡ old.lines
    → ((program : List ℕ) → r ≡ (step old.geometry program old.session event).reply)
    → ((program : List ℕ) → new.session ≡ (step old.geometry program old.session event).next)
    → IsCarriedOutIfHonest seen (Ok r) (λ program. step old.geometry program old.session event) old new
does_answer seen event r old new quiet same lines replied next =
    does_still seen r (λ program. step old.geometry program old.session event) old new
    (λ program. still_step old.geometry program old.session event quiet) same lines replied next

-- ---- a program

-- the contract of `load_program`
abbrev pub StoresProgram : {R T : Type 0} → (R → Device) → Result T Fault → StoredModel → List ℕ → JournalModel R → JournalModel R → Type 0
StoresProgram seen result saved text old new =
    IfHonest (seen old.rig) (seen new.rig) ((before : DurableState) → IsDurablyAt (seen old.rig).trace old before
    → CommitSpec result new before (record { saved = saved; program = text }) (seen old.rig).trace (seen new.rig).trace)

storing_program : {R T : Type 0} (seen : R → Device) (result : Result T Fault) (saved : StoredModel) (text : List ℕ)
    (old : ControllerModel R) (journal : JournalModel R)
    → saved ≡ after_load old.session.stored (length text) → StoresProgram seen result saved text old.journal journal
    → Storing seen result (λ program. load_unless program old.session text None) old journal
storing_program seen result saved text old journal is p =
    meaning p (λ f program rests.
    subst (λ (x : StoredModel). CommitSpec result journal (durable_state_of program old.session)
    (record { saved = x; program = text }) (seen old.journal.rig).trace (seen journal.rig).trace) is
    (f (durable_state_of program old.session) rests.0))

pub does_load : {R T : Type 0} (seen : R → Device) (v : T) (r : Reply) (saved : StoredModel) (text : List ℕ) (old new : ControllerModel R)
    → load_refusal old.session text ≡ None → saved ≡ after_load old.session.stored (length text)
    → r ≡ reply.Done saved.entries → new.session ≡ loaded old.session saved
    → StoresProgram seen (Ok v) saved text old.journal new.journal → IsKnownOf text new.lines
    → IsCarriedOutIfHonest seen (Ok r) (λ program. load program old.session text) old new
does_load seen v r saved text old new free is replied next p known =
    does_on seen (Ok r) (λ program. load_unless program old.session text None) _ old old new refl
    (λ program. sym (ap (λ (o : Option Fault). load_unless program old.session text o) free))
    (does_moved seen r v (λ program. load_unless program old.session text None) old new
    (storing_program seen (Ok v) saved text old new.journal is p) (λ program before. known)
    (λ program. replied ∙ ap (λ (x : StoredModel). reply.Done x.entries) is) (λ program. next
    ∙ ap (λ (x : StoredModel). loaded old.session x) is) (λ program. refl)
    (subst (λ (x : Reply). TouchesNothing x → ⊥) (sym replied) (λ z. z)))

pub does_not_load : {R T : Type 0} (seen : R → Device) (fault e : Fault) (saved : StoredModel) (text : List ℕ) (old new : ControllerModel R)
    → load_refusal old.session text ≡ None → saved ≡ after_load old.session.stored (length text) → new.session ≡ old.session
    → (fault ≡ CountersUsed) ⊎ (fault ≡ DeviceFailed) → (fault ≡ CountersUsed → new.journal ≡ old.journal)
    → StoresProgram {T = T} seen (Err e) saved text old.journal new.journal → new.lines ≡ old.lines
    → IsCarriedOutIfHonest seen (Err fault) (λ program. load program old.session text) old new
does_not_load {R} {T} seen fault e saved text old new free is same which unchanged p lines =
    does_on seen (Err fault) (λ program. load_unless program old.session text None) _ old old new refl
    (λ program. sym (ap (λ (o : Option Fault). load_unless program old.session text o) free))
    (does_unmoved {T = T} seen fault e (λ program. load_unless program old.session text None) old new
    (storing_program {T = T} seen (Err e) saved text old new.journal is p) which unchanged lines same
    (λ program. refl))

-- a program that isn't too long isn't refused as too long
pub not_too_long : (T : Type 0) (e : Fault) (most n : ℕ) → n ≤ most → (e ≡ ProgramTooLong) ⊎ ((e ≡ CountersUsed) ⊎ (e ≡ DeviceFailed))
    → (let answered : Result T Fault = Err e in IsErrOf answered ProgramTooLong ↔ (most < n)) → (e ≡ CountersUsed) ⊎ (e ≡ DeviceFailed)
not_too_long T e most n small (inl long) iff = absurd (omega (arith, small, iff.0 (λ i. Err (long i))))
not_too_long T e most n small (inr which) iff = which
