-- What an event does over an honest device, whatever its program is.
use Rattle.std.proofs.Common.{◌≡◌, ◌⊎◌, inl, inr, ℕ, List, [], ◌∷◌, Result, Ok, Err, refl, sym, ap, subst}
use Rattle.ng_num.specs.declared.fault.Fault.{Fault}
use Rattle.ng_num.specs.declared.fault.Fault.TheVariants.{DeviceFailed, CountersUsed, OutOfMemory}
use Rattle.ng_canon.specs.declared.item.Item.{Item}
use Rattle.ng_rig.specs.Rig.{Device}
use Rattle.ng_rig.specs.Calls.{IfHonest}
use Rattle.ng_layout.specs.Stored.{DurableState}
use Rattle.ng_journal.specs.Journal.{JournalModel, IsDurablyAt, CommitSpec, JournalHandOutSpec}
use Rattle.ng_session.specs.Planned.{IsKnownOf}
use Rattle.ng_session.specs.Session.{Transition}
use Rattle.ng_session.specs.Operator.{session_status}
use Rattle.ng_session.specs.declared.reply.Reply.{Reply}
use Rattle.ng_core.specs.Model.{ControllerModel, IsAtRestWith, durable_state_of}
use Rattle.ng_core.specs.Events.{IsCarriedOutIfHonest, TouchesNothing}
use Rattle.ng_core.proofs.EventCallLemmas.{known_as, acts_quiet, acts_aside, acts_moved, acts_unmoved, acts_handed, acts_unhanded}
use Rattle.ng_core.proofs.QuietEventLemmas.{IsStill}

-- the session replied, and the durable state is unchanged
pub does_still : {R : Type 0} (seen : R → Device) (r : Reply) (out : List ℕ → Transition) (old new : ControllerModel R)
    → ((program : List ℕ) → IsStill program old.session.stored (out program)) → new.journal ≡ old.journal → new.lines ≡ old.lines
    → ((program : List ℕ) → r ≡ (out program).reply) → ((program : List ℕ) → new.session ≡ (out program).next)
    → IsCarriedOutIfHonest seen (Ok r) out old new
does_still {R} seen r out old new quiet same lines replied next = record {
  keeps = λ h. subst (λ (j : JournalModel R). (seen j.rig).honest) (sym same) h;
  back = λ h. subst (λ (j : JournalModel R). (seen j.rig).honest) same h;
  holds = λ h program rests.
      acts_quiet r (out program) program old new (seen old.journal.rig).trace (seen new.journal.rig).trace
      (ap (λ (j : JournalModel R). (seen j.rig).trace) same) rests same lines (replied program) (next program)
      (quiet program).items (quiet program).program_is (quiet program).stored_is;
}

-- there was no memory, or no count was left, and the device wasn't called
pub does_aside : {R : Type 0} (seen : R → Device) (fault : Fault) (out : List ℕ → Transition) (old new : ControllerModel R)
    → (fault ≡ OutOfMemory) ⊎ (fault ≡ CountersUsed) → new.journal ≡ old.journal → new.lines ≡ old.lines
    → new.session ≡ old.session → IsCarriedOutIfHonest seen (Err fault) out old new
does_aside {R} seen fault out old new which same lines still = record {
  keeps = λ h. subst (λ (j : JournalModel R). (seen j.rig).honest) (sym same) h;
  back = λ h. subst (λ (j : JournalModel R). (seen j.rig).honest) same h;
  holds = λ h program rests. acts_aside fault (out program) program old new (seen old.journal.rig).trace
      (seen new.journal.rig).trace which (ap (λ (j : JournalModel R). (seen j.rig).trace) same) still
      (subst (λ (j : JournalModel R). IsDurablyAt (seen j.rig).trace j (durable_state_of program old.session))
      (sym same) rests.0) (known_as program program old.lines new.lines refl lines rests.1);
}

-- a call of the journal that stores something
abbrev pub Storing : {R T : Type 0} → (R → Device) → Result T Fault → (List ℕ → Transition) → ControllerModel R → JournalModel R → Type 0
Storing seen result out old journal =
    IfHonest (seen old.journal.rig) (seen journal.rig) ((program : List ℕ) → IsAtRestWith (seen old.journal.rig).trace old program
    → CommitSpec result journal (durable_state_of program old.session)
    (durable_state_of (out program).program (out program).next) (seen old.journal.rig).trace
    (seen journal.rig).trace)

pub does_moved : {R T : Type 0} (seen : R → Device) (r : Reply) (v : T) (out : List ℕ → Transition) (old new : ControllerModel R)
    → Storing seen (Ok v) out old new.journal → ((program : List ℕ) → IsKnownOf program old.lines → IsKnownOf (out program).program new.lines)
    → ((program : List ℕ) → r ≡ (out program).reply) → ((program : List ℕ) → new.session ≡ (out program).next)
    → ((program : List ℕ) → (out program).items ≡ []) → (TouchesNothing r → ⊥)
    → IsCarriedOutIfHonest seen (Ok r) out old new
does_moved seen r v out old new p known replied next none touched = record {
  keeps = p.keeps;
  back = p.back;
  holds = λ h program rests. acts_moved r v (out program) program old new (seen old.journal.rig).trace
      (seen new.journal.rig).trace (p.holds h program rests) (known program rests.1) (replied program)
      (next program) (none program) touched;
}

pub does_unmoved : {R T : Type 0} (seen : R → Device) (fault e : Fault) (out : List ℕ → Transition) (old new : ControllerModel R)
    → Storing {T = T} seen (Err e) out old new.journal
    → (fault ≡ CountersUsed) ⊎ (fault ≡ DeviceFailed) → (fault ≡ CountersUsed → new.journal ≡ old.journal)
    → new.lines ≡ old.lines → new.session ≡ old.session → ((program : List ℕ) → (out program).items ≡ [])
    → IsCarriedOutIfHonest seen (Err fault) out old new
does_unmoved {R} {T} seen fault e out old new p which unchanged lines same none = record {
  keeps = p.keeps;
  back = p.back;
  holds = λ h program rests. elim which [
    | inl used ↦ (does_aside seen fault out old new (inr used) (unchanged used) lines same).holds h program rests
    | inr lost ↦ acts_unmoved {T = T} fault e (out program) program old new new.journal (seen old.journal.rig).trace
        (seen new.journal.rig).trace (p.holds h program rests) lost (ap session_status same) (none program)
  ];
}

abbrev pub Handing : {R T : Type 0} → (R → Device) → Result T Fault → Item → ControllerModel R → JournalModel R → Type 0
Handing seen result item old journal =
    IfHonest (seen old.journal.rig) (seen journal.rig) ((program : List ℕ) → IsAtRestWith (seen old.journal.rig).trace old program
    → JournalHandOutSpec result journal (durable_state_of program old.session) item (seen old.journal.rig).trace (seen journal.rig).trace)

-- an outcome that hands out one item
pub record Gives (item : Item) (old : DurableState) (program : List ℕ) (out : Transition) : Type 0 where
  pub items : out.items ≡ item ∷ []
  pub program_is : out.program ≡ program
  pub stored_is : out.next.stored ≡ old.saved

pub does_handed : {R T : Type 0} (seen : R → Device) (r : Reply) (v : T) (item : Item) (out : List ℕ → Transition) (old new : ControllerModel R)
    → Handing seen (Ok v) item old new.journal → new.lines ≡ old.lines
    → ((program : List ℕ) → r ≡ (out program).reply) → ((program : List ℕ) → new.session ≡ (out program).next)
    → ((program : List ℕ) → Gives item (durable_state_of program old.session) program (out program))
    → (TouchesNothing r → ⊥)
    → IsCarriedOutIfHonest seen (Ok r) out old new
does_handed seen r v item out old new p lines replied next gives touched = record {
  keeps = p.keeps;
  back = p.back;
  holds = λ h program rests. acts_handed r v item (out program) program old new (seen old.journal.rig).trace
      (seen new.journal.rig).trace (p.holds h program rests)
      (known_as program (out program).program old.lines new.lines (gives program).program_is lines rests.1) (replied program) (next program)
      (gives program).items (gives program).program_is (gives program).stored_is touched;
}

pub does_unhanded : {R T : Type 0} (seen : R → Device) (fault e : Fault) (item : Item) (out : List ℕ → Transition) (old new : ControllerModel R)
    → Handing {T = T} seen (Err e) item old new.journal
    → fault ≡ DeviceFailed → session_status new.session ≡ session_status old.session
    → ((program : List ℕ) → Gives item (durable_state_of program old.session) program (out program))
    → IsCarriedOutIfHonest seen (Err fault) out old new
does_unhanded {R} {T} seen fault e item out old new p is same gives = record {
  keeps = p.keeps;
  back = p.back;
  holds = λ h program rests. acts_unhanded {T = T} fault e item (out program) program old new new.journal
      (seen old.journal.rig).trace (seen new.journal.rig).trace (p.holds h program rests)
      is same (gives program).items (gives program).program_is (gives program).stored_is;
}
