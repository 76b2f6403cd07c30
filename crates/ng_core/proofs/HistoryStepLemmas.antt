-- A history that goes on, event by event.
use Rattle.std.proofs.Common.{◌≡◌, ⊎_elim, ℕ, Bool, true, false, List, [], ◌∷◌, ◌++◌, Result, Ok, Err, refl, sym, ◌∙◌, ap, subst, append_assoc}
use Rattle.std.proofs.lemmas.List.{append-nil}
use Rattle.ng_num.specs.declared.fault.Fault.{Fault}
use Rattle.ng_num.specs.declared.fault.Fault.TheVariants.{DeviceFailed, CountersUsed, OutOfMemory}
use Rattle.ng_rig.specs.Rig.{Device}
use Rattle.ng_rig.specs.Trace.{moment}
use Rattle.ng_rig.specs.Calls.{IfHonest}
use Rattle.ng_session.specs.declared.event.Event.{Event}
use Rattle.ng_session.specs.declared.reply.Reply.{Reply}
use Rattle.ng_core.specs.Model.{ControllerModel, IsAtRestWith}
use Rattle.ng_core.specs.Events.{Handles, reply_to, broken_answer}
use Rattle.ng_core.specs.Causes.{transition_of}
use Rattle.ng_core.proofs.HistoryLemmas.{History, HonestExchange, OnSpecIfHonest, OnSpecAnyState, program_after}

-- Some of the events were answered. Any history of the rest makes a history of all.
pub record GoesOn {A R : Type 0} (seen : R → Device) (events rest : List (Event A)) (done : List Reply)
    (moments program : List ℕ) (old now : ControllerModel R) : Type 0 where
  pub here : List ℕ
  pub rests : now.journal.broken ≡ false → IsAtRestWith (seen now.journal.rig).trace now here
  pub on : (replies : List Reply) (later : List ℕ) (new : ControllerModel R)
      → History seen rest replies later here now new → History seen events (done ++ replies) (moments ++ later)
      program old new

-- from a controller, broken or whole
abbrev pub GoesFrom : {A R : Type 0} → (R → Device) → List (Event A) → List (Event A) → List Reply
    → (moments : List ℕ) → ControllerModel R → ControllerModel R → Type 0
GoesFrom seen events rest done moments old now =
    (program : List ℕ) → (old.journal.broken ≡ false → IsAtRestWith (seen old.journal.rig).trace old program)
    → GoesOn seen events rest done moments program old now

pub begins : {A R : Type 0} (seen : R → Device) (events : List (Event A)) (old : ControllerModel R) → GoesFrom seen events events [] [] old old
begins seen events old program rests = record { here = program; rests = rests; on = λ replies later new h. h }

pub ends : {A R : Type 0} (seen : R → Device) (events : List (Event A)) (done : List Reply)
    (moments program : List ℕ) (old now : ControllerModel R) → GoesOn seen events [] done moments program old now
    → History seen events done moments program old now
ends seen events done moments program old now g =
    subst (λ (l : List Reply). History seen events l moments program old now) (append-nil done)
    (subst (λ (l : List ℕ). History seen events (done ++ []) l program old now) (append-nil moments) (g.on [] [] now refl))

goes_more : {A R : Type 0} (seen : R → Device) (events : List (Event A)) (event : Event A) (rest : List (Event A))
    (done : List Reply) (moments : List ℕ) (r : Reply) (answer : Result Reply Fault) (program : List ℕ)
    (old now next : ControllerModel R)
    → (g : GoesOn seen events (event ∷ rest) done moments program old now)
    → HonestExchange seen event r (moment (seen next.journal.rig).trace) answer g.here now next
    → (next.journal.broken ≡ false → IsAtRestWith (seen next.journal.rig).trace next (program_after answer (transition_of now g.here event) g.here))
    → GoesOn seen events rest (done ++ r ∷ []) (moments ++ moment (seen next.journal.rig).trace ∷ []) program old next
goes_more seen events event rest done moments r answer program old now next g s rests = record {
  here = program_after answer (transition_of now g.here event) g.here;
  rests = rests;
  on = λ replies later new h.
      let at = moment (seen next.journal.rig).trace in
      subst (λ (l : List Reply). History seen events l ((moments ++ at ∷ []) ++ later) program old new) (sym (append_assoc done (r ∷ []) replies))
      (subst (λ (l : List ℕ). History seen events (done ++ r ∷ replies) l program old new)
      (sym (append_assoc moments (at ∷ []) later))
      (g.on (r ∷ replies) (at ∷ later) new (answer, (next, (s, h)))));
}

pub rests_after : {A R : Type 0} (seen : R → Device) (event : Event A) (answer : Result Reply Fault) (here : List ℕ) (now next : ControllerModel R)
    → OnSpecIfHonest seen answer event here now next → IsAtRestWith (seen now.journal.rig).trace now here
    → next.journal.broken ≡ false → IsAtRestWith (seen next.journal.rig).trace next (program_after answer (transition_of now here event) here)
rests_after seen event (Ok v) here now next s rests whole = s.acts.leaves.0
rests_after {A} {R} seen event (Err fault) here now next s rests whole =
    let Goal : Fault → Type 0 = λ f. OnSpecIfHonest seen (Err f) event here now next → IsAtRestWith (seen next.journal.rig).trace next here in
    let short : Goal OutOfMemory = λ z. z.acts.leaves.0 in
    let used : Goal CountersUsed = λ z. z.acts.leaves.0 in
    let lost : Goal DeviceFailed = λ z. absurd (let b : true ≡ false = sym z.broken ∙ whole in cc) in
    let goal : Goal fault = ⊎_elim (λ e. subst Goal (sym e.0) short)
    (λ o. ⊎_elim (λ e. subst Goal (sym e.0) used) (λ e. subst Goal (sym e.0) lost) o) s.hindered in
    goal s

-- an event of a whole controller
goes_whole : {A R : Type 0} (seen : R → Device) (events : List (Event A)) (event : Event A) (rest : List (Event A))
    (done : List Reply) (moments : List ℕ) (r : Reply) (old now next : ControllerModel R)
    → now.journal.broken ≡ false → Handles seen event r now next
    → IfHonest (seen old.journal.rig) (seen now.journal.rig) (GoesFrom seen events (event ∷ rest) done moments old now)
    → IfHonest (seen old.journal.rig) (seen next.journal.rig)
    (GoesFrom seen events rest (done ++ r ∷ []) (moments ++ moment (seen next.journal.rig).trace ∷ []) old next)
goes_whole seen events event rest done moments r old now next whole s p = record {
  keeps = λ h. s.carried.does.keeps (p.keeps h);
  back = λ h. p.back (s.carried.does.back h);
  holds = λ h program rests.
      let g = p.holds h program rests in
      let serving : OnSpecIfHonest seen s.answer event g.here now next =
      record {
        acts = s.carried.does.holds (p.keeps h) g.here (g.rests whole);
        hindered = s.carried.hindered;
        broken = s.carried.broken;
        geometry = s.carried.geometry;
      } in
      goes_more seen events event rest done moments r s.answer program old now next g
      (record {
        told_is = s.told_is;
        moment_is = refl;
        stepping =
            subst (λ (b : Bool). OnSpecAnyState seen b s.answer event g.here now next) (sym whole) serving;
      })
      (rests_after seen event s.answer g.here now next serving (g.rests whole));
}

-- an event of a broken one
goes_broken : {A R : Type 0} (seen : R → Device) (events : List (Event A)) (event : Event A) (rest : List (Event A))
    (done : List Reply) (moments : List ℕ) (r : Reply) (old now next : ControllerModel R)
    → now.journal.broken ≡ true → next ≡ now → r ≡ reply_to (broken_answer now.session event)
    → IfHonest (seen old.journal.rig) (seen now.journal.rig) (GoesFrom seen events (event ∷ rest) done moments old now)
    → IfHonest (seen old.journal.rig) (seen next.journal.rig)
    (GoesFrom seen events rest (done ++ r ∷ []) (moments ++ moment (seen next.journal.rig).trace ∷ []) old next)
goes_broken {A} {R} seen events event rest done moments r old now next broken same told p = record {
  keeps = λ h. subst (λ (c : ControllerModel R). (seen c.journal.rig).honest) (sym same) (p.keeps h);
  back = λ h. p.back (subst (λ (c : ControllerModel R). (seen c.journal.rig).honest) same h);
  holds = λ h program rests.
      let g = p.holds h program rests in
      goes_more seen events event rest done moments r (broken_answer now.session event) program old now next g
      (record {
        told_is = told;
        moment_is = refl;
        stepping =
            subst (λ (b : Bool). OnSpecAnyState seen b (broken_answer now.session event) event g.here now next)
            (sym broken) (refl, same);
      })
      (λ whole. absurd (let b : true ≡ false = sym broken ∙ sym (ap (λ (c : ControllerModel R). c.journal.broken) same) ∙ whole in cc));
}

pub goes_next : {A R : Type 0} (seen : R → Device) (events : List (Event A)) (event : Event A)
    (rest : List (Event A)) (done : List Reply) (moments : List ℕ) (r : Reply) (b : Bool)
    (old now next : ControllerModel R)
    → now.journal.broken ≡ b
    → (now.journal.broken ≡ false → Handles seen event r now next)
    → (now.journal.broken ≡ true → (next ≡ now) × (r ≡ reply_to (broken_answer now.session event)))
    → IfHonest (seen old.journal.rig) (seen now.journal.rig) (GoesFrom seen events (event ∷ rest) done moments old now)
    → IfHonest (seen old.journal.rig) (seen next.journal.rig)
    (GoesFrom seen events rest (done ++ r ∷ []) (moments ++ moment (seen next.journal.rig).trace ∷ []) old next)
goes_next seen events event rest done moments r false old now next is serves broken p =
    goes_whole seen events event rest done moments r old now next is (serves is) p
goes_next seen events event rest done moments r true old now next is serves broken p =
    goes_broken seen events event rest done moments r old now next is (broken is).0 (broken is).1 p
