-- What an event leaves, from what its calls of the device leave.
use Rattle.std.proofs.Common.{◌≡◌, ◌⊎◌, inl, inr, ⊎_elim, ℕ, List, [], ◌∷◌, ◌++◌, Ok, Err, refl, sym, ◌∙◌, ap, subst}
use Rattle.std.proofs.lemmas.List.{append-nil}
use Rattle.ng_num.specs.declared.fault.Fault.{Fault}
use Rattle.ng_num.specs.declared.fault.Fault.TheVariants.{DeviceFailed, CountersUsed, OutOfMemory}
use Rattle.ng_canon.specs.declared.item.Item.{Item}
use Rattle.ng_rig.specs.Trace.{Trace, items}
use Rattle.ng_rig.specs.Continuation.{IsContinuation}
use Rattle.ng_rig.proofs.ContinuationLemmas.{stays, weaker}
use Rattle.ng_layout.specs.Stored.{DurableState}
use Rattle.ng_journal.specs.AtRest.{IsEither}
use Rattle.ng_journal.specs.Journal.{JournalModel, IsDurablyAt, StandsFor, CommitSpec, JournalHandOutSpec}
use Rattle.ng_session.specs.Planned.{KnownModel, IsKnownOf}
use Rattle.ng_session.specs.Session.{SessionModel, Transition}
use Rattle.ng_session.specs.Operator.{session_status}
use Rattle.ng_session.specs.Runs.{crash_in, session_of_transition}
use Rattle.ng_session.specs.declared.reply.Reply.{Reply}
use Rattle.ng_core.specs.Model.{ControllerModel, IsAtRestWith, durable_state_of}
use Rattle.ng_core.specs.Events.{IsCrashOfEither, IsCarriedOut, TouchesNothing, program_session_of}

-- the items after an outcome that hands nothing out
left_same : (out : Transition) (given : List Item) → out.items ≡ [] → given ++ out.items ≡ given
left_same out given none = ap (λ (l : List Item). given ++ l) none ∙ append-nil given

standing_same : (p q : List ℕ) (s t : SessionModel) → p ≡ q → s.stored ≡ t.stored → durable_state_of p s ≡ durable_state_of q t
standing_same p q s t same stored = λ i. record { saved = stored i; program = same i }

-- what is known of a device stays known if nothing changes
rests_as : {R : Type 0} (trace : Trace) (a b : JournalModel R) (s t : DurableState) → b ≡ a → t ≡ s → IsDurablyAt trace a s → IsDurablyAt trace b t
rests_as trace a b s t journal standing rests =
    subst (λ (j : JournalModel _). IsDurablyAt trace j t) (sym journal) (subst (λ (x : DurableState). IsDurablyAt trace a x) (sym standing) rests)

pub known_as : (p q : List ℕ) (k l : KnownModel) → q ≡ p → l ≡ k → IsKnownOf p k → IsKnownOf q l
known_as p q k l program lines known = subst (λ (x : KnownModel). IsKnownOf q x) (sym lines) (subst (λ (x : List ℕ). IsKnownOf x k) (sym program) known)

-- the device wasn't called, and what is stored is unchanged
pub acts_quiet : {R : Type 0} (r : Reply) (out : Transition) (program : List ℕ) (old new : ControllerModel R) (trace_old trace_new : Trace)
    → trace_new ≡ trace_old → IsAtRestWith trace_old old program → new.journal ≡ old.journal → new.lines ≡ old.lines → r ≡ out.reply → new.session ≡ out.next
    → out.items ≡ [] → out.program ≡ program → out.next.stored ≡ old.session.stored
    → IsCarriedOut (Ok r) out program old new trace_old trace_new
acts_quiet r out program old new trace_old trace_new alive rests journal lines replied next none same stored =
    subst (λ (l : Trace). IsCarriedOut (Ok r) out program old new trace_old l) (sym alive) (record {
      comes = (replied, next);
      stops = stays trace_old (IsCrashOfEither (crash_in (program_session_of program old) (items trace_old))
          (crash_in (session_of_transition out) (items trace_old ++ out.items)));
      leaves = (
        (
          rests_as trace_old old.journal new.journal (durable_state_of program old.session) (durable_state_of out.program new.session) journal
              (standing_same out.program program new.session old.session same (ap (λ (s : SessionModel). s.stored) next ∙ stored)) rests.0,
          known_as program out.program old.lines new.lines same lines rests.1,
        ),
        sym (left_same out (items trace_old) none),
      );
      untouched = λ nothing. refl;
    })

-- lines were read, and what is stored is unchanged
pub acts_read : {R : Type 0} (r : Reply) (out : Transition) (program : List ℕ) (old new : ControllerModel R) (trace_old trace_new : Trace)
    → trace_new ≡ trace_old → IsDurablyAt trace_new new.journal (durable_state_of program old.session)
    → IsKnownOf out.program new.lines → r ≡ out.reply → new.session ≡ out.next
    → out.items ≡ [] → out.program ≡ program → out.next.stored ≡ old.session.stored
    → IsCarriedOut (Ok r) out program old new trace_old trace_new
acts_read r out program old new trace_old trace_new alive rests known replied next none same stored = record {
  comes = (replied, next);
  stops = subst (λ (l : Trace).
      IsContinuation trace_old l (IsCrashOfEither (crash_in (program_session_of program old) (items trace_old))
      (crash_in (session_of_transition out) (items trace_old ++ out.items)))) (sym alive)
      (stays trace_old (IsCrashOfEither (crash_in (program_session_of program old) (items trace_old))
      (crash_in (session_of_transition out) (items trace_old ++ out.items))));
  leaves = (
    (
      rests_as trace_new new.journal new.journal (durable_state_of program old.session) (durable_state_of out.program new.session) refl
          (standing_same out.program program new.session old.session same (ap (λ (s : SessionModel). s.stored) next ∙ stored)) rests,
      known,
    ),
    ap items alive ∙ sym (left_same out (items trace_old) none),
  );
  untouched = λ nothing. alive;
}

-- there was no memory, or no count was left, and nothing was written
pub acts_aside : {R : Type 0} (fault : Fault) (out : Transition) (program : List ℕ) (old new : ControllerModel R) (trace_old trace_new : Trace)
    → (fault ≡ OutOfMemory) ⊎ (fault ≡ CountersUsed) → trace_new ≡ trace_old → new.session ≡ old.session
    → IsDurablyAt trace_new new.journal (durable_state_of program old.session) → IsKnownOf program new.lines
    → IsCarriedOut (Err fault) out program old new trace_old trace_new
acts_aside {R} fault out program old new trace_old trace_new which alive same rests known =
    let Goal : Fault → Type 0 = λ f. IsCarriedOut (Err f) out program old new trace_old trace_new in
    let at : IsDurablyAt trace_new new.journal (durable_state_of program new.session) =
    rests_as trace_new new.journal new.journal (durable_state_of program old.session)
    (durable_state_of program new.session) refl
    (standing_same program program new.session old.session refl (ap (λ (s : SessionModel). s.stored) same)) rests in
    let here : IsAtRestWith trace_new new program = (at, known) in
    let stops : IsContinuation trace_old trace_new
    (IsCrashOfEither (crash_in (program_session_of program old) (items trace_old))
    (crash_in (session_of_transition out) (items trace_old ++ out.items))) =
    subst (λ (l : Trace).
    IsContinuation trace_old l (IsCrashOfEither (crash_in (program_session_of program old) (items trace_old))
    (crash_in (session_of_transition out) (items trace_old ++ out.items)))) (sym alive)
    (stays trace_old (IsCrashOfEither (crash_in (program_session_of program old) (items trace_old))
    (crash_in (session_of_transition out) (items trace_old ++ out.items)))) in
    let short : Goal OutOfMemory = record { comes = same; stops = stops; leaves = (here, alive); untouched = tt } in
    let used : Goal CountersUsed = record { comes = same; stops = stops; leaves = (here, alive); untouched = tt } in
    ⊎_elim (λ e. subst Goal (sym e) short) (λ e. subst Goal (sym e) used) which

-- the device failed in a call that wrote nothing
pub acts_unread : {R : Type 0} (fault : Fault) (out : Transition) (program : List ℕ) (old new : ControllerModel R) (trace_old trace_new : Trace)
    → fault ≡ DeviceFailed → trace_new ≡ trace_old → session_status new.session ≡ session_status old.session
    → IsCarriedOut (Err fault) out program old new trace_old trace_new
acts_unread fault out program old new trace_old trace_new is alive same =
    subst (λ (f : Fault). IsCarriedOut (Err f) out program old new trace_old trace_new) (sym is) (record {
      comes = same;
      stops = subst (λ (l : Trace).
          IsContinuation trace_old l (IsCrashOfEither (crash_in (program_session_of program old) (items trace_old))
          (crash_in (session_of_transition out) (items trace_old ++ out.items)))) (sym alive)
          (stays trace_old (IsCrashOfEither (crash_in (program_session_of program old) (items trace_old))
          (crash_in (session_of_transition out) (items trace_old ++ out.items))));
      leaves = tt;
      untouched = tt;
    })

-- each stop leaves either the state before or the state after
moved_stops : (trace_old trace_new : Trace) (before after : DurableState) (given more : List Item) → given ≡ items trace_old → more ≡ given
    → IsContinuation trace_old trace_new (IsEither (Ok before) (Ok after) (items trace_old))
    → IsContinuation trace_old trace_new (IsCrashOfEither (record { standing = before; items = given }) (record { standing = after; items = more }))
moved_stops trace_old trace_new before after given more is same stops =
    weaker trace_old trace_new (IsEither (Ok before) (Ok after) (items trace_old))
    (IsCrashOfEither (record { standing = before; items = given }) (record { standing = after; items = more }))
    stops
    (λ image handed p. ⊎_elim
    (λ b. record {
      left = record { standing = before; items = given };
      which = inl refl;
      stands_for =
          record { state = b; modern = p.modern; written = p.written; handed_is = p.handed_is ∙ sym is };
    })
    (λ a. record {
      left = record { standing = after; items = more };
      which = inr refl;
      stands_for =
          record { state = a; modern = p.modern; written = p.written; handed_is = p.handed_is ∙ sym is ∙ sym same };
    })
    p.state)

-- an entry or a segment was stored, or the device failed in that
pub acts_moved : {R T : Type 0} (r : Reply) (v : T) (out : Transition) (program : List ℕ) (old new : ControllerModel R) (trace_old trace_new : Trace)
    → CommitSpec {E = Fault} (Ok v) new.journal (durable_state_of program old.session) (durable_state_of out.program out.next) trace_old trace_new
    → IsKnownOf out.program new.lines → r ≡ out.reply → new.session ≡ out.next → out.items ≡ [] → (TouchesNothing r → ⊥)
    → IsCarriedOut (Ok r) out program old new trace_old trace_new
acts_moved r v out program old new trace_old trace_new moves known replied next none touched =
    let same = left_same out (items trace_old) none in
    record {
      comes = (replied, next);
      stops = moved_stops trace_old trace_new (durable_state_of program old.session)
          (durable_state_of out.program out.next) (items trace_old) (items trace_old ++ out.items) refl same
          moves.stops;
      leaves = (
        (
          rests_as trace_new new.journal new.journal (durable_state_of out.program out.next) (durable_state_of out.program new.session) refl
              (standing_same out.program out.program new.session out.next refl (ap (λ (s : SessionModel). s.stored) next)) moves.at,
          known,
        ),
        moves.items_are ∙ sym same,
      );
      untouched = λ nothing. absurd (touched nothing);
    }

pub acts_unmoved : {R T : Type 0} (fault e : Fault) (out : Transition) (program : List ℕ)
    (old new : ControllerModel R) (journal : JournalModel R) (trace_old trace_new : Trace)
    → CommitSpec {T = T} (Err e) journal (durable_state_of program old.session) (durable_state_of out.program out.next) trace_old trace_new
    → fault ≡ DeviceFailed → session_status new.session ≡ session_status old.session → out.items ≡ []
    → IsCarriedOut (Err fault) out program old new trace_old trace_new
acts_unmoved fault e out program old new journal trace_old trace_new moves is same none =
    subst (λ (f : Fault). IsCarriedOut (Err f) out program old new trace_old trace_new) (sym is) (record {
      comes = same;
      stops = moved_stops trace_old trace_new (durable_state_of program old.session)
          (durable_state_of out.program out.next) (items trace_old) (items trace_old ++ out.items) refl
          (left_same out (items trace_old) none) moves.stops;
      leaves = tt;
      untouched = tt;
    })

-- each stop has the item in addition
handed_stops : (trace_old trace_new : Trace) (before after : DurableState) (given more : List Item) → before ≡ after
    → IsContinuation trace_old trace_new (StandsFor before more)
    → IsContinuation trace_old trace_new (IsCrashOfEither (record { standing = before; items = given }) (record { standing = after; items = more }))
handed_stops trace_old trace_new before after given more same stops =
    weaker trace_old trace_new (StandsFor before more)
    (IsCrashOfEither (record { standing = before; items = given }) (record { standing = after; items = more }))
    stops
    (λ image handed p. record {
      left = record { standing = after; items = more };
      which = inr refl;
      stands_for =
          subst (λ (s : DurableState). StandsFor s more image handed) same p;
    })

-- an item was handed out, or the device failed in that
pub acts_handed : {R T : Type 0} (r : Reply) (v : T) (item : Item) (out : Transition) (program : List ℕ)
    (old new : ControllerModel R) (trace_old trace_new : Trace)
    → JournalHandOutSpec {E = Fault} (Ok v) new.journal (durable_state_of program old.session) item trace_old trace_new
    → IsKnownOf out.program new.lines → r ≡ out.reply → new.session ≡ out.next → out.items ≡ item ∷ []
    → out.program ≡ program → out.next.stored ≡ old.session.stored → (TouchesNothing r → ⊥)
    → IsCarriedOut (Ok r) out program old new trace_old trace_new
acts_handed r v item out program old new trace_old trace_new hands known replied next one same stored touched =
    let more : items trace_old ++ out.items ≡ items trace_old ++ item ∷ [] = ap (λ (l : List Item). items trace_old ++ l) one in
    let standing : durable_state_of program old.session ≡ durable_state_of out.program out.next =
    standing_same program out.program old.session out.next (sym same) (sym stored) in
    record {
      comes = (replied, next);
      stops = handed_stops trace_old trace_new (durable_state_of program old.session)
          (durable_state_of out.program out.next) (items trace_old) (items trace_old ++ out.items) standing
          (subst (λ (l : List Item). IsContinuation trace_old trace_new (StandsFor (durable_state_of program old.session) l)) (sym more) hands.stops);
      leaves = (
        (
          rests_as trace_new new.journal new.journal (durable_state_of program old.session) (durable_state_of out.program new.session) refl
              (standing_same out.program program new.session old.session same (ap (λ (s : SessionModel). s.stored) next ∙ stored)) hands.at,
          known,
        ),
        hands.given ∙ sym more,
      );
      untouched = λ nothing. absurd (touched nothing);
    }

pub acts_unhanded : {R T : Type 0} (fault e : Fault) (item : Item) (out : Transition) (program : List ℕ)
    (old new : ControllerModel R) (journal : JournalModel R) (trace_old trace_new : Trace)
    → JournalHandOutSpec {T = T} (Err e) journal (durable_state_of program old.session) item trace_old trace_new
    → fault ≡ DeviceFailed → session_status new.session ≡ session_status old.session → out.items ≡ item ∷ []
    → out.program ≡ program → out.next.stored ≡ old.session.stored
    → IsCarriedOut (Err fault) out program old new trace_old trace_new
acts_unhanded fault e item out program old new journal trace_old trace_new hands is told one same stored =
    let more : items trace_old ++ out.items ≡ items trace_old ++ item ∷ [] = ap (λ (l : List Item). items trace_old ++ l) one in
    let standing : durable_state_of program old.session ≡ durable_state_of out.program out.next =
    standing_same program out.program old.session out.next (sym same) (sym stored) in
    subst (λ (f : Fault). IsCarriedOut (Err f) out program old new trace_old trace_new) (sym is) (record {
      comes = told;
      stops = handed_stops trace_old trace_new (durable_state_of program old.session)
          (durable_state_of out.program out.next) (items trace_old) (items trace_old ++ out.items) standing
          (subst (λ (l : List Item). IsContinuation trace_old trace_new (StandsFor (durable_state_of program old.session) l)) (sym more) hands.stops);
      leaves = tt;
      untouched = tt;
    })
