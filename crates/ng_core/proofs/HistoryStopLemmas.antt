-- What a history leaves, in terms of the session alone.
use Rattle.std.proofs.Common.{◌≡◌, ◌⊎◌, ◌≤◌, ◌+◌, inl, inr, ⊎_elim, ℕ, zero, suc, Bool, true, false, List, [], ◌∷◌}
use Rattle.std.proofs.Common.{◌++◌, length, map, take, Result, Ok, Err, refl, sym, ◌∙◌, ap, subst, append_assoc}
use Rattle.std.proofs.Common.{arith}
use Rattle.std.proofs.lemmas.List.{append-nil}
use Rattle.ng_num.specs.declared.fault.Fault.{Fault}
use Rattle.ng_num.specs.declared.fault.Fault.TheVariants.{DeviceFailed, CountersUsed, OutOfMemory}
use Rattle.ng_canon.specs.declared.item.Item.{Item}
use Rattle.ng_rig.specs.Rig.{Device}
use Rattle.ng_rig.specs.Trace.{Image, Trace, StopSince, items, moment}
use Rattle.ng_layout.specs.Stored.{DurableState}
use Rattle.ng_journal.specs.Journal.{StandsFor}
use Rattle.ng_journal.proofs.AtRestLemmas.{alone}
use Rattle.ng_canon.specs.declared.geometry.Geometry.{Geometry}
use Rattle.ng_session.specs.Session.{SessionModel}
use Rattle.ng_session.specs.Runs.{ProgramSession, CrashState, leads_to, crash_in, items_of, replies_of, session_of_transition, session_after, done_count, dones}
use Rattle.ng_session.specs.declared.event.Event.{Event}
use Rattle.ng_session.specs.declared.event.Event.TheVariants as event
use Rattle.ng_session.specs.declared.reply.Reply.{Reply}
use Rattle.ng_session.specs.declared.reply.Reply.TheVariants as reply
use Rattle.ng_core.specs.Model.{ControllerModel, IsAtRestWith}
use Rattle.ng_core.specs.Events.{IsCrashOfEither, reply_to, broken_answer, program_session_of}
use Rattle.ng_core.specs.Moments.{AtEachStop, IsRising, answered_by}
use Rattle.ng_core.specs.Runs.{IsCrashAfterSome, PassesAsSession, answered_events, answered_events_by}
use Rattle.ng_core.specs.Runs.{session_replies, session_replies_by, tried_events, tried_events_by}
use Rattle.ng_core.specs.Causes.{transition_of}
use Rattle.ng_core.proofs.HistoryLemmas.{History, HonestExchange, OnSpecIfHonest, OnSpecAnyState, program_after}
use Rattle.ng_core.proofs.MomentLemmas.{none_by, one_by, same_moment, same_more, same_none, same_each, same_rising, no_call, one_call, more_calls, weaker_said}

-- ---- what a stop leaves, and how much of it was acknowledged

-- A stop leaves the state after some of these events, at least `least` of them. Of their replies `acknowledged` are
-- Done, or one more.
pub record IsLeftAt {A : Type 0} (geometry : Geometry) (scene : ProgramSession) (given : List Item) (least : ℕ)
    (events : List (Event A)) (acknowledged : ℕ) (image : Image) (handed : List Item) : Type 0 where
  pub after : IsCrashAfterSome least geometry scene given events image handed
  pub all : acknowledged ≤ dones (replies_of geometry scene (take after.count events))
  pub few : dones (replies_of geometry scene (take after.count events)) ≤ acknowledged + 1

-- what a stop leaves if the first n events were answered
abbrev pub IsLeftBy : {A : Type 0} → Geometry → ProgramSession → List Item → List (Event A)
    → List (Result Reply Fault) → List Reply → ℕ → Image → List Item → Type 0
IsLeftBy geometry scene given events answers replies n image handed =
    IsLeftAt geometry scene given (length (answered_events (take n events) answers))
    (tried_events (take (suc n) events) answers) (dones (take n replies)) image handed

as_items : (standing : DurableState) (given more : List Item) (image : Image) (handed : List Item) → more ≡ given
    → StandsFor standing given image handed → StandsFor standing more image handed
as_items standing given more image handed same p = subst (λ (l : List Item). StandsFor standing l image handed) (sym same) p

done_once : (r : Reply) → done_count r ≤ 1
done_once (reply.Done n) = omega arith
done_once _ = omega arith

-- a stop within an event, from a device at rest
either_left : {R : Type 0} (trace_old : Trace) (program : List ℕ) (old : ControllerModel R) (after : CrashState)
    (image : Image) (handed : List Item) → IsAtRestWith trace_old old program
    → StopSince trace_old (moment trace_old) image handed ⊎ IsCrashOfEither (crash_in (program_session_of program old) (items trace_old)) after image handed
    → IsCrashOfEither (crash_in (program_session_of program old) (items trace_old)) after image handed
either_left trace_old program old after image handed rests either =
    ⊎_elim (λ stop. record {
      left = crash_in (program_session_of program old) (items trace_old);
      which = inl refl;
      stands_for = alone trace_old _ _ image handed rests.0.at stop;
    }) (λ p. p) either

module _ {A : Type 0} (geometry : Geometry) (scene : ProgramSession) (given : List Item) (image : Image) (handed : List Item) where
  -- at rest, after no event
  none_left : StandsFor (crash_in scene given).standing given image handed → IsLeftAt {A = A} geometry scene given 0 [] 0 image handed
  none_left stands = record {
    after = record { count = 0; all = omega arith; within = omega arith; stands_for = as_items _ given (given ++ []) image handed (append-nil given) stands };
    all = omega arith;
    few = omega arith;
  }

  -- before an event, or after it
  one_left : (event : Event A)
      → IsCrashOfEither (crash_in scene given)
      (crash_in (session_of_transition (leads_to geometry scene event))
      (given ++ (leads_to geometry scene event).items)) image handed
      → IsLeftAt geometry scene given 0 (event ∷ []) 0 image handed
  one_left event p = elim p.which [
    | inl before ↦ record {
      after = record {
        count = 0;
        all = omega arith;
        within = omega arith;
        stands_for = as_items _ given (given ++ []) image handed (append-nil given)
            (subst (λ (l : CrashState). StandsFor l.standing l.items image handed) before p.stands_for);
      };
      all = omega arith;
      few = omega arith;
    }
    | inr after ↦
        let once = done_once (leads_to geometry scene event).reply in
        record {
          after = record {
            count = 1;
            all = omega arith;
            within = omega arith;
            stands_for = as_items _ (given ++ (leads_to geometry scene event).items) _ image handed
                (ap (λ (l : List Item). given ++ l) (append-nil (leads_to geometry scene event).items))
                (subst (λ (l : CrashState). StandsFor l.standing l.items image handed) after p.stands_for);
          };
          all = omega arith;
          few = omega (arith, once);
        }
  ]

  -- after an event and later ones
  more_left : (event : Event A) (r : Reply) (least : ℕ) (events : List (Event A)) (acknowledged : ℕ)
      → done_count r ≡ done_count (leads_to geometry scene event).reply
      → IsLeftAt geometry (session_of_transition (leads_to geometry scene event))
      (given ++ (leads_to geometry scene event).items) least events acknowledged image handed
      → IsLeftAt geometry scene given (suc least) (event ∷ events) (done_count r + acknowledged) image handed
  more_left event r least events acknowledged same p = record {
    after = record {
      count = suc p.after.count;
      all = omega (arith, p.after.all);
      within = omega (arith, p.after.within);
      stands_for = as_items _ ((given ++ (leads_to geometry scene event).items) ++ items_of geometry
          (session_of_transition (leads_to geometry scene event)) (take p.after.count events)) _ image handed
          (sym (append_assoc given (leads_to geometry scene event).items
          (items_of geometry (session_of_transition (leads_to geometry scene event))
          (take p.after.count events)))) p.after.stands_for;
    };
    all = omega (arith, p.all, same);
    few = omega (arith, p.few, same);
  }

  -- for equal numbers and events
  same_left : (least more : ℕ) (events others : List (Event A)) (acknowledged done : ℕ) → more ≡ least → others ≡ events → done ≡ acknowledged
      → IsLeftAt geometry scene given least events acknowledged image handed → IsLeftAt geometry scene given more others done image handed
  same_left least more events others acknowledged done l e a p =
      subst (λ (n : ℕ). IsLeftAt geometry scene given n others done image handed) (sym l)
      (subst (λ (es : List (Event A)). IsLeftAt geometry scene given least es done image handed) (sym e)
      (subst (λ (n : ℕ). IsLeftAt geometry scene given least events n image handed) (sym a) p))

-- ---- what a history leads to

-- What each stop leaves, with how much of it was acknowledged; and the state now.
pub record Leads {A R : Type 0} (seen : R → Device) (events : List (Event A)) (replies : List Reply)
    (moments : List ℕ) (geometry : Geometry) (scene : ProgramSession) (trace_old : Trace) (new : ControllerModel R)
    : Type 0 where
  pub answers : List (Result Reply Fault)
  pub replies_are : replies ≡ map reply_to answers
  pub told_is : session_replies answers ≡ replies_of geometry scene (answered_events events answers)
  pub each : length moments ≡ length events
  pub rising : IsRising (moment trace_old) (moment (seen new.journal.rig).trace) moments
  pub stops : AtEachStop trace_old (seen new.journal.rig).trace (λ t. IsLeftBy geometry scene (items trace_old) events answers replies (answered_by t moments))
  pub session_is : new.journal.broken ≡ false → new.session ≡ (session_after geometry scene (answered_events events answers)).session
  pub rests : new.journal.broken ≡ false → IsAtRestWith (seen new.journal.rig).trace new (session_after geometry scene (answered_events events answers)).program
  pub items_are : new.journal.broken ≡ false → items (seen new.journal.rig).trace ≡ items trace_old ++ items_of geometry scene (answered_events events answers)

-- After the device failed, nothing changes any more, and nothing is acknowledged; so each moment is the same.
record Idles {A R : Type 0} (seen : R → Device) (events : List (Event A)) (replies : List Reply) (moments : List ℕ) (old new : ControllerModel R) : Type 0 where
  answers : List (Result Reply Fault)
  replies_are : replies ≡ map reply_to answers
  moments_are : moments ≡ same_moment (moment (seen old.journal.rig).trace) events
  none : (n : ℕ) → dones (take n replies) ≡ 0
  same : new ≡ old

none_done : {A : Type 0} (session : SessionModel) (event : Event A) → done_count (reply_to (broken_answer session event)) ≡ 0
none_done session event.Status = refl
none_done session _ = refl

none_more : (r : Reply) (replies : List Reply) → done_count r ≡ 0 → ((n : ℕ) → dones (take n replies) ≡ 0) → (n : ℕ) → dones (take n (r ∷ replies)) ≡ 0
none_more r replies is none zero = refl
none_more r replies is none (suc n) = let rest = none n in omega (arith, is, rest)

idles_more : {A R : Type 0} (seen : R → Device) (event : Event A) (events : List (Event A)) (r : Reply)
    (replies : List Reply) (m : ℕ) (moments : List ℕ) (answer : Result Reply Fault) (program : List ℕ)
    (old between new : ControllerModel R)
    → old.journal.broken ≡ true → HonestExchange seen event r m answer program old between
    → Idles seen events replies moments between new → Idles seen (event ∷ events) (r ∷ replies) (m ∷ moments)
    old new
idles_more {A} {R} seen event events r replies m moments answer program old between new broken step rest =
    let exchange : OnSpecAnyState seen true answer event program old between =
    subst (λ (b : Bool). OnSpecAnyState seen b answer event program old between) broken step.stepping in
    let here : moment (seen between.journal.rig).trace ≡ moment (seen old.journal.rig).trace =
    ap (λ (c : ControllerModel R). moment (seen c.journal.rig).trace) exchange.1 in
    let first : m ≡ moment (seen old.journal.rig).trace = step.moment_is ∙ here in
    let others : moments ≡ same_moment (moment (seen old.journal.rig).trace) events = rest.moments_are ∙ ap (λ (k : ℕ). same_moment k events) here in
    record {
      answers = answer ∷ rest.answers;
      replies_are = λ i. step.told_is i ∷ rest.replies_are i;
      moments_are = (λ i. first i ∷ others i) ∙ sym (same_more (moment (seen old.journal.rig).trace) event events);
      none = none_more r replies (ap done_count (step.told_is ∙ ap (λ (a : Result Reply Fault). reply_to a) exchange.0)
          ∙ none_done old.session event) rest.none;
      same = rest.same ∙ exchange.1;
    }

idles : {A R : Type 0} (seen : R → Device) (events : List (Event A)) (replies : List Reply) (moments program : List ℕ) (old new : ControllerModel R)
    → History seen events replies moments program old new → old.journal.broken ≡ true → Idles seen events replies moments old new
idles {A} seen [] [] [] program old new h broken =
    record {
      answers = [];
      replies_are = refl;
      moments_are =
          sym (same_none (Event A) (moment (seen old.journal.rig).trace));
      none = none_taken;
      same = h;
    }
  where
    none_taken : (n : ℕ) → dones (take n []) ≡ 0
    none_taken zero = refl
    none_taken (suc n) = refl
idles seen [] [] (m ∷ moments) program old new h broken = absurd h
idles seen [] (r ∷ replies) moments program old new h broken = absurd h
idles seen (event ∷ events) [] moments program old new h broken = absurd h
idles seen (event ∷ events) (r ∷ replies) [] program old new h broken = absurd h
idles seen (event ∷ events) (r ∷ replies) (m ∷ moments) program old new h broken =
    let answer = h.0 in
    let between = h.1.0 in
    let exchange : OnSpecAnyState seen true answer event program old between =
    subst (λ (b : Bool). OnSpecAnyState seen b answer event program old between) broken h.1.1.0.stepping in
    idles_more seen event events r replies m moments answer program old between new broken h.1.1.0
    (idles seen events replies moments (program_after answer (transition_of old program event) program) between new
    h.1.1.1 (ap (λ (c : ControllerModel _). c.journal.broken) exchange.1 ∙ broken))

-- the rest of a history goes on from the controller that an answered event left
led_on : {A R : Type 0} (seen : R → Device) (event : Event A) (events : List (Event A)) (r v : Reply)
    (replies : List Reply) (moments program : List ℕ) (old between new : ControllerModel R)
    → r ≡ v → OnSpecIfHonest seen (Ok v) event program old between → IsAtRestWith (seen old.journal.rig).trace old program
    → Leads seen events replies moments between.geometry
    (program_session_of (transition_of old program event).program between) (seen between.journal.rig).trace new
    → Leads seen (event ∷ events) (r ∷ replies) (moment (seen between.journal.rig).trace ∷ moments) old.geometry
    (program_session_of program old) (seen old.journal.rig).trace new
led_on seen event events r v replies moments program old between new told_is s rests p =
    let out = transition_of old program event in
    let same : program_session_of out.program between ≡ session_of_transition out = λ i. record { program = out.program; session = s.acts.comes.1 i } in
    let q : Leads seen events replies moments old.geometry (session_of_transition out) (seen between.journal.rig).trace new =
    subst (λ (z : ProgramSession). Leads seen events replies moments old.geometry z (seen between.journal.rig).trace new) same
    (subst (λ (z : Geometry). Leads seen events replies moments z (program_session_of out.program between)
    (seen between.journal.rig).trace new) s.geometry p) in
    let scene = program_session_of program old in
    let trace_old = (seen old.journal.rig).trace in
    let mid = (seen between.journal.rig).trace in
    let given = items trace_old in
    let answers = Ok v ∷ q.answers in
    let Said : ℕ → Image → List Item → Type 0 = λ n image handed. IsLeftBy old.geometry scene given (event ∷ events) answers (r ∷ replies) n image handed in
    record {
      answers = answers;
      replies_are = λ i. told_is i ∷ q.replies_are i;
      told_is = λ i. s.acts.comes.0 i ∷ q.told_is i;
      each = ap (λ (n : ℕ). suc n) q.each;
      rising = (s.acts.stops.later, q.rising);
      stops = more_calls trace_old mid (seen new.journal.rig).trace
          (IsCrashOfEither (crash_in scene given) (crash_in (session_of_transition out) (given ++ out.items)))
          (λ t. IsLeftBy old.geometry (session_of_transition out) (items mid) events q.answers replies
          (answered_by t moments)) (λ t. Said (answered_by t (moment mid ∷ moments))) s.acts.stops q.stops
          (λ t image handed early either. subst (λ (n : ℕ). Said n image handed)
          (sym (none_by t (moment (seen new.journal.rig).trace) (moment mid) moments early q.rising))
          (one_left old.geometry scene given image handed event
          (either_left trace_old program old (crash_in (session_of_transition out) (given ++ out.items)) image
          handed rests either)))
          (λ t image handed late l. subst (λ (n : ℕ). Said n image handed) (sym (one_by t (moment mid) moments late))
          (more_left old.geometry scene given image handed event r _ _ _ (ap done_count (told_is ∙ s.acts.comes.0))
          (subst (λ (before : List Item). IsLeftBy old.geometry (session_of_transition out) before events q.answers
          replies (answered_by t moments) image handed) s.acts.leaves.1 l)));
      session_is = q.session_is;
      rests = q.rests;
      items_are = λ whole. q.items_are whole
          ∙ ap (λ (l : List Item). l ++ items_of old.geometry (session_of_transition out)
          (answered_events events q.answers)) s.acts.leaves.1
          ∙ append_assoc given out.items (items_of old.geometry (session_of_transition out) (answered_events events q.answers));
    }

-- an event that was set aside changed nothing
led_aside : {A R : Type 0} (seen : R → Device) (event : Event A) (events : List (Event A)) (r : Reply)
    (replies : List Reply) (moments : List ℕ) (fault : Fault) (geometry : Geometry) (scene : ProgramSession)
    (trace_old : Trace) (new : ControllerModel R)
    → ((l : List (Event A)) → answered_events_by (Err fault) event l ≡ l)
    → ((l : List (Event A)) → tried_events_by (Err fault) event l ≡ l)
    → ((l : List Reply) → session_replies_by (Err fault) l ≡ l)
    → r ≡ reply.Refused fault → Leads seen events replies moments geometry scene trace_old new
    → Leads seen (event ∷ events) (r ∷ replies) (moment trace_old ∷ moments) geometry scene trace_old new
led_aside seen event events r replies moments fault geometry scene trace_old new no_more no_try no_word told_is p =
    let answers = Err fault ∷ p.answers in
    let none : done_count r ≡ 0 = ap done_count told_is in
    let Said : ℕ → Image → List Item → Type 0 = λ n image handed. IsLeftBy geometry scene (items trace_old)
    (event ∷ events) answers (r ∷ replies) n image handed in
    record {
      answers = answers;
      replies_are = λ i. told_is i ∷ p.replies_are i;
      told_is = rw (no_more (answered_events events p.answers), no_word (session_replies p.answers)) p.told_is;
      each = ap (λ (n : ℕ). suc n) p.each;
      rising = (omega arith, p.rising);
      stops = weaker_said trace_old (seen new.journal.rig).trace
          (λ t. IsLeftBy geometry scene (items trace_old) events p.answers replies (answered_by t moments))
          (λ t. Said (answered_by t (moment trace_old ∷ moments))) p.stops
          (λ t image handed from l.
          let n = answered_by t moments in
          subst (λ (k : ℕ). Said k image handed) (sym (one_by t (moment trace_old) moments from))
          (same_left geometry scene (items trace_old) image handed _ _ _ _ _ _
          (ap (λ (es : List (Event _)). length es) (no_more (answered_events (take n events) p.answers)))
          (no_try (tried_events (take (suc n) events) p.answers)) (omega (arith, none)) l));
      session_is = rw (no_more (answered_events events p.answers)) p.session_is;
      rests = rw (no_more (answered_events events p.answers)) p.rests;
      items_are = rw (no_more (answered_events events p.answers)) p.items_are;
    }

-- in the event in which the device failed, and after it
lost_left : {A : Type 0} (geometry : Geometry) (scene : ProgramSession) (given : List Item) (event : Event A)
    (events : List (Event A)) (answers : List (Result Reply Fault)) (r : Reply) (replies : List Reply) (n : ℕ)
    (image : Image) (handed : List Item)
    → dones (take n (r ∷ replies)) ≡ 0
    → IsCrashOfEither (crash_in scene given)
    (crash_in (session_of_transition (leads_to geometry scene event))
    (given ++ (leads_to geometry scene event).items)) image handed
    → IsLeftBy geometry scene given (event ∷ events) (Err DeviceFailed ∷ answers) (r ∷ replies) n image handed
lost_left geometry scene given event events answers r replies zero image handed none p = one_left geometry scene given image handed event p
lost_left geometry scene given event events answers r replies (suc n) image handed none p =
    same_left geometry scene given image handed _ _ _ _ _ _ refl refl none (one_left geometry scene given image handed event p)

-- the device failed in an event
led_lost : {A R : Type 0} (seen : R → Device) (event : Event A) (events : List (Event A)) (r : Reply)
    (replies : List Reply) (moments program : List ℕ) (old between new : ControllerModel R)
    → r ≡ reply.Refused DeviceFailed → OnSpecIfHonest seen (Err DeviceFailed) event program old between
    → IsAtRestWith (seen old.journal.rig).trace old program → Idles seen events replies moments between new
    → Leads seen (event ∷ events) (r ∷ replies) (moment (seen between.journal.rig).trace ∷ moments) old.geometry
    (program_session_of program old) (seen old.journal.rig).trace new
led_lost {A} {R} seen event events r replies later program old between new told_is s rests idle =
    let failed : new.journal.broken ≡ true = ap (λ (c : ControllerModel _). c.journal.broken) idle.same ∙ s.broken in
    let trace_old = (seen old.journal.rig).trace in
    let last = moment (seen between.journal.rig).trace in
    let moments = last ∷ later in
    let answers = Err DeviceFailed ∷ idle.answers in
    let out = transition_of old program event in
    let after = crash_in (session_of_transition out) (items trace_old ++ out.items) in
    let rising : IsRising last (moment (seen new.journal.rig).trace) later =
    subst (λ (l : List ℕ). IsRising last (moment (seen new.journal.rig).trace) l) (sym idle.moments_are)
    (subst (λ (c : ControllerModel R). IsRising last (moment (seen c.journal.rig).trace) (same_moment last events))
    (sym idle.same) (same_rising last events)) in
    record {
      answers = answers;
      replies_are = λ i. told_is i ∷ idle.replies_are i;
      told_is = refl;
      each = ap (λ (n : ℕ). suc n) (ap (λ (l : List ℕ). length l) idle.moments_are ∙ same_each last events);
      rising = (s.acts.stops.later, rising);
      stops = subst (λ (c : ControllerModel R). AtEachStop trace_old (seen c.journal.rig).trace
          (λ t. IsLeftBy old.geometry (program_session_of program old) (items trace_old) (event ∷ events) answers
          (r ∷ replies) (answered_by t moments))) (sym idle.same)
          (one_call trace_old (seen between.journal.rig).trace
          (IsCrashOfEither (crash_in (program_session_of program old) (items trace_old)) after) _ s.acts.stops
          (λ t image handed either. lost_left old.geometry (program_session_of program old) (items trace_old) event
          events idle.answers r replies (answered_by t moments) image handed
          (none_more r replies (ap done_count told_is) idle.none (answered_by t moments)) (either_left trace_old program old after image handed rests either)));
      session_is = λ whole. absurd (let z : true ≡ false = sym failed ∙ whole in cc);
      rests = λ whole. absurd (let z : true ≡ false = sym failed ∙ whole in cc);
      items_are = λ whole. absurd (let z : true ≡ false = sym failed ∙ whole in cc);
    }

-- an event of a whole controller, and the rest of its history
led : {A R : Type 0} (seen : R → Device) (event : Event A) (events : List (Event A)) (r : Reply)
    (replies : List Reply) (moments : List ℕ) (answer : Result Reply Fault) (program : List ℕ)
    (old between new : ControllerModel R)
    → r ≡ reply_to answer → OnSpecIfHonest seen answer event program old between → old.journal.broken ≡ false
    → IsAtRestWith (seen old.journal.rig).trace old program
    → History seen events replies moments (program_after answer (transition_of old program event) program) between new
    → ((p : List ℕ) → between.journal.broken ≡ false → IsAtRestWith (seen between.journal.rig).trace between p
    → History seen events replies moments p between new → Leads seen events replies moments between.geometry
    (program_session_of p between) (seen between.journal.rig).trace new)
    → Leads seen (event ∷ events) (r ∷ replies) (moment (seen between.journal.rig).trace ∷ moments) old.geometry
    (program_session_of program old) (seen old.journal.rig).trace new
led seen event events r replies moments (Ok v) program old between new told_is s whole rests h on =
    led_on seen event events r v replies moments program old between new told_is s rests
    (on (transition_of old program event).program s.broken s.acts.leaves.0 h)
led {A} {R} seen event events r replies moments (Err fault) program old between new told_is s whole rests h on =
    let Leading : ℕ → Type 0 = λ at. Leads seen (event ∷ events) (r ∷ replies) (at ∷ moments) old.geometry
    (program_session_of program old) (seen old.journal.rig).trace new in
    let Goal : Fault → Type 0 = λ f. r ≡ reply.Refused f → OnSpecIfHonest seen (Err f) event program old between
    → Leading (moment (seen between.journal.rig).trace) in
    let unmoved : between.journal.broken ≡ false → between.session ≡ old.session
    → (seen between.journal.rig).trace ≡ (seen old.journal.rig).trace
    → IsAtRestWith (seen between.journal.rig).trace between program
    → Leads seen events replies moments old.geometry (program_session_of program old) (seen old.journal.rig).trace new =
    λ unbroken same alive here.
    subst (λ (l : Trace). Leads seen events replies moments old.geometry (program_session_of program old) l new) alive
    (subst (λ (x : SessionModel). Leads seen events replies moments old.geometry
    (record { program = program; session = x }) (seen between.journal.rig).trace new) same
    (subst (λ (q : Geometry). Leads seen events replies moments q (program_session_of program between) (seen between.journal.rig).trace new) s.geometry
    (on program unbroken here h))) in
    let then : (seen between.journal.rig).trace ≡ (seen old.journal.rig).trace
    → Leading (moment (seen old.journal.rig).trace) → Leading (moment (seen between.journal.rig).trace) =
    λ alive p. subst Leading (sym (ap (λ (l : Trace). moment l) alive)) p in
    let short : Goal OutOfMemory = λ t z.
    then z.acts.leaves.1 (led_aside seen event events r replies moments OutOfMemory old.geometry
    (program_session_of program old) (seen old.journal.rig).trace new (λ l. refl) (λ l. refl) (λ l. refl) t
    (unmoved z.broken z.acts.comes z.acts.leaves.1 z.acts.leaves.0)) in
    let used : Goal CountersUsed = λ t z.
    then z.acts.leaves.1 (led_aside seen event events r replies moments CountersUsed old.geometry
    (program_session_of program old) (seen old.journal.rig).trace new (λ l. refl) (λ l. refl) (λ l. refl) t
    (unmoved z.broken z.acts.comes z.acts.leaves.1 z.acts.leaves.0)) in
    let lost : Goal DeviceFailed = λ t z. led_lost seen event events r replies moments program old between new t z
    rests (idles seen events replies moments program between new h z.broken) in
    let goal : Goal fault = ⊎_elim (λ e. subst Goal (sym e.0) short)
    (λ o. ⊎_elim (λ e. subst Goal (sym e.0) used) (λ e. subst Goal (sym e.0) lost) o) s.hindered in
    goal told_is s

pub leads : {A R : Type 0} (seen : R → Device) (events : List (Event A)) (replies : List Reply) (moments program : List ℕ) (old new : ControllerModel R)
    → History seen events replies moments program old new → old.journal.broken ≡ false → IsAtRestWith (seen old.journal.rig).trace old program
    → Leads seen events replies moments old.geometry (program_session_of program old) (seen old.journal.rig).trace new
leads {A} {R} seen [] [] [] program old new h whole rests =
    let trace_old = (seen old.journal.rig).trace in
    subst (λ (c : ControllerModel R). Leads {A = A} seen [] [] [] old.geometry (program_session_of program old) trace_old c) (sym h) (record {
      answers = [];
      replies_are = refl;
      told_is = refl;
      each = refl;
      rising = omega arith;
      stops = no_call trace_old (λ t. IsLeftBy {A = A} old.geometry (program_session_of program old) (items trace_old) [] [] [] 0)
          (λ t image handed stop. none_left {A = A} old.geometry (program_session_of program old) (items trace_old)
          image handed (alone trace_old _ _ image handed rests.0.at stop));
      session_is = λ b. refl;
      rests = λ b. rests;
      items_are = λ b. sym (append-nil (items trace_old));
    })
leads seen [] [] (m ∷ moments) program old new h whole rests = absurd h
leads seen [] (r ∷ replies) moments program old new h whole rests = absurd h
leads seen (event ∷ events) [] moments program old new h whole rests = absurd h
leads seen (event ∷ events) (r ∷ replies) [] program old new h whole rests = absurd h
leads seen (event ∷ events) (r ∷ replies) (m ∷ moments) program old new h whole rests =
    let answer = h.0 in
    let between = h.1.0 in
    let exchange : OnSpecIfHonest seen answer event program old between =
    subst (λ (b : Bool). OnSpecAnyState seen b answer event program old between) whole h.1.1.0.stepping in
    subst (λ (at : ℕ). Leads seen (event ∷ events) (r ∷ replies) (at ∷ moments) old.geometry
    (program_session_of program old) (seen old.journal.rig).trace new) (sym h.1.1.0.moment_is)
    (led seen event events r replies moments answer program old between new h.1.1.0.told_is exchange whole rests h.1.1.1
    (λ p w k g. leads seen events replies moments p between new g w k))

abbrev pub passed : {A R : Type 0} (seen : R → Device) (events : List (Event A)) (replies : List Reply)
    (moments : List ℕ) (geometry : Geometry) (scene : ProgramSession) (trace_old : Trace) (new : ControllerModel R)
    → Leads seen events replies moments geometry scene trace_old new → PassesAsSession seen events replies moments geometry scene trace_old new
passed seen events replies moments geometry scene trace_old new l = record {
  answers = l.answers;
  replies_are = l.replies_are;
  told_is = l.told_is;
  each = l.each;
  rising = l.rising;
  stops = weaker_said trace_old (seen new.journal.rig).trace _ _ l.stops (λ t image handed from is. is.after);
  session_is = l.session_is;
  rests = l.rests;
  items_are = l.items_are;
}

-- Each history proceeds as the session does.
pub passes : {A R : Type 0} (seen : R → Device) (events : List (Event A)) (replies : List Reply) (moments program : List ℕ) (old new : ControllerModel R)
    → History seen events replies moments program old new → old.journal.broken ≡ false → IsAtRestWith (seen old.journal.rig).trace old program
    → PassesAsSession seen events replies moments old.geometry (program_session_of program old) (seen old.journal.rig).trace new
passes seen events replies moments program old new h whole rests =
    passed seen events replies moments old.geometry (program_session_of program old) (seen old.journal.rig).trace
    new (leads seen events replies moments program old new h whole rests)
