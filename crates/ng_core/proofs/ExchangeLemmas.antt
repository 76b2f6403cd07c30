-- Events that are answered in turn, and what that leaves.
use Rattle.std.proofs.Common.{◌≡◌, ◌<◌, ◌≤◌, ◌+◌, ◌%◌, ◌^◌, ⊎_elim, ℕ, Bool, true, false, List, [], ◌∷◌, ◌++◌}
use Rattle.std.proofs.Common.{length, take, get_or, Result, Ok, Err, IfErr, refl, sym, ◌∙◌, ap, subst, append_assoc}
use Rattle.std.proofs.Common.{append-nil}
use Rattle.std.proofs.lemmas.List.{take_more, take_all}
use Rattle.ng_num.specs.declared.fault.Fault.{Fault}
use Rattle.ng_num.specs.declared.fault.Fault.TheVariants.{DeviceFailed, CountersUsed, OutOfMemory}
use Rattle.ng_rig.specs.Rig.{Device}
use Rattle.ng_rig.specs.Trace.{moment}
use Rattle.ng_rig.specs.Calls.{IfHonest}
use Rattle.ng_rig.proofs.GuaranteeLemmas.{meaning, promised}
use Rattle.ng_journal.specs.Journal.{CountsFailure, IsBrokenBy}
use Rattle.ng_session.specs.declared.event.Event.{Event}
use Rattle.ng_session.specs.declared.reply.Reply.{Reply}
use Rattle.ng_core.specs.Model.{ControllerModel, IsAtRestWith}
use Rattle.ng_core.specs.Events.{Handles, reply_to, broken_answer, program_session_of}
use Rattle.ng_core.specs.AnsweredEvents.{IsAnsweredEvent, AreAnsweredEvents, answered_at}
use Rattle.ng_core.specs.Runs.{PassesAsSession, IsRun, CountsOneFailure}
use Rattle.ng_core.proofs.HistoryLemmas.{HasRefusalCause, History}
use Rattle.ng_core.proofs.HistoryStepLemmas.{GoesFrom, begins, ends, goes_next}
use Rattle.ng_core.proofs.HistoryStopLemmas.{passes}

-- ---- one turn, and several turns

pub exchanges_one : {A R : Type 0} (seen : R → Device) (event : Event A) (r : Reply) (old new : ControllerModel R)
    → IsAnsweredEvent seen event r old new → AreAnsweredEvents seen (event ∷ []) (r ∷ []) old new
exchanges_one seen event r old new t = (new, (t, refl))

-- events and then others, answered at the moments of the ones and then of the others
pub exchanges_joined_at : {A R : Type 0} (seen : R → Device) (events more : List (Event A)) (replies others : List Reply) (old mid new : ControllerModel R)
    → (p : AreAnsweredEvents seen events replies old mid) → (q : AreAnsweredEvents seen more others mid new)
    → (all : AreAnsweredEvents seen (events ++ more) (replies ++ others) old new)
    × (answered_at seen (events ++ more) (replies ++ others) old new all ≡ answered_at seen events replies old mid p ++ answered_at seen more others mid new q)
exchanges_joined_at {A} {R} seen [] more [] others old mid new p q =
    subst (λ (c : ControllerModel R). (all : AreAnsweredEvents seen more others c new)
    × (answered_at seen more others c new all ≡ answered_at seen more others mid new q)) p (q, refl)
exchanges_joined_at seen [] more (r ∷ replies) others old mid new p q = absurd p
exchanges_joined_at seen (event ∷ events) more [] others old mid new p q = absurd p
exchanges_joined_at seen (event ∷ events) more (r ∷ replies) others old mid new p q =
    let rest = exchanges_joined_at seen events more replies others p.0 mid new p.1.1 q in
    ((p.0, (p.1.0, rest.0)), ap (λ (l : List ℕ). moment (seen p.0.journal.rig).trace ∷ l) rest.1)

pub exchanges_joined : {A R : Type 0} (seen : R → Device) (events more : List (Event A)) (replies others : List Reply) (old mid new : ControllerModel R)
    → AreAnsweredEvents seen events replies old mid → AreAnsweredEvents seen more others mid new
    → AreAnsweredEvents seen (events ++ more) (replies ++ others) old new
exchanges_joined seen events more replies others old mid new p q = (exchanges_joined_at seen events more replies others old mid new p q).0

-- the event at this place
pub exchanges_more : {A R : Type 0} (seen : R → Device) (events : List (Event A)) (n : ℕ) (event : Event A)
    (done : List Reply) (r : Reply) (old now next : ControllerModel R)
    → n < length events → event ≡ get_or events n event → AreAnsweredEvents seen (take n events) done old now → IsAnsweredEvent seen event r now next
    → AreAnsweredEvents seen (take (n + 1) events) (done ++ r ∷ []) old next
exchanges_more {A} seen events n event done r old now next within is p t =
    let here : take (n + 1) events ≡ take n events ++ event ∷ [] = take_more events n event within ∙ ap (λ (e : Event A). take n events ++ e ∷ []) (sym is) in
    subst (λ (l : List (Event A)). AreAnsweredEvents seen l (done ++ r ∷ []) old next) (sym here)
    (exchanges_joined seen (take n events) (event ∷ []) done (r ∷ []) old now next p (exchanges_one seen event r now next t))

-- all of them
pub exchanges_all : {A R : Type 0} (seen : R → Device) (events : List (Event A)) (n : ℕ) (done : List Reply) (old now : ControllerModel R)
    → length events ≤ n → AreAnsweredEvents seen (take n events) done old now → AreAnsweredEvents seen events done old now
exchanges_all {A} seen events n done old now all t = subst (λ (l : List (Event A)). AreAnsweredEvents seen l done old now) (take_all n events all) t

-- ---- what they leave of an honest device

-- a history goes on by turns
exchanged : {A R : Type 0} (seen : R → Device) (all events : List (Event A)) (done replies : List Reply) (moments : List ℕ) (old now new : ControllerModel R)
    → (t : AreAnsweredEvents seen events replies now new)
    → IfHonest (seen old.journal.rig) (seen now.journal.rig) (GoesFrom seen all events done moments old now)
    → IfHonest (seen old.journal.rig) (seen new.journal.rig)
    (GoesFrom seen all [] (done ++ replies) (moments ++ answered_at seen events replies now new t) old new)
exchanged {A} {R} seen all [] done [] moments old now new t p =
    subst (λ (l : List Reply). IfHonest (seen old.journal.rig) (seen new.journal.rig) (GoesFrom seen all [] l (moments ++ []) old new)) (sym (append-nil done))
    (subst (λ (l : List ℕ). IfHonest (seen old.journal.rig) (seen new.journal.rig) (GoesFrom seen all [] done l old new)) (sym (append-nil moments))
    (subst (λ (c : ControllerModel R). IfHonest (seen old.journal.rig) (seen c.journal.rig) (GoesFrom seen all [] done moments old c)) (sym t) p))
exchanged seen all [] done (r ∷ replies) moments old now new t p = absurd t
exchanged seen all (event ∷ events) done [] moments old now new t p = absurd t
exchanged seen all (event ∷ events) done (r ∷ replies) moments old now new t p =
    let at = moment (seen t.0.journal.rig).trace in
    let later = answered_at seen events replies t.0 new t.1.1 in
    subst (λ (l : List Reply). IfHonest (seen old.journal.rig) (seen new.journal.rig)
    (GoesFrom seen all [] l (moments ++ at ∷ later) old new)) (append_assoc done (r ∷ []) replies)
    (subst (λ (l : List ℕ). IfHonest (seen old.journal.rig) (seen new.journal.rig)
    (GoesFrom seen all [] ((done ++ r ∷ []) ++ replies) l old new)) (append_assoc moments (at ∷ []) later)
    (exchanged seen all events (done ++ r ∷ []) replies (moments ++ at ∷ []) old t.0 new t.1.1
    (goes_next seen all event events done moments r now.journal.broken old now t.0 refl t.1.0.serves t.1.0.refuses p)))

-- they have a history, whatever program is stored there, with the moments at which they were answered
pub exchanges_history : {A R : Type 0} (seen : R → Device) (events : List (Event A)) (replies : List Reply) (old new : ControllerModel R)
    → (t : AreAnsweredEvents seen events replies old new)
    → IfHonest (seen old.journal.rig) (seen new.journal.rig) ((program : List ℕ)
    → (old.journal.broken ≡ false → IsAtRestWith (seen old.journal.rig).trace old program)
    → History seen events replies (answered_at seen events replies old new t) program old new)
exchanges_history seen events replies old new t =
    meaning (exchanged seen events events [] replies [] old old new t (promised (begins seen events old)))
    (λ g program rests. ends seen events replies (answered_at seen events replies old new t) program old new (g program rests))

pub exchanges_ran : {A R : Type 0} (seen : R → Device) (events : List (Event A)) (replies : List Reply) (old new : ControllerModel R)
    → (t : AreAnsweredEvents seen events replies old new)
    → IfHonest (seen old.journal.rig) (seen new.journal.rig) (IsRun seen events replies (answered_at seen events replies old new t) old new)
exchanges_ran seen events replies old new t =
    meaning (exchanges_history seen events replies old new t)
    (λ h program whole rests. passes seen events replies (answered_at seen events replies old new t) program old new (h program (λ _. rests)) whole rests)

-- what they lead to with a device that is known to be honest
pub exchanges_lead : {A R : Type 0} (seen : R → Device) (events : List (Event A)) (replies : List Reply) (program : List ℕ) (old new : ControllerModel R)
    → (seen old.journal.rig).honest → (t : AreAnsweredEvents seen events replies old new)
    → old.journal.broken ≡ false → IsAtRestWith (seen old.journal.rig).trace old program
    → PassesAsSession seen events replies (answered_at seen events replies old new t) old.geometry
    (program_session_of program old) (seen old.journal.rig).trace new
exchanges_lead seen events replies program old new h t whole rests = (exchanges_ran seen events replies old new t).holds h program whole rests

pub exchanges_pass : {A R : Type 0} (seen : R → Device) (events : List (Event A)) (replies : List Reply) (old new : ControllerModel R)
    → (t : AreAnsweredEvents seen events replies old new) → old.journal.broken ≡ false
    → IfHonest (seen old.journal.rig) (seen new.journal.rig) ((program : List ℕ) → IsAtRestWith (seen old.journal.rig).trace old program
    → PassesAsSession seen events replies (answered_at seen events replies old new t) old.geometry
    (program_session_of program old) (seen old.journal.rig).trace new)
exchanges_pass seen events replies old new t whole =
    meaning (exchanges_ran seen events replies old new t) (λ ran program rests. ran program whole rests)

-- ---- what they leave of any device

exchange_geometry : {A R : Type 0} (seen : R → Device) (event : Event A) (r : Reply) (b : Bool) (old new : ControllerModel R)
    → old.journal.broken ≡ b → IsAnsweredEvent seen event r old new → new.geometry ≡ old.geometry
exchange_geometry seen event r false old new is t = (t.serves is).carried.geometry
exchange_geometry {A} {R} seen event r true old new is t = ap (λ (c : ControllerModel R). c.geometry) (t.refuses is).0

pub exchanges_geometry : {A R : Type 0} (seen : R → Device) (events : List (Event A)) (replies : List Reply) (old new : ControllerModel R)
    → AreAnsweredEvents seen events replies old new → new.geometry ≡ old.geometry
exchanges_geometry {A} {R} seen [] [] old new t = ap (λ (c : ControllerModel R). c.geometry) t
exchanges_geometry seen [] (r ∷ replies) old new t = absurd t
exchanges_geometry seen (event ∷ events) [] old new t = absurd t
exchanges_geometry seen (event ∷ events) (r ∷ replies) old new t =
    exchanges_geometry seen events replies t.0 new t.1.1 ∙ exchange_geometry seen event r old.journal.broken old t.0 refl t.1.0

-- ---- the failures of the device

fails_none : (broken : Bool) (n : ℕ) → CountsOneFailure broken broken n n
fails_none true n = (refl, refl)
fails_none false n = refl

fails_by : {A R : Type 0} (c : ControllerModel R) (event : Event A) (answer : Result Reply Fault) (broken : Bool)
    (first now next : ℕ) → IfErr answer (HasRefusalCause c event) → IsBrokenBy answer broken
    → CountsFailure answer now next → now ≡ first → CountsOneFailure false broken first next
fails_by c event (Ok v) broken first now next hindered by told same = subst (λ (b : Bool). CountsOneFailure false b first next) (sym by) (told ∙ same)
fails_by c event (Err fault) broken first now next hindered by told same =
    let Goal : Fault → Type 0 = λ f. IsBrokenBy {T = Reply} (Err f) broken
    → CountsFailure {T = Reply} (Err f) now next → CountsOneFailure false broken first next in
    let short : Goal OutOfMemory = λ b t. subst (λ (x : Bool). CountsOneFailure false x first next) (sym b) (t ∙ same) in
    let used : Goal CountersUsed = λ b t. subst (λ (x : Bool). CountsOneFailure false x first next) (sym b) (t ∙ same) in
    let lost : Goal DeviceFailed = λ b t. subst (λ (x : Bool). CountsOneFailure false x first next) (sym b)
    (subst (λ (m : ℕ). next ≡ (m + 1) % 2 ^ 64) same t) in
    let goal : Goal fault = ⊎_elim (λ e. subst Goal (sym e.0) short)
    (λ o. ⊎_elim (λ e. subst Goal (sym e.0) used) (λ e. subst Goal (sym e.0) lost) o) hindered in
    goal by told

-- after an event of a whole controller
fails_whole : {A R : Type 0} (seen : R → Device) (event : Event A) (r : Reply) (first : Bool) (n : ℕ) (now next : ControllerModel R)
    → CountsOneFailure first false n (seen now.journal.rig).failed → (answer : Result Reply Fault)
    → IfErr answer (HasRefusalCause now event) → IsBrokenBy answer next.journal.broken
    → CountsFailure answer (seen now.journal.rig).failed (seen next.journal.rig).failed
    → CountsOneFailure first next.journal.broken n (seen next.journal.rig).failed
fails_whole seen event r true n now next before answer hindered by told = absurd (let z : false ≡ true = before.0 in cc)
fails_whole seen event r false n now next before answer hindered by told =
    fails_by now event answer next.journal.broken n (seen now.journal.rig).failed (seen next.journal.rig).failed
    hindered by told before

fails_after : {A R : Type 0} (seen : R → Device) (event : Event A) (r : Reply) (first b : Bool) (n : ℕ) (now next : ControllerModel R)
    → now.journal.broken ≡ b
    → (now.journal.broken ≡ false → Handles seen event r now next)
    → (now.journal.broken ≡ true → (next ≡ now) × (r ≡ reply_to (broken_answer now.session event)))
    → CountsOneFailure first now.journal.broken n (seen now.journal.rig).failed → CountsOneFailure first next.journal.broken n (seen next.journal.rig).failed
fails_after seen event r first false n now next is serves broken before =
    let s = serves is in
    fails_whole seen event r first n now next
    (subst (λ (x : Bool). CountsOneFailure first x n (seen now.journal.rig).failed) is before) s.answer
    s.carried.hindered s.carried.broken s.carried.failures
fails_after {A} {R} seen event r first true n now next is serves broken before =
    subst (λ (c : ControllerModel R). CountsOneFailure first c.journal.broken n (seen c.journal.rig).failed) (sym (broken is).0) before

fails_next : {A R : Type 0} (seen : R → Device) (event : Event A) (r : Reply) (old now next : ControllerModel R)
    → (now.journal.broken ≡ false → Handles seen event r now next)
    → (now.journal.broken ≡ true → (next ≡ now) × (r ≡ reply_to (broken_answer now.session event)))
    → CountsOneFailure old.journal.broken now.journal.broken (seen old.journal.rig).failed (seen now.journal.rig).failed
    → CountsOneFailure old.journal.broken next.journal.broken (seen old.journal.rig).failed (seen next.journal.rig).failed
fails_next seen event r old now next serves broken before =
    fails_after seen event r old.journal.broken now.journal.broken (seen old.journal.rig).failed now next refl serves broken before

fails_from : {A R : Type 0} (seen : R → Device) (events : List (Event A)) (replies : List Reply) (old now new : ControllerModel R)
    → AreAnsweredEvents seen events replies now new
    → CountsOneFailure old.journal.broken now.journal.broken (seen old.journal.rig).failed (seen now.journal.rig).failed
    → CountsOneFailure old.journal.broken new.journal.broken (seen old.journal.rig).failed (seen new.journal.rig).failed
fails_from {A} {R} seen [] [] old now new t before =
    subst (λ (c : ControllerModel R). CountsOneFailure old.journal.broken c.journal.broken
    (seen old.journal.rig).failed (seen c.journal.rig).failed) (sym t) before
fails_from seen [] (r ∷ replies) old now new t before = absurd t
fails_from seen (event ∷ events) [] old now new t before = absurd t
fails_from seen (event ∷ events) (r ∷ replies) old now new t before =
    fails_from seen events replies old t.0 new t.1.1 (fails_next seen event r old now t.0 t.1.0.serves t.1.0.refuses before)

pub exchanges_fail : {A R : Type 0} (seen : R → Device) (events : List (Event A)) (replies : List Reply) (old new : ControllerModel R)
    → AreAnsweredEvents seen events replies old new → CountsOneFailure old.journal.broken new.journal.broken
    (seen old.journal.rig).failed (seen new.journal.rig).failed
exchanges_fail seen events replies old new t = fails_from seen events replies old old new t (fails_none old.journal.broken (seen old.journal.rig).failed)
