-- The arms of a Tick, from the contracts of their calls.
use Rattle.std.proofs.Common.{◌≡◌, ◌⊎◌, ℕ, true, false, List, Option, Some, None, Result, Ok, Err, refl, sym, ◌∙◌, ap, subst}
use Rattle.ng_num.specs.declared.fault.Fault.{Fault}
use Rattle.ng_num.specs.declared.fault.Fault.TheVariants.{DeviceFailed, CountersUsed}
use Rattle.ng_canon.specs.declared.item.Item.{Item}
use Rattle.ng_rig.specs.Rig.{Device}
use Rattle.ng_rig.specs.Calls.{IfHonest}
use Rattle.ng_rig.proofs.GuaranteeLemmas.{meaning}
use Rattle.ng_layout.specs.Stored.{HalfModel, StoredModel, DurableState}
use Rattle.ng_layout.specs.declared.half.Opened.{Opened}
use Rattle.ng_layout.specs.declared.half.Opened.TheVariants as open_part
use Rattle.ng_journal.specs.Journal.{JournalModel, IsDurablyAt, CommitSpec, JournalHandOutSpec}
use Rattle.ng_canon.specs.declared.geometry.Geometry.{Geometry}
use Rattle.ng_session.specs.Planned.{KnownModel, IsKnownOf}
use Rattle.ng_session.specs.Session.{CurrentBlockModel, SessionModel, Transition, answers, is_running}
use Rattle.ng_session.specs.Operator.{session_status}
use Rattle.ng_session.specs.Ticking.{tick, open_next, end, item_of, handed, opening_of, opening_reply, opened}
use Rattle.ng_session.specs.Ticking.{committed, rest}
use Rattle.ng_session.specs.declared.reply.Reply.{Reply}
use Rattle.ng_session.specs.declared.reply.Reply.TheVariants as reply
use Rattle.ng_core.specs.Model.{ControllerModel, durable_state_of}
use Rattle.ng_core.specs.Events.{IsCarriedOutIfHonest, TouchesNothing, handing}
use Rattle.ng_core.proofs.EventCallLemmas.{known_as}
use Rattle.ng_core.proofs.QuietEventLemmas.{still, still_rest}
use Rattle.ng_core.proofs.HonestEventLemmas.{does_still, does_moved, does_unmoved, does_handed, does_unhanded, Storing}

-- for an equal controller and an equal outcome
pub does_on : {R : Type 0} (seen : R → Device) (answer : Result Reply Fault) (out wanted : List ℕ → Transition) (old mid new : ControllerModel R)
    → mid ≡ old → ((program : List ℕ) → out program ≡ wanted program) → IsCarriedOutIfHonest seen answer out mid new
    → IsCarriedOutIfHonest seen answer wanted old new
does_on seen answer out wanted old mid new same equal does =
    subst (λ (f : List ℕ → Transition). IsCarriedOutIfHonest seen answer f old new) (λ i program. equal program i)
    (subst (λ (c : ControllerModel _). IsCarriedOutIfHonest seen answer out c new) same does)

-- ---- held

pub tick_held : (q : Geometry) (P : List ℕ) (s : SessionModel) → s.held ≡ true → tick q P s ≡ answers P reply.Held s
tick_held q P s held = rw held refl

pub does_held : {R : Type 0} (seen : R → Device) (c : ControllerModel R) → c.session.held ≡ true
    → IsCarriedOutIfHonest seen (Ok reply.Held) (λ program. tick c.geometry program c.session) c c
does_held seen c held =
    does_on seen (Ok reply.Held) (λ program. answers program reply.Held c.session)
    (λ program. tick c.geometry program c.session) c c c refl
    (λ program. sym (tick_held c.geometry program c.session held))
    (does_still seen reply.Held (λ program. answers program reply.Held c.session) c c
    (λ program. still refl refl refl refl) refl refl (λ program. refl) (λ program. refl))

-- what is known of the lines is unchanged
pub still_known : (k l : KnownModel) → l ≡ k → (program : List ℕ) → IsKnownOf program k → IsKnownOf program l
still_known k l same program known = known_as program program k l refl same known

-- ---- an item

-- the contract of `hand_out`
abbrev pub HandsIt : {R T : Type 0} → (R → Device) → Result T Fault → Item → JournalModel R → JournalModel R → Type 0
HandsIt seen result item old new =
    IfHonest (seen old.rig) (seen new.rig) ((standing : DurableState)
    → IsDurablyAt (seen old.rig).trace old standing
    → JournalHandOutSpec result new standing item (seen old.rig).trace (seen new.rig).trace)

pub hands_item : {R T : Type 0} (seen : R → Device) (v : T) (item : Item) (old new : ControllerModel R)
    → new.session ≡ old.session → HandsIt seen (Ok v) item old.journal new.journal → new.lines ≡ old.lines
    → IsCarriedOutIfHonest seen (Ok reply.Moved) (λ program. handing item program old.session) old new
hands_item seen v item old new next p lines =
    does_handed seen reply.Moved v item (λ program. handing item program old.session) old new
    (meaning p (λ f program rests. f (durable_state_of program old.session) rests.0)) lines
    (λ program. refl) (λ program. next) (λ program. record { items = refl; program_is = refl; stored_is = refl }) (λ z. z)

pub hands_none : {R T : Type 0} (seen : R → Device) (fault e : Fault) (item : Item) (old new : ControllerModel R)
    → new.session ≡ old.session → fault ≡ DeviceFailed → HandsIt {T = T} seen (Err e) item old.journal new.journal
    → IsCarriedOutIfHonest seen (Err fault) (λ program. handing item program old.session) old new
hands_none {R} {T} seen fault e item old new next lost p =
    does_unhanded {T = T} seen fault e item (λ program. handing item program old.session) old new
    (meaning p (λ f program rests. f (durable_state_of program old.session) rests.0))
    lost (ap session_status next) (λ program. record { items = refl; program_is = refl; stored_is = refl })

pub tick_item : (q : Geometry) (P : List ℕ) (s : SessionModel) (item : Item) → s.held ≡ false
    → item_of s.current ≡ Some item → tick q P s ≡ handing item P (handed s)
tick_item q P s item held is = rw (held, is) refl

pub tick_none : (q : Geometry) (P : List ℕ) (s : SessionModel) → s.held ≡ false → item_of s.current ≡ None → tick q P s ≡ open_next q P s (opening_of s.current)
tick_none q P s held is = rw (held, is) refl

-- ---- an approach or a segment

abbrev pub opening : HalfModel → List ℕ → Geometry → SessionModel → Transition
opening half P q s = answers P (opening_reply half.index half.opened) (opened q s half)

opening_touches : (n : ℕ) (o : Option Opened) → TouchesNothing (opening_reply n o) → ⊥
opening_touches n None nothing = nothing
opening_touches n (Some open_part.Segment) nothing = nothing
opening_touches n (Some open_part.Approach) nothing = nothing

-- the contract of `open_segment`
abbrev pub StoresHalf : {R T : Type 0} → (R → Device) → Result T Fault → HalfModel → JournalModel R → JournalModel R → Type 0
StoresHalf seen result half old new =
    IfHonest (seen old.rig) (seen new.rig) ((before : DurableState) → IsDurablyAt (seen old.rig).trace old before
    → CommitSpec result new before (record before { saved = record old.saved { half = Some half } }) (seen old.rig).trace (seen new.rig).trace)

storing_half : {R T : Type 0} (seen : R → Device) (result : Result T Fault) (half : HalfModel) (old : ControllerModel R) (journal : JournalModel R)
    → old.session.stored ≡ old.journal.saved → StoresHalf seen result half old.journal journal
    → Storing seen result (λ program. opening half program old.geometry old.session) old journal
storing_half seen result half old journal held p =
    meaning p (λ f program rests.
    subst (λ (x : StoredModel). CommitSpec result journal (durable_state_of program old.session)
    (record { saved = record x { half = Some half }; program = program }) (seen old.journal.rig).trace
    (seen journal.rig).trace) (sym held)
    (f (durable_state_of program old.session) rests.0))

pub opens : {R T : Type 0} (seen : R → Device) (v : T) (r : Reply) (half : HalfModel) (old new : ControllerModel R)
    → r ≡ opening_reply half.index half.opened → new.session ≡ opened old.geometry old.session half → old.session.stored ≡ old.journal.saved
    → StoresHalf seen (Ok v) half old.journal new.journal → new.lines ≡ old.lines
    → IsCarriedOutIfHonest seen (Ok r) (λ program. opening half program old.geometry old.session) old new
opens seen v r half old new replied next held p lines =
    does_moved seen r v (λ program. opening half program old.geometry old.session) old new
    (storing_half seen (Ok v) half old new.journal held p) (still_known old.lines new.lines lines) (λ program. replied)
    (λ program. next) (λ program. refl)
    (subst (λ (x : Reply). TouchesNothing x → ⊥) (sym replied) (opening_touches half.index half.opened))

pub opens_none : {R T : Type 0} (seen : R → Device) (fault e : Fault) (half : HalfModel) (old new : ControllerModel R)
    → new.session ≡ old.session → old.session.stored ≡ old.journal.saved
    → (fault ≡ CountersUsed) ⊎ (fault ≡ DeviceFailed) → (fault ≡ CountersUsed → new.journal ≡ old.journal)
    → StoresHalf {T = T} seen (Err e) half old.journal new.journal → new.lines ≡ old.lines
    → IsCarriedOutIfHonest seen (Err fault) (λ program. opening half program old.geometry old.session) old new
opens_none {R} {T} seen fault e half old new same held which unchanged p lines =
    does_unmoved {T = T} seen fault e (λ program. opening half program old.geometry old.session) old new
    (storing_half {T = T} seen (Err e) half old new.journal held p) which unchanged lines same (λ program. refl)

-- ---- an entry

-- the contract of `commit`
abbrev pub StoresEntry : {R T : Type 0} → (R → Device) → Result T Fault → StoredModel → JournalModel R → JournalModel R → Type 0
StoresEntry seen result saved old new =
    IfHonest (seen old.rig) (seen new.rig) ((before : DurableState) → IsDurablyAt (seen old.rig).trace old before
    → CommitSpec result new before (record before { saved = saved }) (seen old.rig).trace (seen new.rig).trace)

-- the current block, and what is stored after it
pub record IsDue (s : SessionModel) (saved : StoredModel) : Type 0 where
  pub block : CurrentBlockModel
  pub current : s.current ≡ Some block
  pub after : saved ≡ (committed s block).stored

storing_entry : {R T : Type 0} (seen : R → Device) (result : Result T Fault) (saved : StoredModel)
    (old : ControllerModel R) (journal : JournalModel R) (due : IsDue old.session saved)
    → StoresEntry seen result saved old.journal journal
    → Storing seen result (λ program. end old.geometry program old.session (Some due.block)) old journal
storing_entry seen result saved old journal due p =
    meaning p (λ f program rests.
    subst (λ (x : StoredModel). CommitSpec result journal (durable_state_of program old.session)
    (record { saved = x; program = program }) (seen old.journal.rig).trace (seen journal.rig).trace) due.after
    (f (durable_state_of program old.session) rests.0))

pub does_commit : {R T : Type 0} (seen : R → Device) (v : T) (r : Reply) (saved : StoredModel) (old new : ControllerModel R) (due : IsDue old.session saved)
    → r ≡ reply.Done (committed old.session due.block).stored.entries → new.session ≡ committed old.session due.block
    → StoresEntry seen (Ok v) saved old.journal new.journal → new.lines ≡ old.lines
    → IsCarriedOutIfHonest seen (Ok r) (λ program. end old.geometry program old.session old.session.current) old new
does_commit seen v r saved old new due replied next p lines =
    does_on seen (Ok r) (λ program. end old.geometry program old.session (Some due.block)) _ old old new refl
    (λ program. sym (ap (λ (o : Option CurrentBlockModel). end old.geometry program old.session o) due.current))
    (does_moved seen r v (λ program. end old.geometry program old.session (Some due.block)) old new
    (storing_entry seen (Ok v) saved old new.journal due p) (still_known old.lines new.lines lines)
    (λ program. replied) (λ program. next) (λ program. refl)
    (subst (λ (x : Reply). TouchesNothing x → ⊥) (sym replied) (λ z. z)))

pub does_not_commit : {R T : Type 0} (seen : R → Device) (fault e : Fault) (saved : StoredModel) (old new : ControllerModel R) (due : IsDue old.session saved)
    → new.session ≡ old.session → (fault ≡ CountersUsed) ⊎ (fault ≡ DeviceFailed) → (fault ≡ CountersUsed → new.journal ≡ old.journal)
    → StoresEntry {T = T} seen (Err e) saved old.journal new.journal → new.lines ≡ old.lines
    → IsCarriedOutIfHonest seen (Err fault) (λ program. end old.geometry program old.session old.session.current) old new
does_not_commit {R} {T} seen fault e saved old new due same which unchanged p lines =
    does_on seen (Err fault) (λ program. end old.geometry program old.session (Some due.block)) _ old old new refl
    (λ program. sym (ap (λ (o : Option CurrentBlockModel). end old.geometry program old.session o) due.current))
    (does_unmoved {T = T} seen fault e (λ program. end old.geometry program old.session (Some due.block)) old new
    (storing_entry {T = T} seen (Err e) saved old new.journal due p) which unchanged lines same
    (λ program. refl))

-- ---- nothing

pub rests_there : (q : Geometry) (P : List ℕ) (s : SessionModel) → s.current ≡ None → is_running s.activity ≡ false → end q P s s.current ≡ rest P s
rests_there q P s none idle = ap (λ (o : Option CurrentBlockModel). end q P s o) none ∙ rw idle refl

pub does_rest : {R : Type 0} (seen : R → Device) (r : Reply) (c : ControllerModel R) → c.session.current ≡ None → is_running c.session.activity ≡ false
    → ((program : List ℕ) → r ≡ (rest program c.session).reply)
    → IsCarriedOutIfHonest seen (Ok r) (λ program. end c.geometry program c.session c.session.current) c c
does_rest seen r c none idle replied =
    does_on seen (Ok r) (λ program. rest program c.session) _ c c c refl (λ program. sym (rests_there c.geometry program c.session none idle))
    (does_still seen r (λ program. rest program c.session) c c (λ program. still_rest program c.session) refl refl replied (λ program. refl))
