-- An entry that is stored as a report.
use Rattle.std.proofs.Common.{◌≡◌, ◌⊎◌, ℕ, ℤ, ◌+◌, ◌<◌, nat_lt, arith, Bool, true, false, not, ◌&&◌, if◌then◌else◌}
use Rattle.std.proofs.Common.{Option, None, Some, Result, Ok, Err, refl, sym, ap, subst, ◌∙◌}
use Rattle.std.proofs.lemmas.Bool.Decides.{nat_tests}
use Rattle.std.specs.Option.{is_none}
use Rattle.ng_num.specs.declared.fault.Fault.TheVariants as fault
use Rattle.ng_num.specs.declared.fault.Fault.{Fault}
use Rattle.ng_num.specs.declared.fault.Fault.TheVariants.{DeviceFailed, CountersUsed}
use Rattle.ng_num.specs.declared.point.Point.{Point}
use Rattle.ng_rig.specs.Rig.{Device}
use Rattle.ng_rig.proofs.GuaranteeLemmas.{meaning}
use Rattle.ng_layout.specs.Limits.{greatest_count}
use Rattle.ng_layout.specs.Stored.{HalfModel, StoredModel}
use Rattle.ng_journal.specs.Journal.{JournalModel, CommitSpec}
use Rattle.ng_session.specs.Entries.{Entry, referenced, after_reference, abandoned, after_abandon, after_tool}
use Rattle.ng_session.specs.Session.{SessionModel, commits, is_running, is_at_rest, accepts_load}
use Rattle.ng_session.specs.Operator.{abandon_refusal}
use Rattle.ng_session.specs.declared.reply.Reply.{Reply}
use Rattle.ng_session.specs.declared.reply.Reply.TheVariants as reply
use Rattle.ng_core.specs.Model.{ControllerModel, durable_state_of}
use Rattle.ng_core.specs.Events.{IsCarriedOutIfHonest, TouchesNothing}
use Rattle.ng_core.proofs.HonestEventLemmas.{does_moved, does_unmoved, Storing}
use Rattle.ng_core.proofs.TickLemmas.{StoresEntry, still_known}

storing : {R T : Type 0} (seen : R → Device) (result : Result T Fault) (saved : StoredModel) (entry : Entry)
    (next : SessionModel) (old : ControllerModel R) (journal : JournalModel R) → saved ≡ next.stored
    → StoresEntry seen result saved old.journal journal → Storing seen result (λ program. commits program entry next) old journal
storing seen result saved entry next old journal is p =
    meaning p (λ f program rests.
    subst (λ (x : StoredModel). CommitSpec result journal (durable_state_of program old.session)
    (record { saved = x; program = program }) (seen old.journal.rig).trace (seen journal.rig).trace) is
    (f (durable_state_of program old.session) rests.0))

pub keeps : {R T : Type 0} (seen : R → Device) (v : T) (r : Reply) (saved : StoredModel) (entry : Entry) (next : SessionModel) (old new : ControllerModel R)
    → saved ≡ next.stored → r ≡ reply.Done next.stored.entries → new.session ≡ next
    → StoresEntry seen (Ok v) saved old.journal new.journal → new.lines ≡ old.lines
    → IsCarriedOutIfHonest seen (Ok r) (λ program. commits program entry next) old new
keeps seen v r saved entry next old new is replied there p lines =
    does_moved seen r v (λ program. commits program entry next) old new
    (storing seen (Ok v) saved entry next old new.journal is p) (still_known old.lines new.lines lines)
    (λ program. replied) (λ program. there) (λ program. refl)
    (subst (λ (x : Reply). TouchesNothing x → ⊥) (sym replied) (λ z. z))

pub keeps_none : {R T : Type 0} (seen : R → Device) (fault : Fault) (saved : StoredModel) (entry : Entry) (next : SessionModel) (old new : ControllerModel R)
    → saved ≡ next.stored → new.session ≡ old.session → (fault ≡ CountersUsed) ⊎ (fault ≡ DeviceFailed) → (fault ≡ CountersUsed → new.journal ≡ old.journal)
    → StoresEntry {T = T} seen (Err fault) saved old.journal new.journal → new.lines ≡ old.lines
    → IsCarriedOutIfHonest seen (Err fault) (λ program. commits program entry next) old new
keeps_none {R} {T} seen fault saved entry next old new is same which unchanged p lines =
    does_unmoved {T = T} seen fault fault (λ program. commits program entry next) old new
    (storing {T = T} seen (Err fault) saved entry next old new.journal is p) which unchanged lines same
    (λ program. refl)

-- ---- a half-done block may be given up

none_of : {T : Type 0} (o : Option T) → is_none o ≡ true → o ≡ None
none_of None h = refl
none_of (Some x) h = cc

first_of : (a b d : Bool) → a && b && d ≡ true → a ≡ true
first_of true b d h = refl
first_of false b d h = cc

rests_of : (b d : Bool) → (if not b then Some fault.Busy else if d then Some fault.NothingHalfDone else None) ≡ None → b ≡ true
rests_of true d h = refl
rests_of false d h = cc

half_of : (b d : Bool) → (if not b then Some fault.Busy else if d then Some fault.NothingHalfDone else None) ≡ None → d ≡ false
half_of true true h = cc
half_of true false h = refl
half_of false d h = cc

pub no_block : (s : SessionModel) → abandon_refusal s ≡ None → s.current ≡ None
no_block s free = none_of s.current (first_of (is_none s.current) (not (is_running s.activity)) (not s.held)
    (rests_of (is_at_rest s) (is_none s.stored.half) free))

pub has_half : (s : SessionModel) → abandon_refusal s ≡ None → s.stored.half ≡ None → ⊥
has_half s free none = let e : true ≡ false = sym (ap is_none none) ∙ half_of (is_at_rest s) (is_none s.stored.half) free in cc

-- ---- a tool's length may be put into a slot

rest_of : (b d : Bool) → b && d ≡ true → b ≡ true
rest_of true d h = refl
rest_of false d h = cc

pub no_block_at_rest : (s : SessionModel) → accepts_load s ≡ true → s.current ≡ None
no_block_at_rest s free =
    none_of s.current (first_of (is_none s.current) (not (is_running s.activity)) (not s.held)
    (rest_of (is_at_rest s) (is_none s.stored.half) free))

pub counts_on : (n : ℕ) → not (nat_lt n greatest_count) ≡ false → n < greatest_count
counts_on n below = grind (arith, nat_tests)

-- ---- the greatest count

pub past_count : (n m : ℕ) → true ≡ not (nat_lt n greatest_count) → m ≡ n + 1 → greatest_count < m
past_count n m used is = grind (arith, nat_tests)

entries_referenced : (x : StoredModel) (point : Point) (half : Option HalfModel) → (referenced x point half).entries ≡ x.entries + 1
entries_referenced x point None = refl
entries_referenced x point (Some half) = refl

pub past_referenced : (x : StoredModel) (point : Point) → true ≡ not (nat_lt x.entries greatest_count) → greatest_count < (after_reference x point).entries
past_referenced x point used = past_count x.entries (after_reference x point).entries used (entries_referenced x point x.half)

entries_abandoned : (x : StoredModel) (half : Option HalfModel) → (half ≡ None → ⊥) → (abandoned x half).entries ≡ x.entries + 1
entries_abandoned x None some = absurd (some refl)
entries_abandoned x (Some half) some = refl

pub past_abandoned : (x : StoredModel) → (x.half ≡ None → ⊥) → true ≡ not (nat_lt x.entries greatest_count) → greatest_count < (after_abandon x).entries
past_abandoned x some used = past_count x.entries (after_abandon x).entries used (entries_abandoned x x.half some)

pub past_tooled : (x : StoredModel) (slot : ℕ) (nm : ℤ) → true ≡ not (nat_lt x.entries greatest_count) → greatest_count < (after_tool x slot nm).entries
past_tooled x slot nm used = past_count x.entries (after_tool x slot nm).entries used refl
