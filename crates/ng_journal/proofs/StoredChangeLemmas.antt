-- Storing moves a journal at rest from the old state to the new one.
use Rattle.std.proofs.Common.{◌≡◌, ◌≤◌, ◌∙◌, ℕ, inl, inr, ⊎_elim, Result, Ok, Err, length, sym, ap, subst, arith}
use Rattle.ng_rig.specs.Trace.{Trace, reads, items}
use Rattle.ng_rig.specs.Continuation.{IsContinuation}
use Rattle.ng_rig.proofs.ContinuationLemmas.{weaker}
use Rattle.ng_layout.specs.declared.header.Header.{Header}
use Rattle.ng_layout.specs.Limits.{greatest_count}
use Rattle.ng_layout.specs.Stands.{stands}
use Rattle.ng_layout.specs.Stored.{HalfModel, StoredModel, DurableState}
use Rattle.ng_log.specs.declared.log_end.LogEnd.{LogEnd}
use Rattle.ng_log.specs.AtEnd.{no_records, IsAtEnd}
use Rattle.ng_log.proofs.LogEndLemmas.{ends-stand}
use Rattle.ng_journal.specs.declared.storing.Tip.{Tip}
use Rattle.ng_journal.specs.AtRest.{IsEither, next_header}
use Rattle.ng_journal.specs.Private.LoadSteps.{LoadSpec}
use Rattle.ng_journal.specs.Loads.{StoresLoadIn}
use Rattle.ng_journal.specs.Journal.{JournalModel, CommitSpec}
use Rattle.ng_journal.specs.Private.Records.{tip_of, StoreRecordSpec, StoresNext, IsTipAfter}
use Rattle.ng_params.specs.Differences.{differences}
use Rattle.ng_params.proofs.DifferenceLemmas.{differences-none}
use Rattle.ng_num.specs.declared.fault.Fault.{Fault}
use Rattle.ng_journal.specs.Storing.{Commit, Open, UsesUp, IsFullFor, FailsToStore}
use Rattle.ng_journal.specs.Storing.{Ledger, IsLedgerAfter, StoresRecord, StoresEntry, changes_to, ledger_of}
use Rattle.ng_journal.proofs.ProgramHeldLemmas.{holds_record}

moved : {R T E F : Type 0} (v : T) (tip : Tip) (journal : JournalModel R) (before : DurableState)
    (saved : StoredModel) (old new : Trace) → tip ≡ tip_of (ledger_of journal) → journal.saved ≡ saved
    → StoreRecordSpec {E = F} (Ok tip) before saved old new
    → CommitSpec {E = E} (Ok v) journal before (record before { saved = saved }) old new
moved v tip journal before saved old new is saved_is s = record {
  stops = s.stops;
  items_are = s.items_are;
  at = record { at = subst (λ (t : Tip). IsAtEnd new t.header (record before { saved = saved }) t.end) is s.at; saved_is = sym saved_is };
}

-- or fails to
not_moved : {R T E F : Type 0} (e : E) (result : Result Tip F) (journal : JournalModel R)
    (before : DurableState) (saved : StoredModel) (old new : Trace) → StoreRecordSpec result before saved old new
    → CommitSpec {T = T} (Err e) journal before (record before { saved = saved }) old new
not_moved e result journal before saved old new s = record { stops = s.stops; items_are = s.items_are; at = tt }

-- what is written, for the result of another call
stored_as : {T U E F : Type 0} (t : T) (u : U) (l : Ledger) (saved : StoredModel) (old new : Trace)
    → StoresRecord {E = F} (Ok u) l saved old new → StoresRecord {E = E} (Ok t) l saved old new
stored_as t u l saved old new s = record { writes = s.writes; laid = s.laid; synced = s.synced }

not_stored_as : {T U E F : Type 0} (e : E) (result : Result U F) (l : Ledger) (saved : StoredModel)
    (old new : Trace) → StoresRecord result l saved old new → StoresRecord {T = T} (Err e) l saved old new
not_stored_as e result l saved old new s = record { writes = s.writes; laid = tt; synced = tt }

-- the journal took a state and a tip over
pub record HasTaken {R : Type 0} (journal : JournalModel R) (saved : StoredModel) (tip : Tip) : Type 0 where
  pub tip_is : tip ≡ tip_of (ledger_of journal)
  pub saved_is : journal.saved ≡ saved

ledger_moved : {R : Type 0} (was journal : JournalModel R) (saved : StoredModel) (tip : Tip) → HasTaken journal saved tip
    → IsTipAfter (ledger_of was) saved tip → IsLedgerAfter (ledger_of was) saved (ledger_of journal)
ledger_moved was journal saved tip taken after = subst (IsLedgerAfter (ledger_of was) saved)
    (λ i. record { header = (taken.tip_is i).header; end = (taken.tip_is i).end; saved = sym taken.saved_is i }) after.ledger_is

-- what storing an entry leaves
pub entry_stored : {R T E F : Type 0} (v : T) (was journal : JournalModel R) (saved : StoredModel) (tip : Tip) (old new : Trace)
    → was.header.area ≤ 3 → changes_to (ledger_of was) saved ≤ 5399 → HasTaken journal saved tip
    → IsTipAfter (ledger_of was) saved tip → StoresNext {E = F} (Ok tip) (ledger_of was) saved old new
    → StoresEntry {E = E} (Ok v) saved was journal old new
entry_stored v was journal saved tip old new most few taken after s = record {
  stops = λ standing rest. moved v tip journal standing saved old new taken.tip_is taken.saved_is (s.stops standing rest.at rest.saved_is);
  writes = stored_as v tip (ledger_of was) saved old new s.writes;
  holds = λ program held. holds_record tip was journal saved program old new most few s.writes (ledger_moved was journal saved tip taken after) held;
}

-- or failing to
pub entry_not_stored : {R T E F : Type 0} (e : E) (result : Result Tip F) (was journal : JournalModel R) (saved : StoredModel)
    (old new : Trace) → StoresNext result (ledger_of was) saved old new → StoresEntry {T = T} (Err e) saved was journal old new
entry_not_stored e result was journal saved old new s = record {
  stops = λ standing rest. not_moved e result journal standing saved old new (s.stops standing rest.at rest.saved_is);
  writes = not_stored_as e result (ledger_of was) saved old new s.writes;
  holds = λ program held. tt;
}

-- Opening something uses up a counter as an entry does that changes neither the count nor a parameter.
pub opens_as : {R T : Type 0} (result : Result T Fault) (half : HalfModel) (saved : StoredModel) (was journal : JournalModel R)
    → was.saved.entries ≤ greatest_count → saved.entries ≡ was.saved.entries → saved.setup.params ≡ was.saved.setup.params
    → FailsToStore result (Commit saved) was journal → FailsToStore result (Open half) was journal
unfolding UsesUp
opens_as result half saved was journal few count same fails =
    let none : changes_to (ledger_of was) saved ≡ 0 =
    ap length (ap (differences was.saved.setup.params) same ∙ differences-none was.saved.setup.params) in
    record {
      causes = fails.causes;
      used_up = (
        λ used. ⊎_elim (λ past. absurd (omega (arith, past, count, few)))
            (λ full. (full.0, subst (IsFullFor was.header was.end) none full.1)) (fails.used_up.0 used),
        λ full. fails.used_up.1 (inr (full.0, subst (IsFullFor was.header was.end) (sym none) full.1)),
      );
      unchanged = fails.unchanged;
    }

-- A load that succeeds moves it too.
as_moved : (old new : Trace) (header : Header) (end : LogEnd) (before loaded : DurableState)
    → IsAtEnd old header before end → IsContinuation old new (IsEither (stands (reads old)) (Ok loaded) (items old))
    → IsContinuation old new (IsEither (Ok before) (Ok loaded) (items old))
as_moved old new header end before loaded at stops =
    weaker old new (IsEither (stands (reads old)) (Ok loaded) (items old))
    (IsEither (Ok before) (Ok loaded) (items old)) stops (λ image handed p. record {
      state = ⊎_elim (λ b. inl (b ∙ ends-stand (reads old) header before end at.image)) (λ a. inr a) p.state;
      modern = p.modern;
      written = p.written;
      handed_is = p.handed_is;
    })

pub loaded : {R T U E F : Type 0} (v : T) (u : U) (journal : JournalModel R) (area : ℕ) (header next : Header)
    (end : LogEnd) (before after : DurableState) (old new : Trace)
    → tip_of (ledger_of journal) ≡ record { header = next; end = no_records }
    → next ≡ next_header header area after.saved.length → journal.saved ≡ after.saved
    → IsAtEnd old header before end → LoadSpec {E = F} (Ok u) area header after old new → CommitSpec {E = E} (Ok v) journal before after old new
loaded v u journal area header next end before after old new tip_is next_is saved_is at l = record {
  stops = as_moved old new header end before after at l.stops;
  items_are = l.items_are;
  at = record {
    at = subst (λ (t : Tip). IsAtEnd new t.header after t.end) (sym tip_is) (subst (λ (h : Header). IsAtEnd new h after no_records) (sym next_is) l.at);
    saved_is = sym saved_is;
  };
}

pub not_loaded : {R T U E F : Type 0} (e : E) (result : Result U F) (journal : JournalModel R) (area : ℕ)
    (header : Header) (end : LogEnd) (before after : DurableState) (old new : Trace) → IsAtEnd old header before end
    → LoadSpec result area header after old new → CommitSpec {T = T} (Err e) journal before after old new
not_loaded e result journal area header end before after old new at l =
    record { stops = as_moved old new header end before after at l.stops; items_are = l.items_are; at = tt }

-- what a load writes, if its area is this one
pub loaded_as : {T U E F : Type 0} {v : T} {u : U} (area is : ℕ) (header : Header) (after : DurableState)
    (old new : Trace) → area ≡ is → StoresLoadIn {E = F} (Ok u) area header after old new
    → StoresLoadIn {E = E} (Ok v) is header after old new
loaded_as {E = E} {v = v} area is header after old new same s =
    subst (λ (n : ℕ). StoresLoadIn {E = E} (Ok v) n header after old new) same
    (record { writes = s.writes; text = s.text; laid = s.laid; synced = s.synced })

pub not_loaded_as : {T U E F : Type 0} (area is : ℕ) (e : E) (result : Result U F) (header : Header)
    (after : DurableState) (old new : Trace) → area ≡ is → StoresLoadIn result area header after old new
    → StoresLoadIn {T = T} (Err e) is header after old new
not_loaded_as {T = T} area is e result header after old new same s =
    subst (λ (n : ℕ). StoresLoadIn {T = T} (Err e) n header after old new) same
    (record { writes = s.writes; text = tt; laid = tt; synced = tt })
