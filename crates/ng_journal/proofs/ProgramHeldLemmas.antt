-- The program in force stays the same, whatever a device stands for: no record touches a program area. After a load it
-- is the text that was loaded.
use Rattle.std.proofs.Common.{◌≡◌, ◌⊎◌, inl, inr, ⊎_elim, ℕ, ◌+◌, ◌<◌, ◌≤◌, Bool, true, false, List, length, Result}
use Rattle.std.proofs.Common.{Ok, sym, ◌∙◌, ap, subst, arith}
use Rattle.ng_canon.specs.declared.item.Item.{Item}
use Rattle.ng_rig.specs.Trace.{Trace, Handed, reads}
use Rattle.ng_rig.specs.Continuation.{IsSynced}
use Rattle.ng_rig.specs.Only.{WritesOnly}
use Rattle.ng_rig.proofs.WritesOnlyLemmas.{reads_blend}
use Rattle.ng_layout.specs.declared.header.Format.{Format}
use Rattle.ng_layout.specs.declared.header.Format.TheVariants.{One, Two}
use Rattle.ng_layout.specs.declared.header.Header.{Header}
use Rattle.ng_layout.specs.Areas.{greatest_area, program_first, program_size, log_size}
use Rattle.ng_layout.specs.Header.{longest_in}
use Rattle.ng_layout.specs.Sectors.{program_text}
use Rattle.ng_layout.specs.Stands.{stretch, program_under}
use Rattle.ng_layout.specs.Stored.{StoredModel, DurableState}
use Rattle.ng_layout.proofs.ImageLemmas.{area-where, stretch-same}
use Rattle.ng_log.specs.Records.{LogRecord, BelongsToRecord, size_of}
use Rattle.ng_journal.specs.AtRest.{next_header}
use Rattle.ng_journal.specs.Journal.{JournalModel, HoldsProgram}
use Rattle.ng_journal.specs.Loads.{StoresLoadIn}
use Rattle.ng_journal.specs.Storing.{Ledger, IsLedgerAfter, BelongsToStoring, IsStoredIn, StoresRecord, changes_to}
use Rattle.ng_journal.specs.Storing.{record_of, renewed, ledger_of}
use Rattle.ng_journal.proofs.WrittenSectorLemmas.{not_of_epoch, of_epoch}
use Rattle.ng_journal.proofs.LoadLemmas.{text_is}

-- a sector where program areas are
abbrev IsOfPrograms : ℕ → Type 0
IsOfPrograms n = ((174 ≤ n) × (n < 686)) ⊎ ((1710 ≤ n) × (n < 5806))

log_most : (format : Format) → log_size format ≤ 1024
log_most One = omega arith
log_most Two = omega arith

pub area_few : (large : Bool) (area : ℕ) → area ≤ greatest_area large → area ≤ 3
area_few true area few = few
area_few false area few = omega (arith, few)

-- a record within a log is elsewhere
not_of_record : (r : LogRecord) (n : ℕ) (bytes : List ℕ) → r.at + size_of r ≤ 1024 → IsOfPrograms n
    → BelongsToRecord r n bytes → ⊥
not_of_record r n bytes room (inl low) b = omega (arith, low.1, b.log)
not_of_record r n bytes room (inr high) b = omega (arith, high.0, b.log, b.part.to, room)

not_stored : (l : Ledger) (saved : StoredModel) (n : ℕ) (bytes : List ℕ) → changes_to l saved ≤ 5399
    → IsOfPrograms n → BelongsToStoring l saved n bytes → ⊥
not_stored l saved n bytes few here (inl b) =
    not_of_record (record_of l saved) n bytes (omega (arith, b.0, log_most l.header.format)) here b.1
not_stored l saved n bytes few here (inr b) =
    ⊎_elim (λ own. not_of_epoch (renewed l).header n here (of_epoch (renewed l).header l.saved n bytes own))
    (λ part. not_of_record (record_of (renewed l) saved) n bytes (omega (arith, few)) here part) b.1

-- the program under a header is read as before
same_program : (l : Ledger) (saved : StoredModel) (old new : Trace) → l.header.area ≤ 3 → changes_to l saved ≤ 5399
    → IsSynced old → WritesOnly (λ n bytes. BelongsToStoring l saved n bytes) old new
    → program_under l.header (reads new) ≡ program_under l.header (reads old)
same_program l saved old new most few synced w =
    ap (λ (row : ℕ → List ℕ). program_text l.header.length row)
    (stretch-same (program_first area) (program_size area) (reads new) (reads old) (λ j lt. one j lt))
  where
    area : ℕ
    area = l.header.area

    one : (j : ℕ) → j < program_size area → reads new (program_first area + j) ≡ reads old (program_first area + j)
    one j lt =
        let n = program_first area + j in
        ⊎_elim (λ was. synced.one n (reads new n) was)
        (λ own. absurd (not_stored l saved n (reads new n) few (area-where area j most lt) own))
        ((reads_blend (λ m bytes. BelongsToStoring l saved m bytes) old new w).each n)

-- the header after a record names the same program
same_header : (l : Ledger) (saved : StoredModel) (after : Ledger) (image : ℕ → List ℕ) → IsStoredIn l saved image
    → IsLedgerAfter l saved after → program_under after.header image ≡ program_under l.header image
same_header l saved after image (inl there) moves =
    ap (λ (x : Ledger). program_under x.header image) (moves.room there.0)
same_header l saved after image (inr there) moves =
    ap (λ (x : Ledger). program_under x.header image) (moves.full there.0)

-- A record is stored.
pub holds_record : {R T E : Type 0} (v : T) (was journal : JournalModel R) (saved : StoredModel) (program : List ℕ)
    (old new : Trace) → was.header.area ≤ 3 → changes_to (ledger_of was) saved ≤ 5399
    → (let ok : Result T E = Ok v in StoresRecord ok (ledger_of was) saved old new)
    → IsLedgerAfter (ledger_of was) saved (ledger_of journal) → HoldsProgram old was program
    → HoldsProgram new journal program
holds_record v was journal saved program old new most few stores moves holds = record {
  synced = stores.synced;
  program_is = same_header (ledger_of was) saved (ledger_of journal) (reads new) stores.laid moves
      ∙ same_program (ledger_of was) saved old new most few holds.synced stores.writes ∙ holds.program_is;
}

-- A program is loaded.
pub holds_load : {R T E : Type 0} (v : T) (area : ℕ) (header : Header) (journal : JournalModel R)
    (loaded : DurableState) (old new : Trace) → loaded.saved.length ≡ length loaded.program
    → length loaded.program ≤ longest_in area
    → (let ok : Result T E = Ok v in StoresLoadIn ok area header loaded old new)
    → journal.header ≡ next_header header area loaded.saved.length → HoldsProgram new journal loaded.program
holds_load v area header journal loaded old new long short stores is = record {
  synced = stores.synced;
  program_is = ap (λ (h : Header). program_under h (reads new)) is
      ∙ (ap (λ (n : ℕ). program_text n (stretch (program_first area) (program_size area) (reads new))) long
      ∙ text_is area loaded.program (reads new) short stores.text);
}

-- Nothing is written, and what the journal keeps is the same.
pub holds_same : {R : Type 0} (was journal : JournalModel R) (program : List ℕ) (old new : Trace) → new ≡ old
    → ledger_of journal ≡ ledger_of was → HoldsProgram old was program → HoldsProgram new journal program
holds_same was journal program old new same ledger holds = record {
  synced = subst IsSynced (sym same) holds.synced;
  program_is = (λ i. program_under (ledger i).header (reads (same i))) ∙ holds.program_is;
}

-- An item is handed out.
pub holds_handed : {R : Type 0} (item : Item) (was journal : JournalModel R) (program : List ℕ) (old new : Trace)
    → new ≡ Handed item old → ledger_of journal ≡ ledger_of was → HoldsProgram old was program
    → HoldsProgram new journal program
holds_handed item was journal program old new same ledger holds =
    let read : reads (Handed item old) ≡ reads old = λ i n. reads old n in
    record {
      synced = subst IsSynced (sym same) (record { one = λ n c may. holds.synced.one n c may });
      program_is = (λ i. program_under (ledger i).header (reads (same i)))
          ∙ (ap (λ (image : ℕ → List ℕ). program_under was.header image) read ∙ holds.program_is);
    }
