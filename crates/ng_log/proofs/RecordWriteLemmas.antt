-- A record's parts written one after the other, and a sync.
use Rattle.std.proofs.Common.{◌≡◌, ◌≢◌, inl, inr, ⊎_elim, ℕ, ◌+◌, ◌-◌, ◌*◌, ◌<◌, ◌≤◌, List, length, take, drop, ℤ}
use Rattle.std.proofs.Common.{Option, Result, Ok, Err, sym, ◌∙◌, ap, subst, arith}
use Rattle.std.proofs.lemmas.List.{drop-drop}
use Rattle.std.specs.Prelude.{IfSome}
use Rattle.std.proofs.lemmas.Bool.{cases_lt}
use Rattle.std.proofs.lemmas.Bool.Decides.{nat_tests}
use Rattle.ng_canon.specs.declared.item.Item.{Item}
use Rattle.ng_params.specs.Change.{with_changes}
use Rattle.ng_offsets.specs.Tools.{with_change}
use Rattle.ng_offsets.specs.declared.tools.SlotChange.{SlotChange}
use Rattle.ng_layout.specs.Storable.{IsStorableChange}
use Rattle.ng_layout.specs.declared.header.Format.TheVariants.{Two}
use Rattle.ng_params.specs.declared.change.Change.{Change}
use Rattle.ng_rig.specs.Trace.{Image, Trace, Wrote, Synced, reads, items}
use Rattle.ng_rig.specs.Calls.{WriteSpec}
use Rattle.ng_rig.specs.Only.{IsMixOf, WritesOnly}
use Rattle.ng_rig.proofs.ContinuationLemmas.{weaker, is_synced}
use Rattle.ng_rig.proofs.WritesOnlyLemmas.{only_none, only_write, only_more, only_sync, only_synced, reads_blend}
use Rattle.ng_layout.specs.declared.header.Header.{Header}
use Rattle.ng_layout.specs.Areas.{log_size_of, log_first}
use Rattle.ng_layout.specs.Log.{PartHeader, parts_for}
use Rattle.ng_layout.specs.Part.{piece, HoldsLabel, HoldsState, HoldsChanges, HoldsRecordPart}
use Rattle.ng_layout.specs.Stored.{StoredModel, DurableState}
use Rattle.ng_log.specs.declared.log_end.LogEnd.{LogEnd}
use Rattle.ng_log.specs.Writing.{WritesRecord, AppendSpec}
use Rattle.ng_log.specs.Private.WriteSteps.{WritesParts}
use Rattle.ng_log.specs.AtEnd.{end_after, EndsIn, IsAtEnd, IsEither}
use Rattle.ng_params.specs.Differences.{differences}
use Rattle.ng_log.specs.Records.{LogRecord, size_of, label, IsPartOf, BelongsToRecord, record_at}
use Rattle.ng_params.proofs.DifferenceLemmas.{differences-restore}
use Rattle.ng_log.proofs.RecordRunLemmas.{part_label}
use Rattle.ng_log.proofs.TableLengthLemmas.{ends-whole}
use Rattle.ng_log.proofs.LogEndLemmas.{IsBlend, IsNext, blend-force, blend-stands, blend-written, blend-ends}

-- the part that belongs to a sector
pub is_part_of : (e : LogRecord) (k : ℕ) (bytes : List ℕ) → k < size_of e
    → HoldsRecordPart (label e k) e.saved e.changes e.slot bytes → IsPartOf e (e.at + k) bytes
is_part_of e k bytes lt holds =
    let back : k ≡ e.at + k - e.at = omega arith in
    record { from = omega arith; to = omega arith; holds = subst (λ (n : ℕ). HoldsRecordPart (label e n) e.saved e.changes e.slot bytes) back holds }

pub first_of : (e : LogRecord) (l : PartHeader) (bytes : List ℕ) → l ≡ label e 0 → HoldsLabel l bytes
    → HoldsState e.saved e.slot bytes → IsPartOf e (e.at + 0) bytes
first_of e l bytes is labelled state = is_part_of e 0 bytes (omega arith) (record {
  label = subst (λ (x : PartHeader). HoldsLabel x bytes) is labelled;
  state = λ zero_is. state;
  changes = λ i later. absurd (omega arith);
})

pub later_of : (e : LogRecord) (l : PartHeader) (k : ℕ) (made : List Change) (bytes : List ℕ) → l ≡ label e k
    → 1 ≤ k → k < size_of e → HoldsLabel l bytes → piece (k - 1) e.changes ≡ made → HoldsChanges made bytes
    → IsPartOf e (e.at + k) bytes
later_of e l k made bytes is low lt labelled pieces there = is_part_of e k bytes lt (record {
  label = subst (λ (x : PartHeader). HoldsLabel x bytes) is labelled;
  state = λ zero_is. absurd (omega arith);
  changes = λ j same.
      let back : k - 1 ≡ j = omega arith in
      subst (λ (n : ℕ). HoldsChanges (piece n e.changes) bytes) back (subst (λ (l : List Change). HoldsChanges l bytes) (sym pieces) there);
})

-- the label that is written is the part's
pub labelled_as : (e : LogRecord) (part parts count n : ℕ) → part ≡ n → parts ≡ parts_for count
    → count ≡ length e.changes → part_label e.epoch e.number part parts count ≡ label e n
labelled_as e part parts count n part_is parts_are count_is =
    let all : parts ≡ size_of e = parts_are ∙ ap parts_for count_is in
    λ i. record { epoch = e.epoch; number = e.number; part = part_is i; parts = all i; changes = count_is i }

-- the record of the differences from what stands is the next one
pub next_from : (image : Image) (header : Header) (before : DurableState) (end : LogEnd) (slot : Option SlotChange)
    (saved : StoredModel) (changes : List Change) → header.format ≡ Two → IfSome slot (IsStorableChange before.saved.tools)
    → with_change slot before.saved.tools ≡ saved.tools → EndsIn image header before end
    → changes ≡ differences before.saved.setup.params saved.setup.params → length saved.setup.params ≡ 5399
    → end.sector + parts_for (length changes) ≤ log_size_of header → saved.length ≡ header.length
    → before.saved.program_limit ≡ saved.program_limit → IsNext image header before end saved changes slot
next_from image header before end slot saved changes two valid slot_is was changes_are whole room long same_limit = record {
  was = was;
  two = two;
  valid = valid;
  slot_is = slot_is;
  room = room;
  long = long;
  same_limit = same_limit;
  restored = ap (with_changes before.saved.setup.params) changes_are
      ∙ differences-restore before.saved.setup.params saved.setup.params (ends-whole image header before end was) whole;
}

-- a piece comes after those that are written
pub piece_of : (k : ℕ) (changes left made : List Change) → left ≡ drop (48 * k) changes → made ≡ take 48 left → piece k changes ≡ made
piece_of k changes left made is made_is = ap (take 48) (sym is) ∙ sym made_is

pub rest_of : (k : ℕ) (changes left rest : List Change) → left ≡ drop (48 * k) changes → rest ≡ drop 48 left
    → rest ≡ drop (48 * (k + 1)) changes
rest_of k changes left rest is rest_is =
    let e : 48 * k + 48 ≡ 48 * (k + 1) = omega arith in
    rest_is ∙ ap (drop 48) is ∙ drop-drop 48 (48 * k) changes ∙ ap (λ (n : ℕ). drop n changes) e

read_same : (trace : Trace) (m : ℕ) (bytes : List ℕ) → reads (Wrote m bytes trace) m ≡ bytes
read_same trace m bytes = grind (arith, nat_tests)

read_other : (trace : Trace) (m n : ℕ) (bytes : List ℕ) → n ≢ m → reads (Wrote m bytes trace) n ≡ reads trace n
read_other trace m n bytes e = grind (arith, nat_tests)

belongs : (e : LogRecord) (m : ℕ) (bytes : List ℕ) → IsPartOf e m bytes → BelongsToRecord e (log_first + m) bytes
belongs e m bytes p = let back : m ≡ log_first + m - log_first =
    omega arith in record { log = omega arith; part = subst (λ (k : ℕ). IsPartOf e k bytes) back p }

-- Only parts of the record are written, each to its sector, and the first n of them are there.
pub record RecordTo (n : ℕ) (e : LogRecord) (old new : Trace) : Type 0 where
  pub writes : WritesOnly (BelongsToRecord e) old new
  pub parts : (j : ℕ) → j < n → IsPartOf e (e.at + j) (reads new (log_first + (e.at + j)))

pub record_none : (e : LogRecord) (trace : Trace) → RecordTo 0 e trace trace
record_none e trace = record { writes = only_none (BelongsToRecord e) trace; parts = λ j lt. absurd (omega arith) }

-- one more part
pub record_more : (k : ℕ) (e : LogRecord) (old mid new : Trace) (n : ℕ) (bytes : List ℕ)
    → n ≡ log_first + (e.at + k) → IsPartOf e (e.at + k) bytes → RecordTo k e old mid → new ≡ Wrote n bytes mid
    → RecordTo (k + 1) e old new
record_more k e old mid new n bytes place right p is = record {
  writes = only_more (BelongsToRecord e) old mid new p.writes
      (let ok : Result ℕ ℕ = Ok 0 in only_write (BelongsToRecord e) ok n bytes mid new
      (subst (λ (x : ℕ). BelongsToRecord e x bytes) (sym place) (belongs e (e.at + k) bytes right)) is);
  parts = λ j below. subst (λ (l : Trace). IsPartOf e (e.at + j) (reads l (log_first + (e.at + j)))) (sym is) (elim (cases_lt j k) [
    | inl before ↦ subst (IsPartOf e (e.at + j)) (sym (read_other mid n (log_first + (e.at + j)) bytes (λ same. omega (arith, place)))) (p.parts j before)
    | inr here ↦
        let same : k ≡ j = omega arith in
        subst (λ (i : ℕ). IsPartOf e (e.at + i) (reads (Wrote n bytes mid) (log_first + (e.at + i)))) same
        (subst (IsPartOf e (e.at + k))
        (sym (ap (reads (Wrote n bytes mid)) (sym place) ∙ read_same mid n bytes)) right)
  ]);
}

-- or a write that failed
pub record_failed : {T E F : Type 0} (f : F) (result : Result T E) (k : ℕ) (e : LogRecord) (old mid new : Trace)
    (n : ℕ) (bytes : List ℕ) → n ≡ log_first + (e.at + k) → IsPartOf e (e.at + k) bytes → RecordTo k e old mid
    → WriteSpec result n bytes mid new → WritesParts {T = T} (Err f) e old new
record_failed f result k e old mid new n bytes place right p w = record {
  writes = only_more (BelongsToRecord e) old mid new p.writes
      (only_write (BelongsToRecord e) result n bytes mid new
      (subst (λ (x : ℕ). BelongsToRecord e x bytes) (sym place) (belongs e (e.at + k) bytes right)) w);
  parts = tt;
}

pub record_done : {T E : Type 0} (v : T) (k : ℕ) (e : LogRecord) (old new : Trace) → k ≡ size_of e → RecordTo k e old new → WritesParts {E = E} (Ok v) e old new
record_done v k e old new is p = record { writes = p.writes; parts = λ j lt. p.parts j (omega (arith, is)) }

-- and the sync, or the failure before it
pub record_cut : {T U E F : Type 0} (f : F) (result : Result T E) (e : LogRecord) (old new : Trace)
    → WritesParts result e old new → WritesRecord {T = U} (Err f) e old new
record_cut f result e old new w = record { writes = w.writes; parts = tt; synced = tt }

pub record_unsynced : {T U E F : Type 0} (f : F) (result : Result T E) (e : LogRecord) (old mid new : Trace)
    → WritesParts result e old mid → new ≡ mid → WritesRecord {T = U} (Err f) e old new
record_unsynced f result e old mid new w is =
    record {
      writes = subst (λ (l : Trace). WritesOnly (BelongsToRecord e) old l) (sym is) w.writes;
      parts = tt;
      synced = tt;
    }

pub record_synced : {T U E F : Type 0} (v : T) (u : U) (e : LogRecord) (old mid new : Trace)
    → WritesParts {E = E} (Ok v) e old mid → new ≡ Synced mid → WritesRecord {E = F} (Ok u) e old new
record_synced {F = F} v u e old mid new w is = subst (λ (l : Trace). WritesRecord {E = F} (Ok u) e old l) (sym is)
    (record { writes = only_synced (BelongsToRecord e) old mid w.writes; parts = w.parts; synced = is_synced mid })

-- The stops of all these calls.
module _ (old : Trace) (header : Header) (before : DurableState) (end : LogEnd) (saved : StoredModel)
    (changes : List Change) (slot : Option SlotChange) (at : IsAtEnd old header before end)
    (next : IsNext (reads old) header before end saved changes slot) where
  abbrev e : LogRecord
  e = record_at header.epoch end saved changes slot

  blend : (image : Image) (handed : List Item) → IsMixOf old (BelongsToRecord e) image handed → IsBlend (reads old) image e
  blend image handed b = record { each = λ n. ⊎_elim (λ may. inl (at.synced.one n (image n) may)) (λ there. inr there) (b.each n) }

  either : (image : Image) (handed : List Item) → IsMixOf old (BelongsToRecord e) image handed
      → IsEither (Ok before) (Ok (record before { saved = saved })) (items old) image handed
  either image handed b = record {
    state = blend-stands (reads old) image header before end saved changes slot next (blend image handed b);
    modern = record {
      header = header;
      force = blend-force (reads old) image header before end saved changes slot
          next (blend image handed b);
      format = next.two;
    };
    written = blend-written (reads old) image header before end saved changes slot next (blend image handed b);
    handed_is = b.handed_is;
  }

  pub exit_parts : {T F : Type 0} {E : Type 0} (f : E) (result : Result T F) (mid : Trace)
      → WritesParts result e old mid → AppendSpec (Err f) header before saved old mid
  exit_parts f result mid w = record {
    stops = weaker old mid (IsMixOf old (BelongsToRecord e)) (IsEither (Ok before) (Ok (record before { saved = saved })) (items old)) w.writes.stops either;
    items_are = w.writes.items_are;
    at = tt;
  }

  pub exit_sync : {T F : Type 0} {E : Type 0} (f : E) (result : Result T F) (mid new : Trace)
      → WritesParts result e old mid → new ≡ mid → AppendSpec (Err f) header before saved old new
  exit_sync f result mid new w is = subst (λ (l : Trace). AppendSpec (Err f) header before saved old l) (sym is) (exit_parts f result mid w)

  on_disk : {T F : Type 0} {E : Type 0} (v : T) (mid : Trace) → WritesParts {E = F} (Ok v) e old mid
      → AppendSpec {E = E} (Ok (end_after end (length changes))) header before saved old (Synced mid)
  on_disk v mid w = record {
    stops = weaker old (Synced mid) (IsMixOf old (BelongsToRecord e))
        (IsEither (Ok before) (Ok (record before { saved = saved })) (items old))
        (only_sync (BelongsToRecord e) old mid w.writes) either;
    items_are = w.writes.items_are;
    at = record {
      synced = is_synced mid;
      image = blend-ends (reads old) (reads mid) header before end saved changes slot next
          (blend (reads mid) (items mid) (reads_blend (BelongsToRecord e) old mid w.writes)) w.parts;
    };
  }

  pub finished : {T F : Type 0} {E : Type 0} (v : T) (after : LogEnd) (mid new : Trace)
      → after ≡ end_after end (length changes) → WritesParts {E = F} (Ok v) e old mid → new ≡ Synced mid
      → AppendSpec {E = E} (Ok after) header before saved old new
  finished {F = F} {E = E} v after mid new after_is w is =
      subst (λ (l : Trace). AppendSpec {E = E} (Ok after) header before saved old l) (sym is)
      (subst (λ (x : LogEnd). AppendSpec {E = E} (Ok x) header before saved old (Synced mid)) (sym after_is)
      (on_disk v mid w))
