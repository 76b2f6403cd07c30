-- What is written of a state doesn't depend on its program limit.
use Rattle.std.proofs.Common.{◌≡◌, inl, inr, ⊎_elim, ℕ, ◌+◌, ◌<◌, ◌≤◌, List, length, Option, Result, Ok, Err, sym, ◌∙◌, ap, subst}
use Rattle.std.specs.Prelude.{OnOk, IfOk}
use Rattle.ng_canon.specs.declared.item.Item.{Item}
use Rattle.ng_rig.specs.Trace.{Image, Trace, reads, items}
use Rattle.ng_rig.specs.Only.{IsMixOf}
use Rattle.ng_rig.proofs.ContinuationLemmas.{weaker}
use Rattle.ng_rig.proofs.WritesOnlyLemmas.{only_wider, reads_blend}
use Rattle.ng_params.specs.declared.change.Change.{Change}
use Rattle.ng_params.specs.Differences.{differences}
use Rattle.ng_offsets.specs.declared.tools.SlotChange.{SlotChange}
use Rattle.ng_layout.specs.Areas.{snapshot_first, snapshot_size, log_first, log_size_of}
use Rattle.ng_layout.specs.declared.header.Format.TheVariants.{Two}
use Rattle.ng_layout.specs.declared.header.Header.{Header}
use Rattle.ng_layout.specs.Log.{PartHeader, parts_for}
use Rattle.ng_layout.specs.Part.{HoldsRecordPart}
use Rattle.ng_layout.specs.Snapshot.{HoldsPart}
use Rattle.ng_layout.specs.Storable.{IsStorable}
use Rattle.ng_layout.specs.Stored.{StoredModel, DurableState}
use Rattle.ng_layout.proofs.ToolTableLemmas.{valid, restored}
use Rattle.ng_log.specs.declared.log_end.LogEnd.{LogEnd}
use Rattle.ng_log.specs.Writing.{WritesRecord, AppendSpec}
use Rattle.ng_log.specs.AtEnd.{end_after, EndsIn, IsAtEnd, IsEither}
use Rattle.ng_log.specs.Records.{LogRecord, size_of, IsPartOf, BelongsToRecord, record_at}
use Rattle.ng_log.proofs.RecordWriteLemmas.{next_from}
use Rattle.ng_log.proofs.LogEndLemmas.{IsBlend, IsNext, blend-force, blend-stands, blend-written, blend-ends}
use Rattle.ng_journal.specs.AtRest.{BelongsToAreas, BelongsTo, IsLaidOut, next_header}
use Rattle.ng_journal.specs.Loads.{BelongsToLoad, StoresLoadIn}
use Rattle.ng_journal.specs.Private.CheckpointSteps.{WritesAreas}
use Rattle.ng_journal.specs.Private.Records.{LeadsTo}

abbrev pub with_limit : ℕ → StoredModel → StoredModel
with_limit most saved = record saved { program_limit = most }

-- ---- the areas of a header

holds_part : (most : ℕ) (saved : StoredModel) (j : ℕ) (bytes : List ℕ) → HoldsPart saved j bytes → HoldsPart (with_limit most saved) j bytes
holds_part most saved j bytes h = record { state = h.state; slots = h.slots; rest = h.rest; values = h.values }

to_areas : (most : ℕ) (header : Header) (saved : StoredModel) (n : ℕ) (bytes : List ℕ)
    → BelongsToAreas header saved n bytes → BelongsToAreas header (with_limit most saved) n bytes
to_areas most header saved n bytes (inl own) =
    inl (record {
      place = own.place;
      within = own.within;
      is = own.is;
      right = holds_part most saved own.place bytes
          own.right;
    })
to_areas most header saved n bytes (inr tools) = inr tools

belongs : (most : ℕ) (header : Header) (saved : StoredModel) (n : ℕ) (bytes : List ℕ)
    → BelongsTo header saved n bytes → BelongsTo header (with_limit most saved) n bytes
belongs most header saved n bytes (inl areas) = inl (to_areas most header saved n bytes areas)
belongs most header saved n bytes (inr there) = inr there

pub areas_limited : {T E : Type 0} (most : ℕ) (result : Result T E) (next : Header) (saved : StoredModel)
    (old new : Trace) → WritesAreas result next saved old new → WritesAreas result next (with_limit most saved) old
    new
areas_limited {T = T} {E = E} most result next saved old new w = record {
  writes = only_wider (λ n c. BelongsToAreas next saved n c) (λ n c. BelongsToAreas next (with_limit most saved) n c)
      old new (to_areas most next saved) w.writes;
  parts = go result w.parts;
  tools = w.tools;
}
  where
    Parts : StoredModel → Type 0
    Parts s = (j : ℕ) → j < snapshot_size → HoldsPart s j (reads new (snapshot_first next.epoch + j))

    go : (result : Result T E) → OnOk result (Parts saved) → OnOk result (Parts (with_limit most saved))
    go (Ok v) parts = λ j lt. holds_part most saved j (reads new (snapshot_first next.epoch + j)) (parts j lt)
    go (Err e) parts = tt

-- ---- a load

pub load_limited : {T E : Type 0} (most : ℕ) (result : Result T E) (area : ℕ) (header : Header) (saved : StoredModel)
    (text : List ℕ) (old new : Trace) → StoresLoadIn result area header (record { saved = saved; program = text }) old
    new → StoresLoadIn result area header (record { saved = with_limit most saved; program = text }) old new
load_limited {T = T} {E = E} most result area header saved text old new s = record {
  writes = only_wider (λ n c. BelongsToLoad area header was n c) (λ n c. BelongsToLoad area header now n c) old new to_load s.writes;
  text = s.text;
  laid = go result s.laid;
  synced = s.synced;
}
  where
    next : Header
    next = next_header header area saved.length

    was : DurableState
    was = record { saved = saved; program = text }

    now : DurableState
    now = record { saved = with_limit most saved; program = text }

    to_load : (n : ℕ) (c : List ℕ) → BelongsToLoad area header was n c → BelongsToLoad area header now n c
    to_load n c (inl own) = inl own
    to_load n c (inr own) = inr (belongs most next saved n c own)

    go : (result : Result T E) → OnOk result (IsLaidOut next saved (reads new)) → OnOk result (IsLaidOut next (with_limit most saved) (reads new))
    go (Ok v) laid = λ n own. belongs most next saved n (reads new n) (laid n own)
    go (Err e) laid = tt

-- ---- a record

holds_record_part : (most : ℕ) (l : PartHeader) (saved : StoredModel) (all : List Change) (slot : Option SlotChange)
    (bytes : List ℕ) → HoldsRecordPart l saved all slot bytes → HoldsRecordPart l (with_limit most saved) all slot
    bytes
holds_record_part most l saved all slot bytes h = record {
  label = h.label;
  state = λ first. let s = h.state first in record { state = s.state; slot = s.slot; tool = s.tool; between = s.between; rest = s.rest };
  changes = h.changes;
}

module _ (most epoch : ℕ) (end : LogEnd) (saved : StoredModel) (changes : List Change) (slot : Option SlotChange) where
  abbrev r : LogRecord
  r = record_at epoch end saved changes slot

  abbrev limited : LogRecord
  limited = record_at epoch end (with_limit most saved) changes slot

  part : (m : ℕ) (bytes : List ℕ) → IsPartOf r m bytes → IsPartOf limited m bytes
  part m bytes p = record { from = p.from; to = p.to; holds = holds_record_part most _ saved changes slot bytes p.holds }

  in_record : (n : ℕ) (bytes : List ℕ) → BelongsToRecord r n bytes → BelongsToRecord limited n bytes
  in_record n bytes b = record { log = b.log; part = part _ bytes b.part }

  pub record_limited : {T E : Type 0} (result : Result T E) (old new : Trace) → WritesRecord result r old new → WritesRecord result limited old new
  record_limited {T = T} {E = E} result old new w = record {
    writes = only_wider (BelongsToRecord r) (BelongsToRecord limited) old new in_record w.writes;
    parts = go result w.parts;
    synced = w.synced;
  }
    where
      Parts : LogRecord → Type 0
      Parts e = (j : ℕ) → j < size_of e → IsPartOf e (e.at + j) (reads new (log_first + (e.at + j)))

      go : (result : Result T E) → OnOk result (Parts r) → OnOk result (Parts limited)
      go (Ok v) parts = λ j lt. part (end.sector + j) (reads new (log_first + (end.sector + j))) (parts j lt)
      go (Err e) parts = tt

-- ---- what stops leave of a record that is written

module _ (old : Trace) (header : Header) (before : DurableState) (end : LogEnd) (saved : StoredModel)
    (changes : List Change) (slot : Option SlotChange) (at : IsAtEnd old header before end)
    (next : IsNext (reads old) header before end saved changes slot) where
  abbrev e : LogRecord
  e = record_at header.epoch end saved changes slot

  blend : (image : Image) (handed : List Item) → IsMixOf old (BelongsToRecord e) image handed → IsBlend (reads old) image e
  blend image handed b = record { each = λ n. ⊎_elim (λ may. inl (at.synced.one n (image n) may)) (λ there. inr there) (b.each n) }

  either : (image : Image) (handed : List Item) → IsMixOf old (BelongsToRecord e) image handed
      → IsEither (Ok before) (Ok (record before { saved = saved })) (items old) image handed
  either image handed b = record {
    state = blend-stands (reads old) image header before end saved changes slot next (blend image handed b);
    modern = record {
      header = header;
      force = blend-force (reads old) image header before end saved changes slot
          next (blend image handed b);
      format = next.two;
    };
    written = blend-written (reads old) image header before end saved changes slot next (blend image handed b);
    handed_is = b.handed_is;
  }

  written : {E : Type 0} (result : Result LogEnd E) (new : Trace)
      → IfOk result (λ after. after ≡ end_after end (length changes)) → WritesRecord result e old new
      → AppendSpec result header before saved old new
  written {E = E} result new is w = record {
    stops = weaker old new (IsMixOf old (BelongsToRecord e)) (IsEither (Ok before) (Ok (record before { saved = saved })) (items old)) w.writes.stops either;
    items_are = w.writes.items_are;
    at = go result is w;
  }
    where
      go : (result : Result LogEnd E) → IfOk result (λ after. after ≡ end_after end (length changes))
          → WritesRecord result e old new
          → IfOk result (λ after. IsAtEnd new header (record before { saved = saved }) after)
      go (Err f) is w = tt
      go (Ok after) is w = record {
        synced = w.synced;
        image = subst (λ (x : LogEnd). EndsIn (reads new) header (record before { saved = saved }) x) (sym is)
            (blend-ends (reads old) (reads new) header before end saved changes slot next
            (blend (reads new) (items new) (reads_blend (BelongsToRecord e) old new w.writes)) w.parts);
      }

-- A record of a state stands for that state with the old state's limit.
pub append_limited : {E : Type 0} (result : Result LogEnd E) (header : Header) (end : LogEnd) (changes : List Change)
    (slot : Option SlotChange) (before : DurableState) (was stored : StoredModel) (old new : Trace)
    → IsAtEnd old header before end → before.saved ≡ was → LeadsTo was stored changes slot → IsStorable stored
    → end.sector + parts_for (length changes) ≤ log_size_of header → stored.length ≡ header.length
    → header.format ≡ Two → IfOk result (λ after. after ≡ end_after end (length changes))
    → WritesRecord result (record_at header.epoch end stored changes slot) old new
    → AppendSpec result header before (with_limit was.program_limit stored) old new
append_limited result header end changes slot before was stored old new at is leads storable fits long two after_is w =
    written old header before end saved changes slot at next result new after_is
    (record_limited was.program_limit header.epoch end stored changes slot result old new w)
  where
    saved : StoredModel
    saved = with_limit was.program_limit stored

    tools : before.saved.tools ≡ was.tools
    tools = ap (λ (s : StoredModel). s.tools) is

    next : IsNext (reads old) header before end saved changes slot
    next = next_from (reads old) header before end slot saved changes two
        (valid was.tools stored.tools before.saved.tools slot tools leads.slot_is leads.one storable.tools)
        (restored was.tools stored.tools before.saved.tools slot tools leads.slot_is leads.one) at.image
        (leads.changes_are ∙ ap (λ (s : StoredModel). differences s.setup.params stored.setup.params) (sym is))
        storable.table fits long (ap (λ (s : StoredModel). s.program_limit) is)
