-- Room is made for a record, and then the record is written.
use Rattle.std.proofs.Common.{◌≡◌, ◌⊎◌, inl, inr, ⊎_elim, ℕ, ◌+◌, ◌<◌, ◌≤◌, ◌↔◌, Bool, true, false, List, ℤ, Option, Some, None}
use Rattle.std.proofs.Common.{Result, Ok, Err, length, refl, sym, ◌∙◌, ap, subst, arith}
use Rattle.std.specs.Prelude.{OnOk, IfOk, IfSome}
use Rattle.std.proofs.lemmas.Bool.{cases_lt}
use Rattle.ng_rig.specs.Trace.{Trace, reads, items}
use Rattle.ng_rig.specs.Continuation.{IsContinuation}
use Rattle.ng_rig.specs.Only.{WritesOnly}
use Rattle.ng_rig.proofs.ContinuationLemmas.{stays, joined, weaker}
use Rattle.ng_rig.proofs.WritesOnlyLemmas.{only_none, only_more, only_wider, reads_blend}
use Rattle.ng_layout.specs.declared.header.Header.{Header}
use Rattle.ng_layout.specs.Areas.{log_first, shortest_log, log_size_of, program_first, program_size}
use Rattle.ng_layout.specs.Log.{parts_for}
use Rattle.ng_layout.specs.Sectors.{program_text}
use Rattle.ng_layout.specs.Header.{IsValidHeader}
use Rattle.ng_layout.specs.Limits.{greatest_count}
use Rattle.ng_layout.specs.Stands.{is_large, stands, stretch}
use Rattle.ng_layout.specs.Stored.{StoredModel, DurableState}
use Rattle.ng_log.specs.declared.log_end.LogEnd.{LogEnd}
use Rattle.ng_log.specs.AtEnd.{end_after, no_records, IsAtEnd}
use Rattle.ng_log.specs.Writing.{AppendSpec, WritesRecord}
use Rattle.std.specs.Option.{ForSome}
use Rattle.ng_layout.specs.Storable.{IsStorableChange}
use Rattle.ng_layout.specs.Update.{UpdateModel, updated}
use Rattle.ng_offsets.specs.Tools.{first_change, with_change, IsSlotChange}
use Rattle.ng_offsets.specs.declared.tools.SlotChange.{SlotChange}
use Rattle.ng_params.specs.Differences.{differences}
use Rattle.ng_params.specs.declared.change.Change.{Change}
use Rattle.ng_log.specs.Records.{LogRecord, size_of, BelongsToRecord, record_at}
use Rattle.ng_params.proofs.DifferenceLemmas.{differences-all, differences-few}
use Rattle.ng_layout.proofs.ImageLemmas.{force-within, log-short}
use Rattle.ng_log.proofs.LogEndLemmas.{ends-stand}
use Rattle.ng_journal.specs.declared.storing.Tip.{Tip}
use Rattle.ng_journal.specs.Private.CheckpointSteps.{FitsDevice, IsOwnImage, IsEitherUnder, StoresState, beside, CheckpointSpec}
use Rattle.ng_layout.specs.declared.header.Format.TheVariants.{Two}
use Rattle.ng_journal.proofs.SnapshotAloneLemmas.{begun-end}
use Rattle.ng_journal.specs.AtRest.{IsEither, IsOfEpoch, BelongsTo, IsLaidOut, next_header}
use Rattle.ng_journal.specs.Journal.{IsTip, StandsFor}
use Rattle.ng_journal.specs.Private.Records.{ledger, tip_of, IsRoom, MakeRoomSpec, IsRenewed, StoresRoom, StoreRecordSpec, LeadsTo, AppendsRecord, IsTipAfter}
use Rattle.ng_journal.specs.Storing.{Ledger, changes_to, HasRoomFor, IsFullFor, renewed, IsLedgerAfter, IsSettled}
use Rattle.ng_journal.specs.Storing.{record_of, BelongsToStoring, IsRecorded, IsStoredIn, StoresRecord}

pub own : {trace : Trace} {header : Header} {standing : DurableState} {end : LogEnd} → IsAtEnd trace header standing end → IsOwnImage trace header
own at = record { synced = at.synced; force = at.image.force; written = at.image.written }

-- the state fits a device under the next epoch too
pub fits_next : {trace : Trace} {header : Header} {before : DurableState} {end : LogEnd} (next : Header)
    (saved : StoredModel) → IsAtEnd trace header before end → before.saved ≡ saved
    → next ≡ next_header header header.area header.length → header.epoch < greatest_count
    → FitsDevice (reads trace) next saved
fits_next {trace = trace} {header = header} next saved at is next_is more =
    let w = force-within (reads trace) header at.image.force in
    record {
      valid = subst (λ (h : Header). IsValidHeader (is_large (reads trace)) h) (sym next_is)
          (record { counted = omega arith; few = omega arith; area = w.area; length = w.length });
      program_limit = sym (ap (λ (s : StoredModel). s.program_limit) is) ∙ at.image.program_limit;
    }

-- ---- what stops leave

-- the state, with the program in force
pub same_standing : (trace : Trace) (header : Header) (before : DurableState) (end : LogEnd) (saved : StoredModel)
    (area : ℕ) → IsAtEnd trace header before end → before.saved ≡ saved → area ≡ header.area
    → beside saved area (reads trace) ≡ before
same_standing trace header before end saved area at is area_is =
    (λ i. beside (sym is i) (area_is i) (reads trace))
    ∙ (λ i. record {
      saved = before.saved;
      program =
          (ap (λ (n : ℕ). program_text n
          (stretch (program_first header.area) (program_size header.area) (reads trace))) at.image.long
          ∙ at.image.program) i;
    })

module _ (old new : Trace) (header next : Header) (before : DurableState) (end : LogEnd) (saved : StoredModel)
    (at : IsAtEnd old header before end) (is : before.saved ≡ saved) (area_is : next.area ≡ header.area)
    (two : next.format ≡ Two) where
  same : beside saved next.area (reads old) ≡ before
  same = same_standing old header before end saved next.area at is area_is

  -- a checkpoint of the state leaves it unchanged
  keeps_standing : {T E : Type 0} (result : Result T E) → CheckpointSpec result header next saved old new
      → IsContinuation old new (StandsFor before (items old))
  keeps_standing result c =
      weaker old new (IsEitherUnder header next (stands (reads old)) (Ok (beside saved next.area (reads old)))
      (items old)) (StandsFor before (items old)) c.stops (λ image handed p. record {
        modern = ⊎_elim (λ was. record { header = header; force = was.0; format = at.image.format })
            (λ made. record { header = next; force = made.0; format = two }) p.state;
        state = ⊎_elim (λ was. was.1 ∙ ends-stand (reads old) header before end at.image) (λ made. made.1 ∙ ap (λ (s : DurableState). Ok s) same) p.state;
        written = p.written;
        handed_is = p.handed_is;
      })

  pub room_failed : {T E F : Type 0} (e : E) (result : Result T F) → CheckpointSpec result header next saved old new → MakeRoomSpec (Err e) before old new
  room_failed e result c = record { stops = keeps_standing result c; items_are = c.items_are; at = tt }

  pub room_made : {T E F : Type 0} (v : T) (tip : Tip) → tip ≡ record { header = next; end = no_records }
      → CheckpointSpec {E = F} (Ok v) header next saved old new → MakeRoomSpec {E = E} (Ok tip) before old new
  room_made {F = F} v tip tip_is c =
      let ok : Result _ F = Ok v in
      record {
        stops = keeps_standing ok c;
        items_are = c.items_are;
        at = subst (λ (t : Tip). IsAtEnd new t.header before t.end) (sym tip_is)
            (subst (λ (s : DurableState). IsAtEnd new next s no_records) same
            (begun-end new next (beside saved next.area (reads old)) two c.at));
      }

-- or the log has room
pub room_there : {E : Type 0} (tip : Tip) (before : DurableState) (trace : Trace)
    → IsAtEnd trace tip.header before tip.end → MakeRoomSpec {E = E} (Ok tip) before trace trace
room_there tip before trace at = record { stops = stays trace (StandsFor before (items trace)); items_are = refl; at = at }

pub appended : {E : Type 0} (tip after : Tip) (end : LogEnd) (before : DurableState) (saved : StoredModel)
    (old new : Trace) → after ≡ record { header = tip.header; end = end }
    → AppendSpec {E = E} (Ok end) tip.header before saved old new → StoreRecordSpec {E = E} (Ok after) before saved
    old new
appended tip after end before saved old new is a = record {
  stops = a.stops;
  items_are = a.items_are;
  at = subst (λ (t : Tip). IsAtEnd new t.header (record before { saved = saved }) t.end) (sym is) a.at;
}

pub not_appended : {E F : Type 0} (e : E) (result : Result LogEnd F) (header : Header) (before : DurableState)
    (saved : StoredModel) (old new : Trace) → AppendSpec result header before saved old new
    → StoreRecordSpec (Err e) before saved old new
not_appended e result header before saved old new a = record { stops = a.stops; items_are = a.items_are; at = tt }

as_either : (before after : DurableState) (old mid : Trace) → IsContinuation old mid (StandsFor before (items old))
    → IsContinuation old mid (IsEither (Ok before) (Ok after) (items old))
as_either before after old mid stops = weaker old mid (StandsFor before (items old))
    (IsEither (Ok before) (Ok after) (items old)) stops
    (λ image handed p. record {
      state = inl p.state;
      modern = p.modern;
      written = p.written;
      handed_is =
          p.handed_is;
    })

pub no_room : {E F : Type 0} (e : E) (result : Result Tip F) (before : DurableState) (saved : StoredModel)
    (old new : Trace) → MakeRoomSpec result before old new → StoreRecordSpec (Err e) before saved old new
no_room e result before saved old new m =
    record {
      stops = as_either before (record before { saved = saved }) old new m.stops;
      items_are = m.items_are;
      at = tt;
    }

pub stored_after : {E F : Type 0} (result : Result Tip E) (tip : Tip) (before : DurableState) (saved : StoredModel)
    (old mid new : Trace) → MakeRoomSpec {E = F} (Ok tip) before old mid
    → StoreRecordSpec result before saved mid new → StoreRecordSpec result before saved old new
stored_after result tip before saved old mid new m s =
    let after : DurableState = record before { saved = saved } in
    record {
      stops = joined old mid new (IsEither (Ok before) (Ok after) (items old)) (as_either before after old mid m.stops)
          (weaker mid new (IsEither (Ok before) (Ok after) (items mid))
          (IsEither (Ok before) (Ok after) (items old)) s.stops
          (λ image handed p. record {
            state = p.state;
            modern = p.modern;
            written = p.written;
            handed_is =
                p.handed_is ∙ m.items_are;
          }));
      items_are = s.items_are ∙ m.items_are;
      at = s.at;
    }

-- ---- what is written

abbrev MayRoom : Ledger → ℕ → ℕ → List ℕ → Type 0
MayRoom l changes n bytes = IsFullFor l.header l.end changes × BelongsTo (renewed l).header l.saved n bytes

abbrev May : Ledger → StoredModel → ℕ → List ℕ → Type 0
May l saved n bytes = BelongsToStoring l saved n bytes

pub nothing_written : {T E : Type 0} (v : T) (l : Ledger) (changes : ℕ) (trace : Trace)
    → HasRoomFor l.header l.end changes → StoresRoom {E = E} (Ok v) l changes trace trace
nothing_written v l changes trace room = record { writes = only_none (MayRoom l changes) trace; done = λ full. absurd (omega (arith, room, full)) }

room_written : {T E : Type 0} (result : Result T E) (l : Ledger) (changes : ℕ) (next : Header) (old new : Trace)
    → IsFullFor l.header l.end changes → next ≡ (renewed l).header → StoresState result next l.saved old new
    → WritesOnly (MayRoom l changes) old new
room_written result l changes next old new full is s =
    only_wider (λ n bytes. BelongsTo next l.saved n bytes) (MayRoom l changes) old new
    (λ n c own. (full, subst (λ (h : Header). BelongsTo h l.saved n c) is own)) s.writes

pub room_not_written : {T U E F : Type 0} (e : E) (result : Result U F) (l : Ledger) (changes : ℕ) (next : Header)
    (old new : Trace) → IsFullFor l.header l.end changes → next ≡ (renewed l).header
    → StoresState result next l.saved old new → StoresRoom {T = T} (Err e) l changes old new
room_not_written e result l changes next old new full is s = record { writes = room_written result l changes next old new full is s; done = tt }

pub all_room_written : {T U E F : Type 0} (u : U) (v : T) (l : Ledger) (changes : ℕ) (next : Header)
    (old new : Trace) → IsFullFor l.header l.end changes → next ≡ (renewed l).header
    → StoresState {E = F} (Ok v) next l.saved old new → StoresRoom {T = U} {E = E} (Ok u) l changes old new
all_room_written {F = F} u v l changes next old new full is s =
    let ok : Result _ F = Ok v in
    record {
      writes = room_written ok l changes next old new full is s;
      done = λ _. record { laid = subst (λ (h : Header). IsLaidOut h l.saved (reads new)) is s.laid; synced = s.synced };
    }

pub not_stored : {T U E F : Type 0} (e : E) (result : Result U F) (l : Ledger) (changes : ℕ) (saved : StoredModel)
    (old new : Trace) → changes ≡ changes_to l saved → StoresRoom result l changes old new
    → StoresRecord {T = T} (Err e) l saved old new
not_stored e result l changes saved old new count r = record {
  writes = only_wider (MayRoom l changes) (May l saved) old new (λ n c b. inr (subst (IsFullFor l.header l.end) count b.0, inl b.1)) r.writes;
  laid = tt;
  synced = tt;
}

-- a record leaves everything outside the log unchanged
stays_laid : (l : Ledger) (r : LogRecord) (mid new : Trace) → r.at + size_of r ≤ shortest_log → IsRenewed l mid
    → WritesOnly (BelongsToRecord r) mid new → IsLaidOut (renewed l).header l.saved (reads new)
stays_laid l r mid new room done w = λ n own. subst (BelongsTo (renewed l).header l.saved n) (sym (same n own)) (done.laid n own)
  where
    low : (n : ℕ) → IsOfEpoch (renewed l).header n → (n < log_first) ⊎ (log_first + shortest_log ≤ n)
    low n (inl (inl among)) = let to = among.to in inl (omega arith)
    low n (inl (inr among)) = let from = among.1.from in inr (omega arith)
    low n (inr is) = inl (omega arith)

    same : (n : ℕ) → IsOfEpoch (renewed l).header n → reads new n ≡ reads mid n
    same n own = ⊎_elim (λ may. done.synced.one n (reads new n) may)
        (λ there. absurd (⊎_elim (λ x. omega (arith, there.log))
        (λ x. omega (arith, there.log, there.part.to, room)) (low n own)))
        ((reads_blend (BelongsToRecord r) mid new w).each n)

room_of : (tip : Tip) (l : Ledger) (saved : StoredModel) (at : Ledger) → tip ≡ tip_of at → at.saved ≡ l.saved
    → record_of (ledger tip l.saved) saved ≡ record_of at saved
room_of tip l saved at is same = λ i. record_of (record { header = (is i).header; end = (is i).end; saved = sym same i }) saved

pub stored : {T E F : Type 0} (result : Result T E) (tip : Tip) (l : Ledger) (changes : ℕ) (saved : StoredModel)
    (old mid new : Trace) → changes ≤ 5399 → changes ≡ changes_to l saved → IsRoom l changes tip
    → StoresRoom {E = F} (Ok tip) l changes old mid → WritesRecord result (record_of (ledger tip l.saved) saved) mid
    new → StoresRecord result l saved old new
stored {T = T} {E = E} result tip l changes saved old mid new few count (inl there) r w =
    let at : WritesRecord result (record_of l saved) mid new =
    subst (λ (e : LogRecord). WritesRecord result e mid new) (room_of tip l saved l there.1 refl) w in
    let room : HasRoomFor l.header l.end (changes_to l saved) = subst (HasRoomFor l.header l.end) count there.0 in
    record {
      writes = only_more (May l saved) old mid new
          (only_wider (MayRoom l changes) (May l saved) old mid (λ n c b. inr (subst (IsFullFor l.header l.end) count b.0, inl b.1)) r.writes)
          (only_wider (BelongsToRecord (record_of l saved)) (May l saved) mid new (λ n c b. inl (room, b)) at.writes);
      laid = go result at.parts;
      synced = at.synced;
    }
  where
    go : (result : Result T E) → OnOk result (IsRecorded (record_of l saved) (reads new)) → OnOk result (IsStoredIn l saved (reads new))
    go (Err e) parts = tt
    go (Ok v) parts = inl (subst (HasRoomFor l.header l.end) count there.0, parts)
stored {T = T} {E = E} result tip l changes saved old mid new few count (inr full) r w =
    let at : WritesRecord result (record_of (renewed l) saved) mid new =
    subst (λ (e : LogRecord). WritesRecord result e mid new) (room_of tip l saved (renewed l) full.1 refl) w in
    let is_full : IsFullFor l.header l.end (changes_to l saved) = subst (IsFullFor l.header l.end) count full.0 in
    record {
      writes = only_more (May l saved) old mid new
          (only_wider (MayRoom l changes) (May l saved) old mid (λ n c b. inr (subst (IsFullFor l.header l.end) count b.0, inl b.1)) r.writes)
          (only_wider (BelongsToRecord (record_of (renewed l) saved)) (May l saved) mid new (λ n c b. inr (is_full, inr b)) at.writes);
      laid = go result at.parts (stays_laid l (record_of (renewed l) saved) mid new (omega (arith, count, few)) (r.done full.0) at.writes);
      synced = at.synced;
    }
  where
    go : (result : Result T E) → OnOk result (IsRecorded (record_of (renewed l) saved) (reads new))
        → IsLaidOut (renewed l).header l.saved (reads new) → OnOk result (IsStoredIn l saved (reads new))
    go (Err e) parts laid = tt
    go (Ok v) parts laid = inr (subst (IsFullFor l.header l.end) count full.0, laid, parts)

-- the ledger after it
pub ledger_after : {E : Type 0} (result : Result Tip E) (tip : Tip) (l : Ledger) (changes : ℕ) (saved : StoredModel)
    → changes ≡ changes_to l saved → IsRoom l changes tip
    → IfOk result (λ t. t ≡ record { header = tip.header; end = end_after tip.end changes })
    → IfOk result (λ t. IsLedgerAfter l saved (ledger t saved))
ledger_after (Err e) tip l changes saved count room is = tt
ledger_after (Ok after) tip l changes saved count (inl there) is = record {
  room = λ _. ap (λ (t : Tip). ledger t saved) (is ∙ (λ i. record { header = (there.1 i).header; end = end_after (there.1 i).end (count i) }));
  full = λ full. let room = subst (HasRoomFor l.header l.end) count there.0 in absurd (omega (arith, room, full));
}
ledger_after (Ok after) tip l changes saved count (inr full) is = record {
  room = λ room. let none = subst (IsFullFor l.header l.end) count full.0 in absurd (omega (arith, room, none));
  full = λ _. ap (λ (t : Tip). ledger t saved) (is ∙ (λ i. record { header = (full.1 i).header; end = end_after (full.1 i).end (count i) }));
}

-- each of the two logs has room
pub has_room : (tip : Tip) (l : Ledger) (changes : ℕ) → changes ≤ 5399 → IsRoom l changes tip → HasRoomFor tip.header tip.end changes
has_room tip l changes few (inl there) = subst (λ (t : Tip). HasRoomFor t.header t.end changes) (sym there.1) there.0
has_room tip l changes few (inr full) = subst (λ (t : Tip). HasRoomFor t.header t.end changes) (sym full.1)
    (let room : HasRoomFor (renewed l).header no_records changes = omega (arith, few, log-short l.header.format) in
    room)

-- no more parameters differ than there are
pub changes_few : (was saved : StoredModel) → length (differences was.setup.params saved.setup.params) ≤ 5399
changes_few was saved = subst (λ (made : List Change). length made ≤ 5399)
    (differences-all was.setup.params saved.setup.params) (differences-few 5399 was.setup.params saved.setup.params)

pub has_room_yet : (b : Bool) (header : Header) (end : LogEnd) (changes : ℕ)
    → ((b ≡ true) ↔ IsFullFor header end changes) → b ≡ false → HasRoomFor header end changes
has_room_yet b header end changes iff no_ = elim (cases_lt (log_size_of header) (end.sector + parts_for changes)) [
  | inl full ↦ absurd (let yes = iff.1 full in cc)
  | inr room ↦ room
]

-- the same tip, for an equal length of the program
pub same_length : (a b : ℕ) (tip : Tip) → b ≡ a → IsTip a tip.header tip.end → IsTip b tip.header tip.end
same_length a b tip is t = record { long = is ∙ t.long; format = t.format; within = t.within; number = t.number }

record_is : (tip : Tip) (was saved : StoredModel) (changes : List Change) (slot : Option SlotChange)
    → changes ≡ differences was.setup.params saved.setup.params → slot ≡ first_change was.tools saved.tools
    → record_at tip.header.epoch tip.end saved changes slot ≡ record_of (ledger tip was) saved
record_is tip was saved changes slot is slot_is = λ i. record_at tip.header.epoch tip.end saved (is i) (slot_is i)

-- a record that failed, for the result of another call
pub not_recorded : {T U E F : Type 0} (e : E) (result : Result U F) (tip : Tip) (was saved : StoredModel)
    (changes : List Change) (slot : Option SlotChange) (old new : Trace)
    → changes ≡ differences was.setup.params saved.setup.params → slot ≡ first_change was.tools saved.tools
    → WritesRecord result (record_at tip.header.epoch tip.end saved changes slot) old new
    → WritesRecord {T = T} (Err e) (record_of (ledger tip was) saved) old new
not_recorded e result tip was saved changes slot old new is slot_is w =
    record {
      writes = subst (λ (r : LogRecord). WritesOnly (BelongsToRecord r) old new)
          (record_is tip was saved changes slot is slot_is) w.writes;
      parts = tt;
      synced = tt;
    }

pub recorded : {T U E F : Type 0} (t : T) (u : U) (tip : Tip) (was saved : StoredModel) (changes : List Change)
    (slot : Option SlotChange) (old new : Trace) → changes ≡ differences was.setup.params saved.setup.params
    → slot ≡ first_change was.tools saved.tools
    → WritesRecord {E = F} (Ok u) (record_at tip.header.epoch tip.end saved changes slot) old new
    → WritesRecord {E = E} (Ok t) (record_of (ledger tip was) saved) old new
recorded t u tip was saved changes slot old new is slot_is w =
    let same = record_is tip was saved changes slot is slot_is in
    record {
      writes = subst (λ (r : LogRecord). WritesOnly (BelongsToRecord r) old new) same w.writes;
      parts = subst (λ (r : LogRecord). IsRecorded r (reads new)) same w.parts;
      synced = w.synced;
    }

-- what an update leads to
valid_slot : (tools : List ℤ) (slot : Option SlotChange) → ForSome slot (IsStorableChange tools) → IfSome slot (IsSlotChange tools)
valid_slot tools None can = tt
valid_slot tools (Some change) can = (can change refl).slot

pub update-leads : (was : StoredModel) (update : UpdateModel) (slot : Option SlotChange) → IsSettled was update
    → slot ≡ first_change was.tools (with_change update.slot was.tools)
    → LeadsTo was (updated was update) update.changes slot
update-leads was update slot settled is = record {
  changes_are = settled.changes;
  slot_is = is;
  one = record { change = update.slot; valid = valid_slot was.tools update.slot settled.slot; is = refl };
}

-- what its record leaves, if the state was taken over
pub as_taken : {E : Type 0} (result : Result Tip E) (tip : Tip) (was taken next : StoredModel) (changes : List Change)
    (slot : Option SlotChange) (old new : Trace) → taken ≡ next → LeadsTo was next changes slot
    → ((from : StoredModel) → LeadsTo from taken changes slot
    → AppendsRecord result (ledger tip from) (record taken { program_limit = from.program_limit }) old new)
    → AppendsRecord result (ledger tip was) (record next { program_limit = was.program_limit }) old new
as_taken result tip was taken next changes slot old new is leads appends =
    subst (λ (s : StoredModel). AppendsRecord result (ledger tip was) (record s { program_limit = was.program_limit }) old new) is
    (appends was (subst (λ (s : StoredModel). LeadsTo was s changes slot) (sym is) leads))

-- the tip that a record leaves
pub tip_after : {E : Type 0} (result : Result Tip E) (l : Ledger) (saved : StoredModel)
    → IfOk result (λ t. IsLedgerAfter l saved (ledger t saved)) → IfOk result (λ t. IsTip saved.length t.header t.end)
    → IfOk result (IsTipAfter l saved)
tip_after (Err e) l saved ledger_is tip_is = tt
tip_after (Ok tip) l saved ledger_is tip_is = record { ledger_is = ledger_is; tip_is = tip_is }
