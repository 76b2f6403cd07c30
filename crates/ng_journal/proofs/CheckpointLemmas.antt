-- The stops of a checkpoint: the stored state is written to the next epoch's areas; then a sync, the next header, a
-- sync.
use Rattle.std.proofs.Common.{◌≡◌, ◌≢◌, ◌⊎◌, inl, inr, ⊎_elim, ℕ, ◌+◌, ◌%◌, ◌<◌, ◌≤◌, ◌==◌, nat_lt, Bool}
use Rattle.std.proofs.Common.{if◌then◌else◌, List, [], Some, Result, Ok, Err, length, refl, sym, ◌∙◌, ap, subst}
use Rattle.std.proofs.Common.{arith}
use Rattle.std.proofs.lemmas.Bool.{cases_eq}
use Rattle.std.proofs.lemmas.Bool.Decides.{nat_tests}
use Rattle.ng_canon.specs.declared.item.Item.{Item}
use Rattle.ng_rig.specs.Trace.{Image, Trace, Wrote, Synced, MayHold, reads, items}
use Rattle.ng_rig.specs.Calls.{WriteSpec, SyncSpec}
use Rattle.ng_rig.specs.Continuation.{IsContinuation, IsSynced}
use Rattle.ng_rig.specs.Only.{IsMixOf, WritesOnly}
use Rattle.ng_rig.proofs.ContinuationLemmas.{stays, joined, weaker, on_write, on_perhaps, on_sync, is_synced}
use Rattle.ng_rig.proofs.WritesOnlyLemmas.{reads_blend, only_sync, only_wider}
use Rattle.ng_layout.specs.declared.header.Format.TheVariants.{One, Two}
use Rattle.ng_layout.specs.declared.header.Header.{Header}
use Rattle.ng_layout.specs.Fields.{number_at}
use Rattle.ng_layout.specs.Header.{header_in, program_limit_of, IsValidHeader}
use Rattle.ng_layout.specs.Sectors.{program_text}
use Rattle.ng_layout.specs.Snapshot.{HoldsPart, HoldsToolPart}
use Rattle.ng_layout.specs.Spare.{IsAmong}
use Rattle.ng_layout.specs.Storable.{IsStorableTools}
use Rattle.ng_params.specs.Numbers.{parameter_count}
use Rattle.ng_layout.proofs.SpareLemmas.{IsSpare, SameButSpare, IsInTail, SameButTail}
use Rattle.ng_layout.specs.Areas.{snapshot_first, snapshot_size, tools_first, tools_size, program_first, program_size, log_first, shortest_log}
use Rattle.ng_layout.specs.Stands.{is_large, stretch, in_force, snapshot, stands, IsWritten}
use Rattle.ng_layout.specs.Stored.{StoredModel, DurableState}
use Rattle.ng_layout.proofs.ImageLemmas.{area-most, area-where, force-frame, force-next, stretch-same, stretch-at}
use Rattle.ng_layout.proofs.ImageLemmas.{stands-frame, written-frame, written-new, none-of-new, tail-force}
use Rattle.ng_layout.proofs.ImageLemmas.{tail-stands, tail-written}
use Rattle.ng_layout.proofs.SnapshotLemmas.{snapshot-new, tools-new}
use Rattle.ng_journal.specs.Private.CheckpointSteps.{WritesAreas, MayFollow, FitsDevice, IsOwnImage, IsEitherUnder, BeginsIn, beside, CheckpointSpec}
use Rattle.ng_journal.specs.AtRest.{IsOfAreas, BelongsToAreas}
use Rattle.ng_journal.proofs.SnapshotAloneLemmas.{begins-stand}
use Rattle.ng_journal.proofs.WrittenSectorLemmas.{of_areas}

abbrev In : Header → ℕ → List ℕ → Type 0
In next n c = IsOfAreas next n

abbrev P : Trace → Header → Header → DurableState → Image → List Item → Type 0
P old header next target = IsEitherUnder header next (stands (reads old)) (Ok target) (items old)

-- ---- what is written for a header changes nothing under the one before

not_areas : (next : Header) (n : ℕ) → (n < 2) ⊎ (((174 ≤ n) × (n < log_first + shortest_log)) ⊎ (1710 ≤ n)) → IsOfAreas next n → ⊥
not_areas next n where_is (inl a) =
    elim where_is [
      | inl low ↦ omega (arith, a.from)
      | inr (inl high) ↦ (let from = high.0 in omega (arith, a.to))
      | inr (inr past) ↦ omega (arith, a.to)
    ]
not_areas next n where_is (inr t) = let from = t.1.from in let to =
    t.1.to in elim where_is [
      | inl low ↦ omega arith
      | inr (inl high) ↦ (let below = high.1 in omega arith)
      | inr
          (inr past) ↦ omega arith
    ]

-- nor does it change the size of the device
same_size : (next : Header) (image base : Image) → ((n : ℕ) → IsOfAreas next n ⊎ (image n ≡ base n)) → is_large image ≡ is_large base
same_size next image base same = ap (λ (s : List ℕ). nat_lt 0 (length s))
    (⊎_elim (λ a. absurd (not_areas next 5805 (inr (inr (omega arith))) a)) (λ e. e) (same 5805))

pub record IsSameUnder (header : Header) (image base : Image) : Type 0 where
  pub force : in_force image ≡ Some header
  pub state : stands image ≡ stands base
  pub written : IsWritten image

area_spare : (header next : Header) (n : ℕ) → next.epoch ≡ header.epoch + 1 → next.format ≡ header.format → IsOfAreas next n → IsSpare header n
area_spare header next n epoch format (inl among) = inl (subst (λ (e : ℕ). IsAmong (snapshot_first e) snapshot_size n) epoch among)
area_spare header next n epoch format (inr tools) = inr (inr (sym format ∙ tools.0, subst (λ (e : ℕ). IsAmong (tools_first e) tools_size n) epoch tools.1))

area_tail : (header next : Header) (n : ℕ) → next.epoch ≡ header.epoch + 1 → IsOfAreas next n → IsSpare header n ⊎ IsInTail n
area_tail header next n epoch (inl among) = inl (inl (subst (λ (e : ℕ). IsAmong (snapshot_first e) snapshot_size n) epoch among))
area_tail header next n epoch (inr tools) = let from = tools.1.from in let to = tools.1.to in inr (record { from = omega arith; to = omega arith })

frames : (trace : Trace) (header next : Header) → IsOwnImage trace header → next.epoch ≡ header.epoch + 1
    → MayFollow next header (reads trace) → (image : Image)
    → ((n : ℕ) → IsOfAreas next n ⊎ (image n ≡ reads trace n)) → IsSameUnder header image (reads trace)
frames trace header next at epoch (inl format) image same =
    let spare : SameButSpare header image (reads trace) =
    record {
      each = λ n. ⊎_elim (λ a. inl (area_spare header next n epoch format a)) (λ e. inr e) (same n);
      large = same_size next image (reads trace) same;
    } in
    record {
      force = force-frame header image (reads trace) spare ∙ at.force;
      state = stands-frame header image (reads trace) at.force spare;
      written = written-frame header image (reads trace) spare at.written;
    }
frames trace header next at epoch (inr empty) image same =
    let tail : SameButTail header image (reads trace) =
    record {
      each = λ n. ⊎_elim (λ a. ⊎_elim (λ s. inl s) (λ t. inr (inl t)) (area_tail header next n epoch a))
          (λ e. inr (inr e)) (same n);
      large = same_size next image (reads trace) same;
    } in
    record {
      force = tail-force header image (reads trace) at.force tail;
      state = tail-stands header image (reads trace) at.force tail empty.0 empty.1;
      written = tail-written header image (reads trace) at.force tail at.written;
    }

-- ---- the areas written

-- if that is so, and a header is to be written
pub record Begins (old : Trace) (header next : Header) : Type 0 where
  pub at : IsOwnImage old header
  pub epoch : next.epoch ≡ header.epoch + 1
  pub follows : MayFollow next header (reads old)

-- an image with writes to the areas alone stands for the old state
same_under : (old : Trace) (header next : Header) → Begins old header next → (image : Image) (handed : List Item)
    → IsMixOf old (In next) image handed → IsSameUnder header image (reads old)
same_under old header next b image handed p = frames old header next b.at b.epoch b.follows image
    (λ n. ⊎_elim (λ may. inr (b.at.synced.one n (image n) may)) (λ areas. inl areas) (p.each n))

blend_is_old : (old : Trace) (header next : Header) (target : DurableState) → Begins old header next
    → (image : Image) (handed : List Item) → IsMixOf old (In next) image handed
    → P old header next target image handed
blend_is_old old header next target b image handed p =
    let same = same_under old header next b image handed p in
    record { state = inl (same.force, same.state); written = same.written; handed_is = p.handed_is }

after_areas : (old mid : Trace) (header next : Header) (target : DurableState) → Begins old header next
    → WritesOnly (In next) old mid → IsContinuation old mid (P old header next target)
after_areas old mid header next target b w = weaker old mid (IsMixOf old (In next)) (P old header next target) w.stops (blend_is_old old header next target b)

-- the areas hold the stored state, and a header is to be written
pub record Ready (old mid : Trace) (header new : Header) (saved : StoredModel) (bytes : List ℕ) : Type 0 where
  pub begins : Begins old header new
  pub writes : WritesOnly (In new) old mid
  pub parts : (j : ℕ) → j < snapshot_size → HoldsPart saved j (reads mid (snapshot_first new.epoch + j))
  pub tools : new.format ≡ Two → (j : ℕ) → j < tools_size → HoldsToolPart saved j (reads mid (tools_first new.epoch + j))
  pub table : length saved.setup.params ≡ parameter_count
  pub lengths : IsStorableTools saved.tools
  pub none : new.format ≡ One → saved.tools ≡ []
  pub bytes_are : (large : Bool) → IsValidHeader large new → header_in large (new.epoch % 2) bytes ≡ Some new
  pub fits : FitsDevice (reads old) new saved
  pub long : new.length ≡ saved.length

abbrev target_of : Trace → Header → StoredModel → DurableState
target_of old new saved = beside saved new.area (reads old)

-- outside the areas a read returns what it did before
outside : (old mid : Trace) (header next : Header) → IsOwnImage old header → WritesOnly (In next) old mid → (n : ℕ)
    → (IsOfAreas next n → ⊥) → reads mid n ≡ reads old n
outside old mid header next at w n out = ⊎_elim (λ may. at.synced.one n (reads mid n) may)
    (λ areas. absurd (out areas)) ((reads_blend (In next) old mid w).each n)

-- an image with the new header
new_image : (old mid : Trace) (header new : Header) (saved : StoredModel) (bytes : List ℕ)
    → Ready old mid header new saved bytes → (image : Image) → image (new.epoch % 2) ≡ bytes
    → ((n : ℕ) → n ≢ new.epoch % 2 → image n ≡ reads mid n) → BeginsIn image new (target_of old new saved)
new_image old mid header new saved bytes r image there others =
    let b = r.begins in
    let out = outside old mid header new b.at r.writes in
    let base : in_force (reads mid) ≡ Some header = (same_under old header new b (reads mid) (items mid) (reads_blend (In new) old mid r.writes)).force in
    let size_of : (x y : Image) → x 5805 ≡ y 5805 → is_large x ≡ is_large y = λ x y e. ap (λ (s : List ℕ). nat_lt 0 (length s)) e in
    let same_mid : is_large (reads mid) ≡ is_large (reads old) = size_of (reads mid) (reads old) (out 5805 (not_areas new 5805 (inr (inr (omega arith))))) in
    let same_now : is_large image ≡ is_large (reads mid) = size_of image (reads mid) (others 5805 (λ e. omega (arith, e))) in
    let valid : IsValidHeader (is_large (reads mid)) new = subst (λ (large : Bool). IsValidHeader large new) (sym same_mid) r.fits.valid in
    let force : in_force image ≡ Some new = force-next image (reads mid) header new same_now base b.epoch
    (ap (header_in (is_large (reads mid)) (new.epoch % 2)) there ∙ r.bytes_are (is_large (reads mid)) valid)
    (λ k lt ne. others k ne) in
    let log : (m : ℕ) → m < shortest_log → image (log_first + m) ≡ reads old (log_first + m) = λ m lt.
    others (log_first + m) (λ e. omega (arith, e))
    ∙ out (log_first + m) (not_areas new (log_first + m) (inr (inl (omega arith, omega arith)))) in
    let row : (j : ℕ) → j < snapshot_size → stretch (snapshot_first new.epoch) snapshot_size image j ≡ reads mid
    (snapshot_first new.epoch + j) = λ j lt. stretch-at (snapshot_first new.epoch) snapshot_size image j lt
    ∙ others (snapshot_first new.epoch + j) (λ e. omega (arith, e)) in
    let parts : (j : ℕ) → j < snapshot_size
    → HoldsPart saved j (stretch (snapshot_first new.epoch) snapshot_size image j) = λ j lt.
    subst (HoldsPart saved j) (sym (row j lt)) (r.parts j lt) in
    let tools : new.format ≡ Two → (j : ℕ) → j < tools_size
    → HoldsToolPart saved j (stretch (tools_first new.epoch) tools_size image j) = λ two j lt.
    subst (HoldsToolPart saved j)
    (sym (stretch-at (tools_first new.epoch) tools_size image j lt
    ∙ others (tools_first new.epoch + j) (λ e. omega (arith, e)))) (r.tools two j lt) in
    let table = tools-new new.format saved (stretch (snapshot_first new.epoch) snapshot_size image 0)
    (stretch (tools_first new.epoch) tools_size image) ((parts 0 (omega arith)).slots refl) r.lengths.few
    r.lengths.each r.none tools in
    let snap = snapshot-new new.format saved (stretch (snapshot_first new.epoch) snapshot_size image)
    (stretch (tools_first new.epoch) tools_size image) r.table parts table in
    let most : new.area ≤ 3 = omega (arith, r.fits.valid.area, area-most (is_large (reads old))) in
    let text = stretch-same (program_first new.area) (program_size new.area) image (reads old) (λ j lt.
    let apart : (program_first new.area + j ≢ new.epoch % 2) × (IsOfAreas new (program_first new.area + j) → ⊥) = elim (area-where new.area j most lt) [
      | inl w ↦ ((λ e. omega (arith, e, w.0)), not_areas new (program_first new.area + j) (inr (inl (w.0, omega (arith, w.1)))))
      | inr w ↦ ((λ e. omega (arith, e, w.0)), not_areas new (program_first new.area + j) (inr (inr w.0)))
    ] in
    others (program_first new.area + j) apart.0 ∙ out (program_first new.area + j) apart.1) in
    record {
      force = force;
      written = written-new image (reads old) header new b.at.force force (omega (arith, b.epoch)) b.at.written log;
      clean = λ m lt is. omega (arith, none-of-new (reads old) header b.at.force b.at.written m lt, b.epoch, is, ap (number_at 8 0) (log m lt));
      snapshot_is = (λ i. snapshot new.format (r.long i) (stretch (snapshot_first new.epoch) snapshot_size image)
          (stretch (tools_first new.epoch) tools_size image)) ∙ snap;
      program = λ i. program_text (r.long i) (text i);
      long = sym r.long;
      program_limit = r.fits.program_limit ∙ ap program_limit_of (sym (same_now ∙ same_mid));
    }

-- a stop with the header unsynced
header_stop : (old mid : Trace) (header new : Header) (saved : StoredModel) (bytes : List ℕ)
    → Ready old mid header new saved bytes → (image : Image) (handed : List Item)
    → ((n : ℕ) → ((n ≡ new.epoch % 2) × (image n ≡ bytes)) ⊎ (image n ≡ reads mid n)) → handed ≡ items mid
    → P old header new (target_of old new saved) image handed
header_stop old mid header new saved bytes r image handed each given =
    let h = new.epoch % 2 in
    let others : (n : ℕ) → n ≢ h → image n ≡ reads mid n = λ n ne. ⊎_elim (λ w. absurd (ne w.0)) (λ e. e) (each n) in
    ⊎_elim
    (λ w. let is = new_image old mid header new saved bytes r image w.1 others in record {
      state = inr (is.force, begins-stand image new (target_of old new saved) is);
      written = is.written;
      handed_is = given ∙ r.writes.items_are;
    })
    (λ e.
    let all : (n : ℕ) → image n ≡ reads mid n = λ n. elim (cases_eq n h) [
      | inl same ↦ subst (λ (k : ℕ). image k ≡ reads mid k) (sym same) e
      | inr other ↦ others n other
    ] in
    let blend = reads_blend (In new) old mid r.writes in
    blend_is_old old header new (target_of old new saved) r.begins image handed (record {
      each = λ n. ⊎_elim (λ may. inl (subst (λ (c : List ℕ). MayHold old n c) (sym (all n)) may)) (λ areas. inr areas) (blend.each n);
      handed_is = given ∙ r.writes.items_are;
    }))
    (each h)

after_header : {T E : Type 0} (result : Result T E) (old mid last : Trace) (header new : Header)
    (saved : StoredModel) (bytes : List ℕ) → Ready old mid header new saved bytes
    → WriteSpec result (new.epoch % 2) bytes (Synced mid) last
    → IsContinuation (Synced mid) last (P old header new (target_of old new saved))
after_header (Ok _) old mid last header new saved bytes r is =
    subst (λ (l : Trace). IsContinuation (Synced mid) l (P old header new (target_of old new saved))) (sym is)
    (on_write (Synced mid) (new.epoch % 2) bytes (P old header new (target_of old new saved))
    (λ image handed s. header_stop old mid header new saved bytes r image handed s.0 s.1))
after_header (Err _) old mid last header new saved bytes r (inl none) =
    subst (λ (l : Trace). IsContinuation (Synced mid) l (P old header new (target_of old new saved))) (sym none)
    (stays (Synced mid) (P old header new (target_of old new saved)))
after_header (Err _) old mid last header new saved bytes r (inr (inl is)) =
    subst (λ (l : Trace). IsContinuation (Synced mid) l (P old header new (target_of old new saved))) (sym is)
    (on_write (Synced mid) (new.epoch % 2) bytes (P old header new (target_of old new saved))
    (λ image handed s. header_stop old mid header new saved bytes r image handed s.0 s.1))
after_header (Err _) old mid last header new saved bytes r (inr (inr is)) =
    subst (λ (l : Trace). IsContinuation (Synced mid) l (P old header new (target_of old new saved))) (sym is)
    (on_perhaps (Synced mid) (new.epoch % 2) bytes (P old header new (target_of old new saved))
    (λ image handed s. header_stop old mid header new saved bytes r image handed s.0 s.1))

header_reads : (mid : Trace) (h n : ℕ) (bytes : List ℕ) → ((n ≡ h) × (reads (Wrote h bytes (Synced mid)) n ≡ bytes))
    ⊎ (n ≢ h × (reads (Wrote h bytes (Synced mid)) n ≡ reads mid n))
header_reads mid h n bytes = elim (cases_eq n h) [
  | inl same ↦ let e : (if n == h then bytes else reads mid n) ≡ bytes = grind (arith, nat_tests) in inl (same, e)
  | inr other ↦ let e : (if n == h then bytes else reads mid n) ≡ reads mid n = grind (arith, nat_tests) in inr (other, e)
]

-- and when everything is synced
after_all : (old mid : Trace) (header new : Header) (saved : StoredModel) (bytes : List ℕ)
    → Ready old mid header new saved bytes → BeginsIn (reads (Wrote (new.epoch % 2) bytes (Synced mid))) new
    (target_of old new saved)
after_all old mid header new saved bytes r =
    let h = new.epoch % 2 in
    new_image old mid header new saved bytes r (reads (Wrote h bytes (Synced mid)))
    (⊎_elim (λ same. same.1) (λ other. absurd (other.0 refl)) (header_reads mid h h bytes))
    (λ n ne. ⊎_elim (λ same. absurd (ne same.0)) (λ other. other.1) (header_reads mid h n bytes))

-- ---- the exits

in_areas : {T E : Type 0} (result : Result T E) (next : Header) (saved : StoredModel) (old mid : Trace)
    → WritesAreas result next saved old mid → WritesOnly (In next) old mid
in_areas result next saved old mid w = only_wider (λ n c. BelongsToAreas next saved n c) (In next) old mid (λ n c own. of_areas next saved n c own) w.writes

pub exit_areas : {T E F : Type 0} (e : E) (result : Result T F) (old mid : Trace) (header next : Header)
    (saved : StoredModel) → Begins old header next → WritesAreas result next saved old mid
    → CheckpointSpec {T = T} (Err e) header next saved old mid
exit_areas e result old mid header next saved b w = record {
  stops = after_areas old mid header next (beside saved next.area (reads old)) b (in_areas result next saved old mid w);
  items_are = w.writes.items_are;
  at = tt;
}

pub exit_sync : {T E F : Type 0} (e : E) (result : Result T F) (old mid last : Trace) (header next : Header)
    (saved : StoredModel) → Begins old header next → WritesAreas result next saved old mid → last ≡ mid
    → CheckpointSpec {T = T} (Err e) header next saved old last
exit_sync {T = T} e result old mid last header next saved b w same =
    subst (λ (l : Trace). CheckpointSpec {T = T} (Err e) header next saved old l) (sym same)
    (exit_areas e result old mid header next saved b w)

pub ready : {T E : Type 0} (v : T) (old mid : Trace) (header new : Header) (saved : StoredModel) (bytes : List ℕ)
    → Begins old header new → WritesAreas {E = E} (Ok v) new saved old mid
    → length saved.setup.params ≡ parameter_count → IsStorableTools saved.tools
    → (new.format ≡ One → saved.tools ≡ [])
    → ((large : Bool) → IsValidHeader large new → header_in large (new.epoch % 2) bytes ≡ Some new)
    → FitsDevice (reads old) new saved → new.length ≡ saved.length → Ready old mid header new saved bytes
ready {E = E} v old mid header new saved bytes b w table lengths none bytes_are fits long =
    let ok : Result _ E = Ok v in
    record {
      begins = b;
      writes = in_areas ok new saved old mid w;
      parts = w.parts;
      tools = w.tools;
      table = table;
      lengths = lengths;
      none = none;
      bytes_are = bytes_are;
      fits = fits;
      long = long;
    }

to_sync : (old mid synced : Trace) (header new : Header) (saved : StoredModel) (bytes : List ℕ)
    → Ready old mid header new saved bytes → synced ≡ Synced mid
    → IsContinuation old synced (P old header new (target_of old new saved))
to_sync old mid synced header new saved bytes r is =
    let target = target_of old new saved in
    subst (λ (l : Trace). IsContinuation old l (P old header new target)) (sym is)
    (weaker old (Synced mid) (IsMixOf old (In new)) (P old header new target)
    (only_sync (In new) old mid r.writes) (blend_is_old old header new target r.begins))

write_items : {T E : Type 0} (result : Result T E) (n : ℕ) (bytes : List ℕ) (old last : Trace) → WriteSpec result n bytes old last → items last ≡ items old
write_items (Ok _) n bytes old last is = ap items is
write_items (Err _) n bytes old last (inl is) = ap items is
write_items (Err _) n bytes old last (inr (inl is)) = ap items is
write_items (Err _) n bytes old last (inr (inr is)) = ap items is

pub exit_header : {T E F : Type 0} (e : E) (result : Result T F) (old mid synced last : Trace) (header new : Header)
    (saved : StoredModel) (bytes : List ℕ) → Ready old mid header new saved bytes → synced ≡ Synced mid
    → WriteSpec result (new.epoch % 2) bytes synced last → CheckpointSpec {T = T} (Err e) header new saved old last
exit_header e result old mid synced last header new saved bytes r is w =
    let w' = subst (λ (l : Trace). WriteSpec result (new.epoch % 2) bytes l last) is w in
    record {
      stops = joined old (Synced mid) last (P old header new (target_of old new saved))
          (to_sync old mid (Synced mid) header new saved bytes r refl)
          (after_header result old mid last header new saved bytes r w');
      items_are = write_items result (new.epoch % 2) bytes (Synced mid) last w' ∙ r.writes.items_are;
      at = tt;
    }

pub finished : {T E : Type 0} (result : Result T E) (old mid synced wrote last : Trace) (header new : Header)
    (saved : StoredModel) (bytes : List ℕ) → Ready old mid header new saved bytes → synced ≡ Synced mid
    → wrote ≡ Wrote (new.epoch % 2) bytes synced → SyncSpec result wrote last
    → CheckpointSpec result header new saved old last
finished {T = T} {E = E} result old mid synced wrote last header new saved bytes r is is_written done =
    go result last (subst (λ (l : Trace). SyncSpec result l last) whole done)
  where
    target : DurableState
    target = target_of old new saved

    whole : wrote ≡ Wrote (new.epoch % 2) bytes (Synced mid)
    whole = is_written ∙ ap (λ (l : Trace). Wrote (new.epoch % 2) bytes l) is

    upto : IsContinuation old (Wrote (new.epoch % 2) bytes (Synced mid)) (P old header new (target_of old new saved))
    upto = let ok : Result ℕ ℕ = Ok 0 in joined old (Synced mid) (Wrote (new.epoch % 2) bytes (Synced mid))
        (P old header new (target_of old new saved)) (to_sync old mid (Synced mid) header new saved bytes r refl)
        (after_header ok old mid (Wrote (new.epoch % 2) bytes (Synced mid)) header new saved bytes r refl)

    go : (result : Result T E) (last : Trace) → SyncSpec result (Wrote (new.epoch % 2) bytes (Synced mid)) last
        → CheckpointSpec result header new saved old last
    go (Err e) last same =
        record {
          stops = subst (λ (l : Trace). IsContinuation old l (P old header new (target_of old new saved)))
              (sym same) upto;
          items_are = ap items same ∙ r.writes.items_are;
          at = tt;
        }
    go (Ok v) last same =
        record {
          stops = subst (λ (l : Trace). IsContinuation old l (P old header new (target_of old new saved)))
              (sym same) (joined old (Wrote (new.epoch % 2) bytes (Synced mid))
              (Synced (Wrote (new.epoch % 2) bytes (Synced mid))) (P old header new (target_of old new saved)) upto
              (on_sync (Wrote (new.epoch % 2) bytes (Synced mid)) (P old header new (target_of old new saved))
              (λ image handed s. header_stop old mid header new saved bytes r image handed
              (λ n. ⊎_elim (λ x. inl (x.0, s.0 n ∙ x.1)) (λ x. inr (s.0 n ∙ x.1))
              (header_reads mid (new.epoch % 2) n bytes)) s.1)));
          items_are = ap items same ∙ r.writes.items_are;
          at = record {
            synced = subst IsSynced (sym same) (is_synced (Wrote (new.epoch % 2) bytes (Synced mid)));
            image = subst (λ (l : Trace). BeginsIn (reads l) new (target_of old new saved)) (sym same) (after_all old mid header new saved bytes r);
          };
        }
