-- A load: the program's text is written to the area that isn't in force; then a sync, and a checkpoint whose header
-- names that area.
use Rattle.std.proofs.Common.{◌≡◌, ◌≢◌, inl, inr, ⊎_elim, ℕ, zero, suc, ◌+◌, ◌*◌, ◌<◌, ◌≤◌, nat_lt, Bool, true}
use Rattle.std.proofs.Common.{false, List, Result, Ok, Err, length, sym, ◌∙◌, refl, ap, subst, arith}
use Rattle.std.proofs.lemmas.Bool.Decides.{nat_tests}
use Rattle.std.specs.Prelude.{OnOk}
use Rattle.ng_canon.specs.declared.item.Item.{Item}
use Rattle.ng_rig.specs.Trace.{Image, Trace, Synced, reads, items}
use Rattle.ng_rig.specs.Continuation.{IsContinuation}
use Rattle.ng_rig.specs.Only.{IsMixOf, WritesOnly}
use Rattle.ng_rig.proofs.ContinuationLemmas.{joined, weaker, is_synced}
use Rattle.ng_rig.proofs.WritesOnlyLemmas.{reads_blend, only_sync}
use Rattle.ng_layout.specs.declared.header.Header.{Header}
use Rattle.ng_layout.specs.Sectors.{program_text, HoldsText}
use Rattle.ng_layout.specs.Spare.{IsAmong}
use Rattle.ng_layout.proofs.SpareLemmas.{SameButSpare}
use Rattle.ng_layout.specs.Areas.{greatest_area, program_first, program_size}
use Rattle.ng_layout.specs.Header.{longest_in, program_limit_of, IsValidHeader}
use Rattle.ng_layout.specs.Stands.{is_large, stretch, stands}
use Rattle.ng_layout.specs.Stored.{StoredModel, DurableState}
use Rattle.ng_layout.proofs.ImageLemmas.{area-most, stretch-at, force-frame, stands-frame, written-frame}
use Rattle.ng_layout.proofs.SnapshotLemmas.{text-whole}
use Rattle.ng_log.specs.AtEnd.{no_records, IsAtEnd}
use Rattle.ng_journal.specs.Private.CheckpointSteps.{FitsDevice, IsOwnImage, IsBegun, IsEitherUnder, beside, CheckpointSpec}
use Rattle.ng_layout.specs.declared.header.Format.TheVariants.{Two}
use Rattle.ng_journal.proofs.SnapshotAloneLemmas.{begun-end}
use Rattle.ng_journal.specs.AtRest.{IsEither, next_header}
use Rattle.ng_journal.specs.Private.LoadSteps.{WritesText, LoadSpec}
use Rattle.ng_journal.proofs.WrittenSectorLemmas.{IsInArea, among_text}

abbrev In : ℕ → ℕ → List ℕ → Type 0
In area n c = IsInArea area n c

-- an area that a device with this image has, and that isn't in force
pub record IsFree (old : Trace) (header : Header) (area : ℕ) : Type 0 where
  pub apart : area ≢ header.area
  pub has : area ≤ greatest_area (is_large (reads old))

pub free_in : {old : Trace} (area : ℕ) (header : Header) (saved : StoredModel) → area ≢ header.area
    → FitsDevice (reads old) (next_header header area saved.length) saved → IsFree old header area
free_in area header saved apart fits = record { apart = apart; has = fits.valid.area }

-- only on a large device does a program area contain the last sector
has_last : (large : Bool) (area : ℕ) → area ≤ greatest_area large → IsAmong (program_first area) (program_size area) 5805 → large ≡ true
has_last true area has among = refl
has_last false zero has among = absurd (omega (arith, among.to))
has_last false (suc zero) has among = absurd (omega (arith, among.to))
has_last false (suc (suc n)) has among = absurd (omega arith)

-- a write to it leaves the device as large as before
same_size : (old : Trace) (header : Header) (area : ℕ) → IsOwnImage old header → IsFree old header area
    → (image : Image) (handed : List Item) → IsMixOf old (In area) image handed
    → is_large image ≡ is_large (reads old)
same_size old header area at free image handed p = ⊎_elim
    (λ may. ap (λ (s : List ℕ). nat_lt 0 (length s)) (at.synced.one 5805 (image 5805) may))
    (λ here. let some = here.1 in let now : nat_lt 0 (length (image 5805)) ≡ true = grind (arith, nat_tests) in now
    ∙ sym (has_last (is_large (reads old)) area free.has here.0))
    (p.each 5805)

abbrev P : Trace → DurableState → Image → List Item → Type 0
P old loaded = IsEither (stands (reads old)) (Ok loaded) (items old)

-- an image of writes to that area alone
same_but_spare : (old : Trace) (header : Header) (area : ℕ) → IsOwnImage old header → IsFree old header area
    → (image : Image) (handed : List Item) → IsMixOf old (In area) image handed
    → SameButSpare header image (reads old)
same_but_spare old header area at free image handed p =
    let most : area ≤ 3 = omega (arith, free.has, area-most (is_large (reads old))) in
    record {
      each = λ n. ⊎_elim (λ may. inr (at.synced.one n (image n) may))
          (λ here. inl (inr (inl (record { other = area; most = most; apart = free.apart; among = here.0 }))))
          (p.each n);
      large = same_size old header area at free image handed p;
    }

blend_is_old : (old : Trace) (header : Header) (area : ℕ) (loaded : DurableState) → header.format ≡ Two
    → IsOwnImage old header → IsFree old header area → (image : Image) (handed : List Item)
    → IsMixOf old (In area) image handed → P old loaded image handed
blend_is_old old header area loaded two at free image handed p =
    let same = same_but_spare old header area at free image handed p in
    record {
      state = inl (stands-frame header image (reads old) at.force same);
      modern = record { header = header; force = force-frame header image (reads old) same ∙ at.force; format = two };
      written = written-frame header image (reads old) same at.written;
      handed_is = p.handed_is;
    }

after_text : (old mid : Trace) (header : Header) (area : ℕ) (loaded : DurableState) → header.format ≡ Two
    → IsOwnImage old header → IsFree old header area → WritesOnly (In area) old mid
    → IsContinuation old mid (P old loaded)
after_text old mid header area loaded two at free w = weaker old mid (IsMixOf old (In area)) (P old loaded) w.stops
    (blend_is_old old header area loaded two at free)

at_sync : (old mid : Trace) (header : Header) (area : ℕ) (loaded : DurableState) → header.format ≡ Two
    → IsOwnImage old header → IsFree old header area → WritesOnly (In area) old mid
    → IsContinuation old (Synced mid) (P old loaded)
at_sync old mid header area loaded two at free w = weaker old (Synced mid) (IsMixOf old (In area)) (P old loaded)
    (only_sync (In area) old mid w) (blend_is_old old header area loaded two at free)

same_reads : (old mid : Trace) (header : Header) (area : ℕ) → IsOwnImage old header → IsFree old header area
    → WritesOnly (In area) old mid → SameButSpare header (reads mid) (reads old)
same_reads old mid header area at free w = same_but_spare old header area at free (reads mid) (items mid) (reads_blend (In area) old mid w)

-- the device is at rest again, under the same header
pub own_again : (old mid synced : Trace) (area : ℕ) (header : Header) → IsOwnImage old header
    → IsFree old header area → WritesOnly (In area) old mid → synced ≡ Synced mid → IsOwnImage synced header
own_again old mid synced area header at free w is =
    let same = same_reads old mid header area at free w in
    subst (λ (l : Trace). IsOwnImage l header) (sym is) (record {
      synced = is_synced mid;
      force = force-frame header (reads mid) (reads old) same ∙ at.force;
      written = written-frame header (reads mid) (reads old) same at.written;
    })

-- and as large as before
pub fits_again : (old mid synced : Trace) (area : ℕ) (header next : Header) (saved : StoredModel)
    → IsOwnImage old header → IsFree old header area → WritesOnly (In area) old mid → synced ≡ Synced mid
    → next ≡ next_header header area saved.length → FitsDevice (reads old) (next_header header area saved.length)
    saved → FitsDevice (reads synced) next saved
fits_again old mid synced area header next saved at free w is next_is fits =
    let large : is_large (reads synced) ≡ is_large (reads old) = ap (λ (l : Trace). is_large (reads l)) is ∙ (same_reads old mid header area at free w).large in
    record {
      valid = subst (λ (b : Bool). IsValidHeader b next) (sym large)
          (subst (λ (h : Header). IsValidHeader (is_large (reads old)) h) (sym next_is) fits.valid);
      program_limit =
          fits.program_limit ∙ ap program_limit_of (sym large);
    }

-- the text is in that area
pub text_is : (area : ℕ) (text : List ℕ) (image : Image) → length text ≤ longest_in area
    → ((j : ℕ) → 512 * j < length text → HoldsText text (512 * j) (image (program_first area + j)))
    → program_text (length text) (stretch (program_first area) (program_size area) image) ≡ text
text_is area text image short parts = text-whole text (stretch (program_first area) (program_size area) image)
    (λ j lt. subst (HoldsText text (512 * j))
    (sym (stretch-at (program_first area) (program_size area) image j (omega arith))) (parts j lt))

beside_is : (saved : StoredModel) (area : ℕ) (text : List ℕ) (image : Image) → saved.length ≡ length text
    → length text ≤ longest_in area
    → ((j : ℕ) → 512 * j < length text → HoldsText text (512 * j) (image (program_first area + j)))
    → beside saved area image ≡ record { saved = saved; program = text }
beside_is saved area text image long short parts = λ i.
    record {
      saved = saved;
      program =
          (ap (λ (n : ℕ). program_text n (stretch (program_first area) (program_size area) image)) long
          ∙ text_is area text image short parts) i;
    }

-- The exits.
pub exit_text : {T E F : Type 0} (e : E) (result : Result T F) (old mid : Trace) (area : ℕ) (header : Header)
    (loaded : DurableState) (text : List ℕ) → header.format ≡ Two → IsOwnImage old header → IsFree old header area
    → WritesText result area text old mid → LoadSpec {T = T} (Err e) area header loaded old mid
exit_text e result old mid area header loaded text two at free w =
    record { stops = after_text old mid header area loaded two at free (among_text area text old mid w.writes); items_are = w.writes.items_are; at = tt }

pub exit_sync : {T E F : Type 0} (e : E) (result : Result T F) (old mid last : Trace) (area : ℕ) (header : Header)
    (loaded : DurableState) (text : List ℕ) → header.format ≡ Two → IsOwnImage old header → IsFree old header area
    → WritesText result area text old mid → last ≡ mid → LoadSpec {T = T} (Err e) area header loaded old last
exit_sync {T = T} e result old mid last area header loaded text two at free w same =
    subst (λ (l : Trace). LoadSpec {T = T} (Err e) area header loaded old l) (sym same)
    (exit_text e result old mid area header loaded text two at free w)

pub loaded_all : {T E U F : Type 0} (result : Result T E) (u : U) (old mid synced last : Trace) (area : ℕ)
    (header next : Header) (saved : StoredModel) (text : List ℕ) → IsOwnImage old header → IsFree old header area
    → saved.length ≡ length text → length text ≤ longest_in area
    → WritesText {E = F} (Ok u) area text old mid → synced ≡ Synced mid
    → next ≡ next_header header area saved.length → header.format ≡ Two
    → CheckpointSpec result header next saved synced last
    → LoadSpec result area header (record { saved = saved; program = text }) old last
loaded_all {T = T} {E = E} {F = F} result u old mid synced last area header next saved text at free long short w is next_is two c_next =
    record {
      stops = joined old synced last (P old loaded)
          (subst (λ (l : Trace). IsContinuation old l (P old loaded)) (sym is)
          (at_sync old mid header area loaded two at free only))
          (weaker synced last (IsEitherUnder header (next_header header area saved.length) (stands (reads synced))
          (Ok (beside saved area (reads synced))) (items synced)) (P old loaded) c.stops
          (λ image handed p. record {
            modern = ⊎_elim (λ b. record { header = header; force = b.0; format = two })
                (λ a. record { header = next_header header area saved.length; force = a.0; format = two }) p.state;
            state = ⊎_elim (λ b. inl (b.1 ∙ before)) (λ a. inr (a.1 ∙ ap (λ (s : DurableState). Ok s) made)) p.state;
            written = p.written;
            handed_is = p.handed_is ∙ same_items;
          }));
      items_are = c.items_are ∙ same_items;
      at = go result c.at;
    }
  where
    c : CheckpointSpec result header (next_header header area saved.length) saved synced last
    c = subst (λ (h : Header). CheckpointSpec result header h saved synced last) next_is c_next

    loaded : DurableState
    loaded = record { saved = saved; program = text }

    only : WritesOnly (In area) old mid
    only = among_text area text old mid w.writes

    same_items : items synced ≡ items old
    same_items = ap items is ∙ w.writes.items_are

    before : stands (reads synced) ≡ stands (reads old)
    before = ap (λ (l : Trace). stands (reads l)) is ∙ stands-frame header (reads mid) (reads old) at.force (same_reads old mid header area at free only)

    made : beside saved area (reads synced) ≡ loaded
    made = ap (λ (l : Trace). beside saved area (reads l)) is ∙ beside_is saved area text (reads mid) long short w.parts

    go : (result : Result T E)
        → OnOk result (IsBegun last (next_header header area saved.length) (beside saved area (reads synced)))
        → OnOk result (IsAtEnd last (next_header header area saved.length) loaded no_records)
    go (Err e) at = tt
    go (Ok v) at = subst (λ (s : DurableState). IsAtEnd last (next_header header area saved.length) s no_records)
        made (begun-end last (next_header header area saved.length) (beside saved area (reads synced)) two at)
