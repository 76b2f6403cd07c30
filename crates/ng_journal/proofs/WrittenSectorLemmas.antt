-- What each call writes, and where: a checkpoint writes the stored state under the next epoch, a load also the text,
-- and a format a fresh controller among zeros.
use Rattle.std.proofs.Common.{◌≡◌, ◌≢◌, ◌⊎◌, inl, inr, ⊎_elim, ℕ, ◌+◌, ◌-◌, ◌*◌, ◌%◌, ◌<◌, ◌≤◌, List, [], ℤ, length}
use Rattle.std.proofs.Common.{replicate, Result, Ok, Err, refl, sym, ◌∙◌, ap, subst, arith}
use Rattle.std.proofs.lemmas.Bool.Decides.{nat_tests}
use Rattle.std.specs.Prelude.{OnOk}
use Rattle.ng_rig.specs.Trace.{Trace, Wrote, Synced, reads}
use Rattle.ng_rig.specs.Calls.{WriteSpec, SyncSpec}
use Rattle.ng_rig.specs.Continuation.{IsSynced}
use Rattle.ng_rig.specs.Only.{WritesOnly}
use Rattle.ng_rig.proofs.ContinuationLemmas.{is_synced}
use Rattle.ng_rig.proofs.WritesOnlyLemmas.{only_more, only_write, only_syncs, only_wider, reads_blend}
use Rattle.ng_layout.specs.declared.header.Header.{Header}
use Rattle.ng_layout.specs.Header.{longest_in, HoldsHeader}
use Rattle.ng_layout.specs.Areas.{shortest_log, snapshot_first, snapshot_size, tools_first, tools_size, program_first, program_size, log_first}
use Rattle.ng_layout.specs.Sectors.{HoldsText}
use Rattle.ng_layout.proofs.ImageLemmas.{area-where}
use Rattle.ng_layout.proofs.SectorLemmas.{bytes-zeros}
use Rattle.ng_layout.specs.Snapshot.{HoldsPart, HoldsLengths, HoldsToolPart}
use Rattle.ng_layout.specs.declared.header.Format.TheVariants.{One, Two}
use Rattle.ng_layout.specs.Spare.{IsAmong}
use Rattle.ng_layout.specs.Stored.{StoredModel, DurableState}
use Rattle.ng_journal.specs.Area.{BelongsIn}
use Rattle.ng_journal.specs.Private.CheckpointSteps.{WritesAreas, WritesState, StoresState}
use Rattle.ng_journal.specs.AtRest.{IsOfAreas, IsOfEpoch, BelongsToAreas, BelongsTo, IsLaidOut, next_header}
use Rattle.ng_journal.specs.Formatting.{IsEmpty, first_header}
use Rattle.ng_journal.specs.Private.Overwrites.{Overwrites}
use Rattle.ng_journal.specs.Loads.{BelongsToText, BelongsToLoad, IsTextAt, WritesLoad}
use Rattle.ng_journal.specs.Private.LoadSteps.{WritesText}

-- what a read returns after a write
pub there : (n : ℕ) (bytes : List ℕ) (trace : Trace) → reads (Wrote n bytes trace) n ≡ bytes
there n bytes trace = grind (arith, nat_tests)

pub elsewhere : (m n : ℕ) (bytes : List ℕ) (trace : Trace) → m ≢ n → reads (Wrote n bytes trace) m ≡ reads trace m
elsewhere m n bytes trace other = grind (arith, nat_tests)

-- which sectors these are
pub among : (first size : ℕ) (IsRight : ℕ → List ℕ → Type 0) (old new : Trace)
    → WritesOnly (BelongsIn first size IsRight) old new → WritesOnly (λ n c. IsAmong first size n) old new
among first size IsRight old new w = only_wider (BelongsIn first size IsRight) (λ n c. IsAmong first size n) old new (λ n c b. in_stretch n c b) w
  where
    in_stretch : (n : ℕ) (c : List ℕ) → BelongsIn first size IsRight n c → IsAmong first size n
    in_stretch n c b = let is = b.is in let within = b.within in record { from = omega arith; to = omega arith }

-- a sector of a program area that holds something
abbrev pub IsInArea : ℕ → ℕ → List ℕ → Type 0
IsInArea area n c = IsAmong (program_first area) (program_size area) n × (0 < length c)

pub among_text : (area : ℕ) (text : List ℕ) (old new : Trace) → WritesOnly (λ n c. BelongsToText text area n c) old
    new → WritesOnly (λ n c. IsInArea area n c) old new
among_text area text old new w = only_wider (λ n c. BelongsToText text area n c) (λ n c. IsInArea area n c) old new (λ n c b. in_area n c b) w
  where
    in_area : (n : ℕ) (c : List ℕ) → BelongsToText text area n c → IsInArea area n c
    in_area n c b = let is = b.is in let within = b.within in let whole =
        b.right.whole in (record { from = omega arith; to = omega arith }, omega (arith, whole))

-- A checkpoint: the snapshot, a sync, the header, a sync.
abbrev May : Header → StoredModel → ℕ → List ℕ → Type 0
May header saved n bytes = BelongsTo header saved n bytes

abbrev MayAreas : Header → StoredModel → ℕ → List ℕ → Type 0
MayAreas header saved n bytes = BelongsToAreas header saved n bytes

-- the snapshot alone, in format 1 or if its write or a later one failed
area_only : {T E : Type 0} (result : Result T E) (first : ℕ) (header : Header) (saved : StoredModel)
    (old new : Trace) → first ≡ snapshot_first header.epoch → Overwrites result first snapshot_size (HoldsPart saved) old new
    → WritesOnly (MayAreas header saved) old new
area_only result first header saved old new is area =
    only_wider (BelongsIn first snapshot_size (HoldsPart saved)) (MayAreas header saved) old new
    (λ n c b. inl (subst (λ (k : ℕ). BelongsIn k snapshot_size (HoldsPart saved) n c) is b)) area.writes

pub areas_failed : {T E F : Type 0} (e : E) (result : Result T F) (first : ℕ) (header : Header)
    (saved : StoredModel) (old new : Trace) → first ≡ snapshot_first header.epoch
    → Overwrites result first snapshot_size (HoldsPart saved) old new → WritesAreas {T = T} (Err e) header saved old new
areas_failed e result first header saved old new is area = record { writes = area_only result first header saved old new is area; parts = tt; tools = tt }

pub areas_one : {T U E F : Type 0} (u : U) (v : T) (first : ℕ) (header : Header) (saved : StoredModel)
    (old new : Trace) → first ≡ snapshot_first header.epoch → header.format ≡ One
    → Overwrites {E = F} (Ok v) first snapshot_size (HoldsPart saved) old new → WritesAreas {E = E} (Ok u) header saved old new
areas_one {F = F} u v first header saved old new is one area =
    let ok : Result _ F = Ok v in
    record {
      writes = area_only ok first header saved old new is area;
      parts = λ j lt. subst (λ (k : ℕ). HoldsPart saved j (reads new (k + j))) is (area.parts j lt);
      tools = λ two j lt. absurd (let e : One ≡ Two = sym one ∙ two in cc);
    }

pub areas_two : {T U E F : Type 0} (result : Result T E) (u : U) (first at : ℕ) (header : Header)
    (saved : StoredModel) (old mid new : Trace) → first ≡ snapshot_first header.epoch
    → at ≡ tools_first header.epoch → header.format ≡ Two → Overwrites {E = F} (Ok u) first snapshot_size (HoldsPart saved) old mid
    → Overwrites result at tools_size (HoldsToolPart saved) mid new → WritesAreas result header saved old new
areas_two {T = T} {U = U} {E = E} {F = F} result u first at header saved old mid new is at_is two area tools =
    record {
      writes = only_more (MayAreas header saved) old mid new (area_only ok first header saved old mid is area) more;
      parts = go result;
      tools = go_on result tools.parts;
    }
  where
    ok : Result U F
    ok = Ok u

    more : WritesOnly (MayAreas header saved) mid new
    more = only_wider (BelongsIn at tools_size (HoldsToolPart saved)) (MayAreas header saved) mid new
        (λ n c b. inr (two, subst (λ (k : ℕ). BelongsIn k tools_size (HoldsToolPart saved) n c) at_is b))
        tools.writes

    stays_there : (n : ℕ) → n < 174 → reads new n ≡ reads mid n
    stays_there n lt = tools.outside n (λ a. let from = a.from in omega arith)

    go : (result : Result T E) → OnOk result ((j : ℕ) → j < snapshot_size → HoldsPart saved j (reads new (snapshot_first header.epoch + j)))
    go (Err e) = tt
    go (Ok v) = λ j lt. subst (HoldsPart saved j)
        (sym (stays_there (snapshot_first header.epoch + j) (omega arith)))
        (subst (λ (k : ℕ). HoldsPart saved j (reads mid (k + j))) is (area.parts j lt))

    go_on : (result : Result T E)
        → OnOk result ((j : ℕ) → j < tools_size → HoldsToolPart saved j (reads new (at + j)))
        → OnOk result (header.format ≡ Two → (j : ℕ) → j < tools_size
        → HoldsToolPart saved j (reads new (tools_first header.epoch + j)))
    go_on (Err e) parts = tt
    go_on (Ok v) parts = λ _ j lt. subst (λ (k : ℕ). HoldsToolPart saved j (reads new (k + j))) at_is (parts j lt)

pub state_areas : {T E : Type 0} (result : Result T E) (header : Header) (saved : StoredModel) (old new : Trace)
    → WritesAreas result header saved old new → WritesState header saved old new
state_areas result header saved old new areas = only_wider (MayAreas header saved) (May header saved) old new (λ n c b. inl b) areas.writes

pub state_sync : {T E : Type 0} (result : Result T E) (header : Header) (saved : StoredModel) (old mid new : Trace)
    → WritesState header saved old mid → SyncSpec result mid new → WritesState header saved old new
state_sync result header saved old mid new w is = only_syncs (May header saved) result old mid new w is

pub state_header : {T E : Type 0} (result : Result T E) (header : Header) (saved : StoredModel) (bytes : List ℕ)
    (old mid new : Trace) → HoldsHeader header bytes → WritesState header saved old mid
    → WriteSpec result (header.epoch % 2) bytes mid new → WritesState header saved old new
state_header result header saved bytes old mid new holds w is = only_more (May header saved) old mid new w
    (only_write (May header saved) result (header.epoch % 2) bytes mid new (inr (refl, holds)) is)

-- and then the snapshot is there
pub laid_out : (header : Header) (saved : StoredModel) (bytes : List ℕ) (mid : Trace)
    → ((j : ℕ) → j < snapshot_size → HoldsPart saved j (reads mid (snapshot_first header.epoch + j)))
    → (header.format ≡ Two → (j : ℕ) → j < tools_size
    → HoldsToolPart saved j (reads mid (tools_first header.epoch + j))) → HoldsHeader header bytes
    → IsLaidOut header saved (reads (Wrote (header.epoch % 2) bytes (Synced mid)))
laid_out header saved bytes mid parts tools holds n (inl (inr among)) =
    let first = tools_first header.epoch in
    let from = among.1.from in
    let to = among.1.to in
    let at : n ≡ tools_first header.epoch + (n - tools_first header.epoch) = omega arith in
    let same : reads (Wrote (header.epoch % 2) bytes (Synced mid)) n ≡ reads mid n = elsewhere n (header.epoch % 2) bytes (Synced mid) (λ e. omega arith) in
    inl (inr (
      among.0,
      record {
        place = n - first;
        within = omega arith;
        is = at;
        right =
            subst (HoldsToolPart saved (n - first)) (sym (same ∙ ap (reads mid) at))
            (tools among.0 (n - first) (omega arith));
      },
    ))
laid_out header saved bytes mid parts tools holds n (inl (inl among)) =
    let first = snapshot_first header.epoch in
    let from = among.from in
    let to = among.to in
    let at : n ≡ snapshot_first header.epoch + (n - snapshot_first header.epoch) = omega arith in
    let same : reads (Wrote (header.epoch % 2) bytes (Synced mid)) n ≡ reads mid n = elsewhere n (header.epoch % 2) bytes (Synced mid) (λ e. omega arith) in
    inl (inl (record {
      place = n - first;
      within = omega arith;
      is = at;
      right = subst (HoldsPart saved (n - first))
          (sym (same ∙ ap (reads mid) at)) (parts (n - first) (omega arith));
    }))
laid_out header saved bytes mid parts tools holds n (inr is) =
    inr (
      is,
      subst (HoldsHeader header)
          (sym (ap (reads (Wrote (header.epoch % 2) bytes (Synced mid))) is
          ∙ there (header.epoch % 2) bytes (Synced mid))) holds,
    )

pub state_laid : {T E U F : Type 0} (result : Result T E) (u : U) (header : Header) (saved : StoredModel)
    (bytes : List ℕ) (old mid synced wrote new : Trace) → WritesAreas {E = F} (Ok u) header saved old mid
    → HoldsHeader header bytes → synced ≡ Synced mid → wrote ≡ Wrote (header.epoch % 2) bytes synced
    → SyncSpec result wrote new → OnOk result (IsLaidOut header saved (reads new))
state_laid (Err _) u header saved bytes old mid synced wrote new areas holds is_synced is_wrote done = tt
state_laid (Ok _) u header saved bytes old mid synced wrote new areas holds is_synced is_wrote done =
    let whole : new ≡ Synced (Wrote (header.epoch % 2) bytes (Synced mid)) = done
    ∙ ap (λ (l : Trace). Synced l)
    (is_wrote ∙ ap (λ (l : Trace). Wrote (header.epoch % 2) bytes l) is_synced) in
    subst (λ (l : Trace). IsLaidOut header saved (reads l)) (sym whole) (laid_out header saved bytes mid areas.parts areas.tools holds)

pub synced_by : {T E : Type 0} (result : Result T E) (old new : Trace) → SyncSpec result old new → OnOk result (IsSynced new)
synced_by (Err _) old new is = tt
synced_by (Ok _) old new is = subst IsSynced (sym is) (is_synced old)

pub state_under : {T E : Type 0} (result : Result T E) (next header : Header) (saved : StoredModel)
    (old new : Trace) → next ≡ header → StoresState result next saved old new
    → StoresState result header saved old new
state_under result next header saved old new is s = subst (λ (h : Header). StoresState result h saved old new) is s

-- all of that is in sectors of the epoch
pub of_areas : (header : Header) (saved : StoredModel) (n : ℕ) (bytes : List ℕ) → BelongsToAreas header saved n bytes → IsOfAreas header n
of_areas header saved n bytes (inl b) = let is = b.is in let within = b.within in inl (record { from = omega arith; to = omega arith })
of_areas header saved n bytes (inr t) = let is = t.1.is in let within = t.1.within in inr (t.0, record { from = omega arith; to = omega arith })

pub of_epoch : (header : Header) (saved : StoredModel) (n : ℕ) (bytes : List ℕ) → BelongsTo header saved n bytes → IsOfEpoch header n
of_epoch header saved n bytes (inl b) = inl (of_areas header saved n bytes b)
of_epoch header saved n bytes (inr h) = inr h.0

-- A load: the text, a sync, a checkpoint.
abbrev MayLoad : ℕ → Header → DurableState → ℕ → List ℕ → Type 0
MayLoad area header loaded n bytes = BelongsToLoad area header loaded n bytes

pub load_text : {T E : Type 0} (result : Result T E) (area : ℕ) (header : Header) (loaded : DurableState)
    (old new : Trace) → WritesText result area loaded.program old new → WritesLoad area header loaded old new
load_text result area header loaded old new w =
    only_wider (λ n c. BelongsToText loaded.program area n c) (MayLoad area header loaded) old new (λ n c b. inl b) w.writes

pub load_sync : {T E : Type 0} (result : Result T E) (area : ℕ) (header : Header) (loaded : DurableState)
    (old mid new : Trace) → WritesLoad area header loaded old mid → SyncSpec result mid new
    → WritesLoad area header loaded old new
load_sync result area header loaded old mid new w is = only_syncs (MayLoad area header loaded) result old mid new w is

pub load_state : (area : ℕ) (header : Header) (loaded : DurableState) (old mid new : Trace)
    → WritesLoad area header loaded old mid → WritesState (next_header header area loaded.saved.length) loaded.saved
    mid new → WritesLoad area header loaded old new
load_state area header loaded old mid new w last =
    only_more (MayLoad area header loaded) old mid new w
    (only_wider (May (next_header header area loaded.saved.length) loaded.saved) (MayLoad area header loaded)
    mid new (λ n c own. inr own) last)

-- no epoch has a sector where program areas are
pub not_of_epoch : (header : Header) (n : ℕ) → ((174 ≤ n) × (n < 686)) ⊎ ((1710 ≤ n) × (n < 5806)) → IsOfEpoch header n → ⊥
not_of_epoch header n (inl low) (inl (inl among)) = let to = among.to in let from = low.0 in omega arith
not_of_epoch header n (inl low) (inl (inr among)) = let from = among.1.from in let to = low.1 in omega arith
not_of_epoch header n (inl low) (inr is) = let from = low.0 in omega arith
not_of_epoch header n (inr high) (inl (inl among)) = let to = among.to in let from = high.0 in omega arith
not_of_epoch header n (inr high) (inl (inr among)) = let to = among.1.to in let from = high.0 in omega arith
not_of_epoch header n (inr high) (inr is) = let from = high.0 in omega arith

-- the text stays where it is
text_stays_at : (area : ℕ) (header : Header) (loaded : DurableState) (mid new : Trace) → area ≤ 3
    → WritesOnly (May (next_header header area loaded.saved.length) loaded.saved) (Synced mid) new → (j : ℕ)
    → j < program_size area → reads new (program_first area + j) ≡ reads mid (program_first area + j)
text_stays_at area header loaded mid new most on j lt =
    ⊎_elim (λ was. was) (λ own.
    absurd (not_of_epoch next (program_first area + j) (area-where area j most lt)
    (of_epoch next loaded.saved (program_first area + j) (reads new (program_first area + j)) own)))
    ((reads_blend (May next loaded.saved) (Synced mid) new on).each (program_first area + j))
  where
    next : Header
    next = next_header header area loaded.saved.length

pub text_stays : {T E U F : Type 0} (result : Result T E) (u : U) (area : ℕ) (header : Header)
    (loaded : DurableState) (old mid synced new : Trace) → length loaded.program ≤ longest_in area → area ≤ 3
    → WritesText {E = F} (Ok u) area loaded.program old mid → synced ≡ Synced mid
    → WritesState (next_header header area loaded.saved.length) loaded.saved synced new
    → OnOk result (IsTextAt area loaded.program (reads new))
text_stays (Err _) u area header loaded old mid synced new short most w is_synced last = tt
text_stays (Ok _) u area header loaded old mid synced new short most w is_synced last = λ j lt.
    subst (HoldsText loaded.program (512 * j)) (sym (text_stays_at area header loaded mid new most on j (omega arith))) (w.parts j lt)
  where
    on : WritesOnly (May (next_header header area loaded.saved.length) loaded.saved) (Synced mid) new
    on = subst (λ (l : Trace). WritesOnly (May (next_header header area loaded.saved.length) loaded.saved) l new) is_synced last

-- A format, whatever is stored: each of the three stretches, a sync, the header, a sync.
abbrev pub MayFormat : StoredModel → ℕ → List ℕ → Type 0
MayFormat saved n bytes = BelongsIn 0 2 IsEmpty n bytes ⊎ (BelongsIn log_first shortest_log IsEmpty n bytes ⊎ BelongsTo first_header saved n bytes)

abbrev pub WritesFirst : StoredModel → Trace → Trace → Type 0
WritesFirst saved = WritesOnly (λ n bytes. MayFormat saved n bytes)

pub first_headers : {T E : Type 0} (result : Result T E) (saved : StoredModel) (old new : Trace)
    → Overwrites result 0 2 IsEmpty old new → WritesFirst saved old new
first_headers result saved old new w = only_wider (BelongsIn 0 2 IsEmpty) (MayFormat saved) old new (λ n c b. inl b) w.writes

pub first_log : {T E : Type 0} (result : Result T E) (saved : StoredModel) (old mid new : Trace)
    → WritesFirst saved old mid → Overwrites result log_first shortest_log IsEmpty mid new
    → WritesFirst saved old new
first_log result saved old mid new w log = only_more (MayFormat saved) old mid new w
    (only_wider (BelongsIn log_first shortest_log IsEmpty) (MayFormat saved) mid new (λ n c b. inr (inl b))
    log.writes)

pub first_area : {T E : Type 0} (result : Result T E) (first : ℕ) (saved : StoredModel) (old mid new : Trace)
    → first ≡ snapshot_first 1 → WritesFirst saved old mid → Overwrites result first snapshot_size (HoldsPart saved)
    mid new → WritesFirst saved old new
first_area result first saved old mid new is w area =
    only_more (MayFormat saved) old mid new w
    (only_wider (BelongsIn first snapshot_size (HoldsPart saved)) (MayFormat saved) mid new
    (λ n c b. inr (inr (inl (inl (subst (λ (k : ℕ). BelongsIn k snapshot_size (HoldsPart saved) n c) is b)))))
    area.writes)

-- a table without slots is written as zeros
pub empty_lengths : (saved : StoredModel) (j : ℕ) (bytes : List ℕ) → saved.tools ≡ [] → bytes ≡ replicate 512 0 → HoldsToolPart saved j bytes
empty_lengths saved j bytes none is = subst (λ (l : List ℕ). HoldsToolPart saved j l) (sym is)
    (subst (λ (tools : List ℤ). HoldsLengths tools (64 * j) (replicate 512 0)) (sym none) (record {
      each = λ k lt there. absurd (let none : 64 * j + k < 0 = there in omega arith);
      past = λ k lt le. bytes-zeros (512 - 8 * k) (8 * k) 512 (omega arith);
    }))

pub first_tools : {T E : Type 0} (result : Result T E) (at : ℕ) (saved : StoredModel) (old mid new : Trace)
    → saved.tools ≡ [] → at ≡ tools_first 1 → WritesFirst saved old mid
    → Overwrites result at tools_size IsEmpty mid new → WritesFirst saved old new
first_tools result at saved old mid new none is w tools =
    only_more (MayFormat saved) old mid new w (only_wider (BelongsIn at tools_size IsEmpty) (MayFormat saved) mid new (λ n c b.
    let here = subst (λ (k : ℕ). BelongsIn k tools_size IsEmpty n c) is b in
    inr (inr (inl (inr (
      refl,
      record {
        place = here.place;
        within = here.within;
        is = here.is;
        right =
            empty_lengths saved here.place c none here.right;
      },
    ))))) tools.writes)

pub first_sync : {T E : Type 0} (result : Result T E) (saved : StoredModel) (old mid new : Trace)
    → WritesFirst saved old mid → SyncSpec result mid new → WritesFirst saved old new
first_sync result saved old mid new w is = only_syncs (MayFormat saved) result old mid new w is

pub first_write : {T E : Type 0} (result : Result T E) (saved : StoredModel) (bytes : List ℕ) (old mid new : Trace)
    → HoldsHeader first_header bytes → WritesFirst saved old mid → WriteSpec result 1 bytes mid new
    → WritesFirst saved old new
first_write result saved bytes old mid new holds w is = only_more (MayFormat saved) old mid new w
    (only_write (MayFormat saved) result 1 bytes mid new (inr (inr (inr (refl, holds)))) is)
