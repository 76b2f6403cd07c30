-- A format: the state once the header of the first epoch is synced.
use Rattle.std.proofs.Common.{◌≡◌, ◌⊎◌, inl, inr, ℕ, ◌+◌, ◌-◌, ◌%◌, ◌<◌, ◌==◌, ◌&&◌, nat_lt, Bool, false}
use Rattle.std.proofs.Common.{if◌then◌else◌, List, [], ℤ, pos, set, replicate, Option, Some, None, Result, Ok, Err}
use Rattle.std.proofs.Common.{length, refl, sym, ◌∙◌, ap, subst, arith}
use Rattle.std.proofs.lemmas.List.{length-replicate}
use Rattle.std.proofs.Math.ListN.{length-set}
use Rattle.std.specs.Prelude.{OnOk}
use Rattle.ng_rig.specs.Trace.{Image, Trace, Wrote, Synced, reads}
use Rattle.ng_rig.specs.Calls.{SyncSpec}
use Rattle.ng_rig.proofs.ContinuationLemmas.{is_synced}
use Rattle.ng_layout.specs.Fields.{number_at}
use Rattle.ng_layout.specs.Codes.{format_of}
use Rattle.ng_layout.specs.Decoding.{and_then, up_to}
use Rattle.ng_layout.specs.Tools.{tools_in, lengths_in}
use Rattle.ng_layout.specs.declared.header.Format.{Format}
use Rattle.ng_layout.specs.declared.header.Format.TheVariants.{Two}
use Rattle.ng_layout.specs.declared.header.Header.{Header}
use Rattle.ng_layout.specs.Header.{HoldsHeader, IsValidHeader, header_at, is_marked, is_valid_header, header_by, header_in, program_limit_of}
use Rattle.ng_layout.specs.Areas.{shortest_log, snapshot_first, snapshot_size, tools_first, tools_size, program_first, program_size, log_first}
use Rattle.ng_layout.specs.Sectors.{program_text}
use Rattle.ng_layout.specs.Snapshot.{HoldsPart}
use Rattle.ng_layout.specs.Spare.{IsAmong}
use Rattle.ng_layout.specs.Stands.{is_large, stretch, newer, in_force, snapshot, IsWritten}
use Rattle.ng_layout.specs.Stored.{StoredModel}
use Rattle.ng_layout.proofs.SectorLemmas.{number-zeros}
use Rattle.ng_layout.proofs.ImageLemmas.{stretch-at}
use Rattle.ng_layout.proofs.SnapshotLemmas.{snapshot-new}
use Rattle.ng_log.specs.AtEnd.{no_records, EndsIn, IsAtEnd}
use Rattle.ng_journal.specs.AtRest.{IsLaidOut}
use Rattle.ng_journal.specs.Formatting.{IsEmpty, first_header}
use Rattle.ng_journal.specs.Private.Overwrites.{Overwrites}
use Rattle.ng_journal.proofs.WrittenSectorLemmas.{there, elsewhere, WritesFirst, first_headers, first_log}
use Rattle.ng_journal.proofs.WrittenSectorLemmas.{first_area, first_tools, empty_lengths, first_sync, first_write}
use Rattle.ng_journal.proofs.WrittenSectorLemmas.{laid_out}

-- A sector that begins with zeros is neither a header nor a part.
no_mark : (bytes : List ℕ) → number_at 8 0 bytes ≡ 0 → is_marked bytes ≡ false
unfolding is_marked number_at
no_mark bytes is = rw is refl

no_header : (large : Bool) (k : ℕ) (bytes : List ℕ) → number_at 8 0 bytes ≡ 0 → header_in large k bytes ≡ None
unfolding header_in
no_header large k bytes is = go (format_of (number_at 4 8 bytes))
  where
    by : (h : Header) → header_by large k bytes h ≡ None
    by h = λ i. if no_mark bytes is i && is_valid_header large h && h.epoch % 2 == k then Some h else None

    go : (o : Option Format) → and_then o (λ format. header_by large k bytes (header_at format bytes)) ≡ None
    go None = refl
    go (Some format) = by (header_at format bytes)

tools_none : (first : List ℕ) (area : ℕ → List ℕ) → number_at 2 456 first ≡ 0 → tools_in Two first area ≡ Some []
unfolding lengths_in
tools_none first area is = λ i. and_then (up_to 128 (is i)) (λ slots. lengths_in area slots)

no_text : (row : ℕ → List ℕ) → program_text 0 row ≡ []
unfolding program_text
no_text row = refl

-- An image with the header of the first epoch and a log of zeros.
pub record IsMade (image : Image) (saved : StoredModel) : Type 0 where
  pub other : number_at 8 0 (image 0) ≡ 0
  pub header : header_in (is_large image) 1 (image 1) ≡ Some first_header
  pub parts : (j : ℕ) → j < snapshot_size → HoldsPart saved j (image (snapshot_first 1 + j))
  pub log : (m : ℕ) → m < shortest_log → number_at 8 0 (image (log_first + m)) ≡ 0

made_force : (image : Image) (saved : StoredModel) → IsMade image saved → in_force image ≡ Some first_header
unfolding in_force
made_force image saved m = λ i. newer (no_header (is_large image) 0 (image 0) m.other i) (m.header i)

made_written : (image : Image) (saved : StoredModel) → IsMade image saved → IsWritten image
made_written image saved m = record { past = λ n lt. let e = m.log n lt in omega (arith, e) }

-- it stands for what was written, and its log is empty
made_ends : (image : Image) (saved : StoredModel) → IsMade image saved → saved.length ≡ 0 → saved.tools ≡ []
    → length saved.setup.params ≡ 5399 → saved.program_limit ≡ program_limit_of (is_large image)
    → EndsIn image first_header (record { saved = saved; program = [] }) no_records
made_ends image saved m long none table program_limit =
    let row = stretch (snapshot_first 1) snapshot_size image in
    let parts : (j : ℕ) → j < snapshot_size → HoldsPart saved j (row j) = λ j lt.
    subst (HoldsPart saved j) (sym (stretch-at (snapshot_first 1) snapshot_size image j lt)) (m.parts j lt) in
    let area = stretch (tools_first 1) tools_size image in
    let snap = snapshot-new Two saved row area table parts
    (tools_none (row 0) area ((parts 0 (omega arith)).slots refl ∙ ap length none)
    ∙ ap (λ (l : List ℤ). Some l) (sym none)) in
    record {
      force = made_force image saved m;
      format = refl;
      written = made_written image saved m;
      ends = record {
        records = 0;
        reached = (λ i. record { at = 0; number = 0; found = snapshot Two (sym long i) row area }) ∙ (λ i. record { at = 0; number = 0; found = snap i });
        room = omega arith;
        clean = record { none = λ n ge lt is. omega (arith, is, ap (number_at 8 0) (stretch-at log_first shortest_log image n lt), m.log n lt) };
      };
      program = no_text (stretch (program_first 0) (program_size 0) image);
      long = long;
      program_limit = program_limit;
    }

-- The four stretches, written one after another.
pub record Steps (saved : StoredModel) (old a b c d : Trace) : Type 0 where
  pub writes : WritesFirst saved old d
  pub other : IsEmpty 0 (reads d 0)
  pub parts : (j : ℕ) → j < snapshot_size → HoldsPart saved j (reads d (snapshot_first 1 + j))
  pub log : (m : ℕ) → m < shortest_log → IsEmpty m (reads d (log_first + m))
  pub tools : (j : ℕ) → j < tools_size → IsEmpty j (reads d (tools_first 1 + j))
  pub last : reads d 5805 ≡ reads old 5805

pub steps : {T U V W E F G H : Type 0} (t : T) (u : U) (v : V) (w : W) (saved : StoredModel) (old a b c d : Trace)
    (first at : ℕ) → saved.tools ≡ [] → first ≡ snapshot_first 1 → at ≡ tools_first 1
    → Overwrites {E = E} (Ok t) 0 2 IsEmpty old a → Overwrites {E = F} (Ok u) log_first shortest_log IsEmpty a b
    → Overwrites {E = G} (Ok v) first snapshot_size (HoldsPart saved) b c
    → Overwrites {E = H} (Ok w) at tools_size IsEmpty c d → Steps saved old a b c d
steps {E = E} {F = F} {G = G} {H = H} t u v w saved old a b c d first at none is at_is headers log area tool_area =
    let t_is : Result _ E = Ok t in
    let u_is : Result _ F = Ok u in
    let v_is : Result _ G = Ok v in
    let w_is : Result _ H = Ok w in
    let lengths : Overwrites {E = H} (Ok w) (tools_first 1) tools_size IsEmpty c d =
    subst (λ (n : ℕ). Overwrites {E = H} (Ok w) n tools_size IsEmpty c d) at_is tool_area in
    let here : Overwrites {E = G} (Ok v) (snapshot_first 1) snapshot_size (HoldsPart saved) b c =
    subst (λ (n : ℕ). Overwrites {E = G} (Ok v) n snapshot_size (HoldsPart saved) b c) is area in
    record {
      writes = first_tools w_is at saved old c d none at_is
          (first_area v_is first saved old b c is
          (first_log u_is saved old a b (first_headers t_is saved old a headers) log) area) tool_area;
      other = lengths.outside 0 (λ m. omega (arith, m.from)) ∙ here.outside 0 (λ m. omega (arith, m.from))
          ∙ log.outside 0 (λ m. omega (arith, m.from)) ∙ headers.parts 0 (omega arith);
      parts = λ j lt. subst (HoldsPart saved j) (sym (lengths.outside (snapshot_first 1 + j) (λ x. omega (arith, x.from)))) (here.parts j lt);
      tools = lengths.parts;
      last = lengths.outside 5805 (λ m. omega (arith, m.to)) ∙ here.outside 5805 (λ m. omega (arith, m.to))
          ∙ log.outside 5805 (λ m. omega (arith, m.to)) ∙ headers.outside 5805 (λ m. omega (arith, m.to));
      log = λ m lt. lengths.outside (log_first + m) (λ x. omega (arith, x.from)) ∙ here.outside (log_first + m) (λ x. omega (arith, x.to)) ∙ log.parts m lt;
    }

-- the device is as large as before
as_large : (saved : StoredModel) (old a b e c : Trace) (bytes : List ℕ) → Steps saved old a b e c
    → is_large (reads (Wrote 1 bytes (Synced c))) ≡ is_large (reads old)
as_large saved old a b e c bytes s = ap (λ (l : List ℕ). nat_lt 0 (length l)) (elsewhere 5805 1 bytes (Synced c) (λ e. omega (arith, e)) ∙ s.last)

first_valid : (large : Bool) → IsValidHeader large first_header
first_valid large = record { counted = omega arith; few = omega arith; area = omega arith; length = omega arith }

made : (saved : StoredModel) (old a b e c : Trace) (bytes : List ℕ) → Steps saved old a b e c
    → ((large : Bool) → IsValidHeader large first_header → header_in large 1 bytes ≡ Some first_header)
    → IsMade (reads (Wrote 1 bytes (Synced c))) saved
made saved old a b e c bytes s is = record {
  other = ap (number_at 8 0) (elsewhere 0 1 bytes (Synced c) (λ e. omega (arith, e)) ∙ s.other) ∙ number-zeros 8 0 512;
  header = let large = is_large (reads (Wrote 1 bytes (Synced c))) in ap (header_in large 1) (there 1 bytes (Synced c)) ∙ is large (first_valid large);
  parts = λ j lt. subst (HoldsPart saved j) (sym (elsewhere (snapshot_first 1 + j) 1 bytes (Synced c) (λ e. omega (arith, e)))) (s.parts j lt);
  log = λ m lt. ap (number_at 8 0) (elsewhere (log_first + m) 1 bytes (Synced c) (λ e. omega (arith, e)) ∙ s.log m lt) ∙ number-zeros 8 0 512;
}

-- the remaining zeros
made_zeros : (saved : StoredModel) (old a b e c : Trace) (bytes : List ℕ) → Steps saved old a b e c → (n : ℕ)
    → (n ≡ 0) ⊎ IsAmong log_first shortest_log n → IsEmpty n (reads (Wrote 1 bytes (Synced c)) n)
made_zeros saved old a b e c bytes s n (inl first) = elsewhere n 1 bytes (Synced c) (λ e. omega arith) ∙ ap (reads c) first ∙ s.other
made_zeros saved old a b e c bytes s n (inr log) =
    let from = log.from in
    let to = log.to in
    let at : n ≡ log_first + (n - log_first) = omega arith in
    elsewhere n 1 bytes (Synced c) (λ e. omega arith) ∙ ap (reads c) at ∙ s.log (n - log_first) (omega arith)

-- a table in which all values but one are 0
pub table_long : (n p : ℕ) (v : ℤ) → length (set (replicate n (pos 0)) p v) ≡ n
table_long n p v = length-set (replicate n (pos 0)) p v ∙ length-replicate n (pos 0)

-- What is written, whatever is stored.
pub record Begins {T E : Type 0} (result : Result T E) (saved : StoredModel) (old new : Trace) : Type 0 where
  pub writes : WritesFirst saved old new
  pub at : OnOk result (IsAtEnd new first_header (record { saved = saved; program = [] }) no_records)
  pub laid : OnOk result (IsLaidOut first_header saved (reads new))
  pub zeros : OnOk result ((n : ℕ) → (n ≡ 0) ⊎ IsAmong log_first shortest_log n → IsEmpty n (reads new n))

-- and after the last sync
pub finished : {T E : Type 0} (result : Result T E) (saved : StoredModel) (old a b x c synced wrote last : Trace)
    (bytes : List ℕ) → Steps saved old a b x c → saved.length ≡ 0 → saved.tools ≡ []
    → length saved.setup.params ≡ 5399 → saved.program_limit ≡ program_limit_of (is_large (reads old))
    → ((large : Bool) → IsValidHeader large first_header → header_in large 1 bytes ≡ Some first_header)
    → HoldsHeader first_header bytes → synced ≡ Synced c → wrote ≡ Wrote 1 bytes synced → SyncSpec result wrote last
    → Begins result saved old last
finished {T = T} {E = E} result saved old a b x c synced wrote last bytes s long none table program_limit header holds is
    is_written done = go result (subst (λ (l : Trace). SyncSpec result l last) whole done)
  where
    whole : wrote ≡ Wrote 1 bytes (Synced c)
    whole = is_written ∙ ap (λ (l : Trace). Wrote 1 bytes l) is

    ok : Result ℕ ℕ
    ok = Ok 0

    upto : WritesFirst saved old (Wrote 1 bytes (Synced c))
    upto = first_write ok saved bytes old (Synced c) (Wrote 1 bytes (Synced c)) holds (first_sync ok saved old c (Synced c) s.writes refl) refl

    go : (result : Result T E) → SyncSpec result (Wrote 1 bytes (Synced c)) last → Begins result saved old last
    go (Err e) same = record { writes = subst (λ (l : Trace). WritesFirst saved old l) (sym same) upto; at = tt; laid = tt; zeros = tt }
    go (Ok v) same =
        let m = made saved old a b x c bytes s header in
        let image = reads (Wrote 1 bytes (Synced c)) in
        record {
          writes = first_sync ok saved old (Wrote 1 bytes (Synced c)) last upto same;
          at = subst (λ (l : Trace). IsAtEnd l first_header (record { saved = saved; program = [] }) no_records) (sym same) (record {
            synced = is_synced (Wrote 1 bytes (Synced c));
            image = made_ends image saved m long none table (program_limit ∙ ap program_limit_of (sym (as_large saved old a b x c bytes s)));
          });
          laid = subst (λ (l : Trace). IsLaidOut first_header saved (reads l)) (sym same)
              (laid_out first_header saved bytes c s.parts
              (λ two j lt. empty_lengths saved j (reads c (tools_first 1 + j)) none (s.tools j lt)) holds);
          zeros = subst (λ (l : Trace). (n : ℕ) → (n ≡ 0) ⊎ IsAmong log_first shortest_log n
              → IsEmpty n (reads l n)) (sym same) (made_zeros saved old a b x c bytes s);
        }
