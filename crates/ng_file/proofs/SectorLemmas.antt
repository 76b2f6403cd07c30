-- The trace of a file's sectors, one call more, and what a read and a loss of power leave then.
use Rattle.std.proofs.Common.{◌≡◌, ◌≢◌, ◌⊎◌, inl, inr, ℕ, zero, suc, ◌+◌, ◌-◌, ◌*◌, ◌<◌, ◌≤◌, ◌==◌, nat_lt, Bool, true, false}
use Rattle.std.proofs.Common.{if◌then◌else◌, List, [], ◌∷◌, ◌++◌, Option, Some, IfSome, Result, Ok, Err, OnOk}
use Rattle.std.proofs.Common.{OnErr, refl, sym, ◌∙◌, ap, subst, append_assoc, length, length-append, length-drop}
use Rattle.std.proofs.Common.{take, drop, get_or, arith}
use Rattle.std.specs.Cmp.Lexicographic.{same_text, other_text}
use Rattle.std.proofs.lemmas.Bool.{cases_eq}
use Rattle.std.proofs.lemmas.Bool.Decides.{nat_tests}
use Rattle.std.proofs.lemmas.List.{drop-append-le, drop-drop, drop-take, length-take-le, take-append-le, take-take}
use Rattle.std.proofs.Math.ListN.{get_or-append}
use Rattle.std.proofs.Math.Seq.{drop-append-add, drop-append_seam, get_or-append_seam, take-append_seam}
use Rattle.ng_canon.specs.declared.item.Item.{Item}
use Rattle.ng_rig.specs.Calls.{WriteSpec}
use Rattle.ng_rig.specs.Extent.{HasExtent}
use Rattle.ng_rig.specs.Trace.{Trace, Began, Wrote, Perhaps, Synced, Handed, MayHold, reads, items, moment, trace_at}
use Rattle.ng_file.specs.Bytes.{PutInPart, sector_of, with_bytes}
use Rattle.ng_file.specs.Bytes.{Put as Puts}
use Rattle.ng_file.specs.Promise.{Promise, IfPromised, HoldsNothingNew, IsDurable, MayHoldBesides}
use Rattle.ng_file.specs.Sectors.{AreFaithful, AreTraced, DoAsPromised, HaveStops, IsFaithful, KeepsHonest, SectorsModel, begun, holds, image_of, trace_from, trace_of, trace_since, trace_with}
use Rattle.ng_file.specs.declared.done.Done.{Done}
use Rattle.ng_file.specs.declared.done.Done.TheVariants.{Put, Sync, Hand}

-- ---- the trace with one call more

module _ {S : Type 0} (content : S → Option (List ℕ)) where
  from-more : (trace : Trace) (done : List Done) (files : List S) (one : Done) (file : S) → length files ≡ length done
      → trace_from content trace (done ++ one ∷ []) (files ++ file ∷ []) ≡ trace_with content one file (trace_from content trace done files)
  from-more trace [] [] one file same = refl
  from-more trace [] (first ∷ files) one file same = absurd (omega (arith, same))
  from-more trace (before ∷ done) [] one file same = absurd (omega (arith, same))
  from-more trace (before ∷ done) (first ∷ files) one file same = from-more (trace_with content before first trace) done files one file (omega (arith, same))

  pub since-more : (count : ℕ) (done : List Done) (files : List S) (one : Done) (file : S) → length files ≡ length done + 1
      → trace_since content count (done ++ one ∷ []) (files ++ file ∷ []) ≡ trace_with content one file (trace_since content count done files)
  since-more count done [] one file same = absurd (omega (arith, same))
  since-more count done (first ∷ files) one file same = from-more (Began (image_of count (content first))) done files one file (omega (arith, same))

  -- a write hands nothing out
  pub items-put : (n : ℕ) (bytes : List ℕ) (file : S) (trace : Trace) → items (trace_with content (Put n bytes) file trace) ≡ items trace
  items-put n bytes file trace = either (holds n bytes (content file))
    where
      either : (b : Bool) → items (if b then Wrote n bytes trace else Perhaps n bytes trace) ≡ items trace
      either true = refl
      either false = refl

-- ---- one sector of bytes with another one put in

other-before : (n m : ℕ) (bytes held : List ℕ) → length bytes ≡ 512 → 512 * n + 512 ≤ length held → m < n
    → sector_of m (with_bytes (512 * n) bytes held) ≡ sector_of m held
other-before n m bytes held whole fits before =
    let a = 512 * m in
    let b = 512 * n in
    let rest = bytes ++ drop (b + length bytes) held in
    let few : a + 512 - a ≡ 512 = omega arith in
    ap (λ (xs : List ℕ). take (a + 512 - a) (drop a xs)) (append_assoc (take b held) bytes (drop (b + length bytes) held))
    ∙ ap (λ (w : ℕ). take w (drop a (take b held ++ rest))) few
    ∙ ap (take 512) (drop-append-le a (take b held) rest (subst (λ (w : ℕ). a ≤ w) (sym (length-take-le b held (omega (arith, fits)))) (omega (arith, before))))
    ∙ take-append-le 512 (drop a (take b held)) rest
    (subst (λ (w : ℕ). 512 ≤ w)
    (sym (length-drop a (take b held) ∙ ap (λ (w : ℕ). w - a) (length-take-le b held (omega (arith, fits)))))
    (omega (arith, before)))
    ∙ ap (λ (w : ℕ). take 512 (drop a (take w held))) (sum b a (omega (arith, before)))
    ∙ ap (take 512) (drop-take a (b - a) held)
    ∙ take-take 512 (b - a) (drop a held) (omega (arith, before))
    ∙ ap (λ (w : ℕ). take w (drop a held)) (sym few)
  where
    sum : (b a : ℕ) → a ≤ b → b ≡ a + (b - a)
    sum b a le = omega (arith, le)

other-after : (n m : ℕ) (bytes held : List ℕ) → length bytes ≡ 512 → 512 * n + 512 ≤ length held → n < m
    → sector_of m (with_bytes (512 * n) bytes held) ≡ sector_of m held
other-after n m bytes held whole fits after =
    let a = 512 * m in
    let b = 512 * n in
    let tail = drop (b + length bytes) held in
    let long : length (take b held ++ bytes) ≡ b + 512 =
    length-append (take b held) bytes ∙ ap (λ (w : ℕ). w + length bytes) (length-take-le b held (omega (arith, fits))) ∙ ap (λ (w : ℕ). b + w) whole in
    let past : a ≡ length (take b held ++ bytes) + (a - (b + 512)) = omega (arith, long, after) in
    ap (λ (w : ℕ). take (a + 512 - a) (drop w ((take b held ++ bytes) ++ tail))) past
    ∙ ap (take (a + 512 - a)) (drop-append-add (take b held ++ bytes) tail (a - (b + 512)))
    ∙ ap (take (a + 512 - a)) (drop-drop (a - (b + 512)) (b + length bytes) held)
    ∙ ap (λ (w : ℕ). take (a + 512 - a) (drop w held)) (omega (arith, whole, after))

pub put-other : (n m : ℕ) (bytes held : List ℕ) → length bytes ≡ 512 → 512 * n + 512 ≤ length held → m ≢ n
    → sector_of m (with_bytes (512 * n) bytes held) ≡ sector_of m held
put-other n m bytes held whole fits other = elim (either m n other) [
  | inl before ↦ other-before n m bytes held whole fits before
  | inr after ↦ other-after n m bytes held whole fits after
]
  where
    either : (m n : ℕ) → m ≢ n → (m < n) ⊎ (n < m)
    either m n other = grind (arith, other)

pub put-itself : (n : ℕ) (bytes held : List ℕ) → length bytes ≡ 512 → 512 * n + 512 ≤ length held → sector_of n (with_bytes (512 * n) bytes held) ≡ bytes
put-itself n bytes held whole fits =
    let b = 512 * n in
    let tail = drop (b + length bytes) held in
    let few : b + 512 - b ≡ 512 = omega arith in
    let at : b ≡ length (take b held) = sym (length-take-le b held (omega (arith, fits))) in
    ap (λ (w : ℕ). take w (drop b (take b held ++ bytes ++ tail))) few
    ∙ ap (λ (xs : List ℕ). take 512 (drop b xs)) (append_assoc (take b held) bytes tail)
    ∙ ap (λ (w : ℕ). take 512 (drop w (take b held ++ (bytes ++ tail)))) at
    ∙ ap (take 512) (drop-append_seam (take b held) (bytes ++ tail))
    ∙ ap (λ (w : ℕ). take w (bytes ++ tail)) (sym whole)
    ∙ take-append_seam bytes tail

-- ---- a trace that is faithful to the bytes, one call later

-- what the trace reads, of a sector that the file has
reads-sector : {count : ℕ} {bytes : Option (List ℕ)} {promise : Promise} {trace : Trace} → (f : IsFaithful count bytes promise trace) (n : ℕ) → n < count
    → reads trace n ≡ sector_of n f.held
reads-sector {count} {bytes} {promise} {trace} f n within =
    ap (λ (image : ℕ → List ℕ). image n) (f.reads_are ∙ ap (image_of count) f.known) ∙ inside count n (sector_of n f.held) within
  where
    inside : (count n : ℕ) (c : List ℕ) → n < count → (if nat_lt n count then c else []) ≡ c
    inside count n c within = grind (arith, nat_tests)

-- what it reads past them
reads-past : {count : ℕ} {bytes : Option (List ℕ)} {promise : Promise} {trace : Trace} → (f : IsFaithful count bytes promise trace) (n : ℕ) → count ≤ n
    → reads trace n ≡ []
reads-past {count} {bytes} {promise} {trace} f n outside =
    ap (λ (image : ℕ → List ℕ). image n) (f.reads_are ∙ ap (image_of count) f.known) ∙ none count n (sector_of n f.held) outside
  where
    none : (count n : ℕ) (c : List ℕ) → count ≤ n → (if nat_lt n count then c else []) ≡ []
    none count n c outside = grind (arith, nat_tests)

pub faithful-same : {count : ℕ} {old new : Option (List ℕ)} {before after : Promise} {trace : Trace}
    → IsFaithful count old before trace → new ≡ old → HoldsNothingNew before after
    → IsFaithful count new after trace
faithful-same {count} {old} {new} f same nothing =
    record {
      held = f.held;
      known = same ∙ f.known;
      fits = f.fits;
      reads_are = f.reads_are ∙ ap (image_of count) (sym same);
      stops = λ n c within may. f.stops n c within (nothing n c may);
      past = f.past;
    }

pub faithful-hand : {count : ℕ} {bytes : Option (List ℕ)} {promise : Promise} {trace : Trace} (item : Item)
    → IsFaithful count bytes promise trace → IsFaithful count bytes promise (Handed item trace)
faithful-hand item f = record { held = f.held; known = f.known; fits = f.fits; reads_are = λ i n. f.reads_are i n; stops = f.stops; past = f.past }

pub faithful-sync : {count : ℕ} {old new : Option (List ℕ)} {before after : Promise} {trace : Trace}
    → IsFaithful count old before trace → new ≡ old → IsDurable new after
    → IsFaithful count new after (Synced trace)
faithful-sync {count} {old} {new} {before} {after} {trace} f same durable =
    let is : new ≡ Some f.held = same ∙ f.known in
    let only : (n : ℕ) (c : List ℕ) → after.may_hold n c → c ≡ sector_of n f.held = subst (λ (b : Option (List ℕ)). IsDurable b after) is durable in
    record {
      held = f.held;
      known = is;
      fits = f.fits;
      reads_are = λ i n. (f.reads_are ∙ ap (image_of count) (sym same)) i n;
      stops = λ n c within may. only n c may ∙ sym (reads-sector f n within);
      past = λ n outside. sym (reads-past f n outside);
    }

-- whether a read returns what was put is known
holds-told : (n : ℕ) (bytes held : List ℕ) (r : Bool) → r ≡ holds n bytes (Some held)
    → ((r ≡ true) × (bytes ≡ sector_of n held)) ⊎ ((r ≡ false) × (bytes ≢ sector_of n held))
holds-told n bytes held true is = inl (refl, same_text bytes (sector_of n held) is)
holds-told n bytes held false is = inr (refl, other_text bytes (sector_of n held) is)

length-with : (place : ℕ) (bytes held : List ℕ) → length bytes ≡ 512 → place + 512 ≤ length held → length (with_bytes place bytes held) ≡ length held
length-with place bytes held whole fits =
    let tail = drop (place + length bytes) held in
    let first : length (take place held) ≡ place = length-take-le place held (omega (arith, fits)) in
    let last : length tail ≡ length held - (place + length bytes) = length-drop (place + length bytes) held in
    let front : length (take place held ++ bytes) ≡ length (take place held) + length bytes = length-append (take place held) bytes in
    let all : length (take place held ++ bytes ++ tail) ≡ length (take place held ++ bytes) + length tail = length-append (take place held ++ bytes) tail in
    omega (arith, first, last, front, all, whole, fits)

-- what a write leaves of bytes that are known, whether it failed or not
pub put-either : {T E : Type 0} (r : Result T E) (place : ℕ) (bytes held : List ℕ) (old new : Option (List ℕ)) → old ≡ Some held → place + 512 ≤ length held
    → OnOk r (Puts place bytes old new) → OnErr r (PutInPart place bytes old new) → (new ≡ Some held) ⊎ (new ≡ Some (with_bytes place bytes held))
put-either (Ok _) place bytes held old new known fits put part =
    inr (subst (λ (b : Option (List ℕ)). Puts place bytes b new) known put fits)
put-either (Err _) place bytes held old new known fits put part =
    subst (λ (b : Option (List ℕ)). PutInPart place bytes b new) known part fits

module _ {count : ℕ} {old : Option (List ℕ)} {before : Promise} {trace : Trace} (new : Option (List ℕ)) (after : Promise) (n : ℕ) (bytes : List ℕ)
    (f : IsFaithful count old before trace) (within : n < count) (besides : MayHoldBesides (512 * n) bytes before after) where
  -- a read returns what was put, and of the other sectors what it did
  wrote : (now : List ℕ) → new ≡ Some now → 512 * count ≤ length now → bytes ≡ sector_of n now → ((m : ℕ) → (m ≡ n → ⊥) → sector_of m now ≡ sector_of m f.held)
      → IsFaithful count new after (Wrote n bytes trace)
  wrote now known fits is others =
      record {
        held = now;
        known = known;
        fits = fits;
        reads_are = λ i m. (each m ∙ ap (λ (b : Option (List ℕ)). image_of count b m) (sym known)) i;
        stops = λ m c inside may. elim (besides n refl m c may) [ inl put ↦ inl put | inr was ↦ inr (f.stops m c inside was) ];
        past = λ m outside. inr (f.past m outside);
      }
    where
      here : (count m n : ℕ) (bytes new old : List ℕ) → n < count → m ≡ n → bytes ≡ new → (if m == n then bytes else old) ≡ (if nat_lt m count then new else [])
      here count m n bytes new old within same is = grind (arith, nat_tests, same, is, within)

      away : (count m n : ℕ) (bytes old new : List ℕ) → (m ≡ n → ⊥) → new ≡ old
          → (if m == n then bytes else (if nat_lt m count then old else [])) ≡ (if nat_lt m count then new else [])
      away count m n bytes old new other is = grind (arith, nat_tests, other, is)

      each : (m : ℕ) → (if m == n then bytes else reads trace m) ≡ image_of count (Some now) m
      each m = elim (cases_eq m n) [
        | inl same ↦ here count m n bytes (sector_of m now) (reads trace m) within same (is ∙ ap (λ (k : ℕ). sector_of k now) (sym same))
        | inr other ↦ ap (λ (c : List ℕ). if m == n then bytes else c) (ap (λ (image : ℕ → List ℕ). image m) (f.reads_are ∙ ap (image_of count) f.known))
            ∙ away count m n bytes (sector_of m f.held) (sector_of m now) other (others m other)
      ]

  -- a read returns what it did
  perhaps : new ≡ Some f.held → IsFaithful count new after (Perhaps n bytes trace)
  perhaps known =
      record {
        held = f.held;
        known = known;
        fits = f.fits;
        reads_are = λ i m. (f.reads_are ∙ ap (image_of count) (f.known ∙ sym known)) i m;
        stops = λ m c inside may. elim (besides n refl m c may) [ inl put ↦ inl put | inr was ↦ inr (f.stops m c inside was) ];
        past = λ m outside. inr (f.past m outside);
      }

  abbrev put_trace : Trace
  put_trace = if holds n bytes new then Wrote n bytes trace else Perhaps n bytes trace

  wrote-where : holds n bytes new ≡ true → put_trace ≡ Wrote n bytes trace
  wrote-where is = ap (λ (b : Bool). if b then Wrote n bytes trace else Perhaps n bytes trace) is

  perhaps-where : holds n bytes new ≡ false → put_trace ≡ Perhaps n bytes trace
  perhaps-where is = ap (λ (b : Bool). if b then Wrote n bytes trace else Perhaps n bytes trace) is

  module _ (whole : length bytes ≡ 512) where
    fits : 512 * n + 512 ≤ length f.held
    fits = omega (arith, f.fits, within)

    now_held : (now : List ℕ) → new ≡ Some now → (holds n bytes new ≡ holds n bytes (Some now))
    now_held now known = ap (holds n bytes) known

    -- the bytes are there
    pub holds-put : new ≡ Some (with_bytes (512 * n) bytes f.held) → holds n bytes new ≡ true
    holds-put known = elim (holds-told n bytes (with_bytes (512 * n) bytes f.held) (holds n bytes new) (now_held (with_bytes (512 * n) bytes f.held) known)) [
      | inl told ↦ told.0
      | inr told ↦ absurd (told.1 (sym (put-itself n bytes f.held whole fits)))
    ]

    put : new ≡ Some (with_bytes (512 * n) bytes f.held) → IsFaithful count new after put_trace
    put known =
        subst (IsFaithful count new after) (sym (wrote-where (holds-put known)))
        (wrote (with_bytes (512 * n) bytes f.held) known (subst (λ (k : ℕ). 512 * count ≤ k) (sym (length-with (512 * n) bytes f.held whole fits)) f.fits)
        (sym (put-itself n bytes f.held whole fits)) (λ m other. put-other n m bytes f.held whole fits other))

    stayed : new ≡ Some f.held → IsFaithful count new after put_trace
    stayed known = elim (holds-told n bytes f.held (holds n bytes new) (now_held f.held known)) [
      | inl told ↦ subst (IsFaithful count new after) (sym (wrote-where told.0)) (wrote f.held known f.fits told.1 (λ m other. refl))
      | inr told ↦ subst (IsFaithful count new after) (sym (perhaps-where told.0)) (perhaps known)
    ]

    pub faithful-put : (new ≡ Some f.held) ⊎ (new ≡ Some (with_bytes (512 * n) bytes f.held)) → IsFaithful count new after put_trace
    faithful-put (inl known) = stayed known
    faithful-put (inr known) = put known

    either_trace : (b : Bool)
        → (trace ≡ trace → (if b then Wrote n bytes trace else Perhaps n bytes trace) ≡ Wrote n bytes trace)
        ⊎ ((if b then Wrote n bytes trace else Perhaps n bytes trace) ≡ Perhaps n bytes trace)
    either_trace true = inl (λ _. refl)
    either_trace false = inr refl

    -- what the trace says of the write
    pub spec-put : {T E : Type 0} (r : Result T E) → OnOk r (Puts (512 * n) bytes old new) → WriteSpec r n bytes trace put_trace
    spec-put (Ok _) done = wrote-where (holds-put (subst (λ (b : Option (List ℕ)). Puts (512 * n) bytes b new) f.known done fits))
    spec-put (Err _) done = elim (either_trace (holds n bytes new)) [ inl is ↦ inr (inl (is refl)) | inr is ↦ inr (inr is) ]

-- a write of a sector, whether it failed or not
pub faithful-write : {T E : Type 0} {count : ℕ} {old new : Option (List ℕ)} {before after : Promise} {trace : Trace} (r : Result T E) (n : ℕ) (bytes : List ℕ)
    → (f : IsFaithful count old before trace) → n < count → MayHoldBesides (512 * n) bytes before after → length bytes ≡ 512
    → OnOk r (Puts (512 * n) bytes old new) → OnErr r (PutInPart (512 * n) bytes old new)
    → IsFaithful count new after (if holds n bytes new then Wrote n bytes trace else Perhaps n bytes trace)
faithful-write {count = count} {old} {new} {after = after} r n bytes f within besides whole put part =
    faithful-put new after n bytes f within besides whole (put-either r (512 * n) bytes f.held old new f.known (omega (arith, f.fits, within)) put part)

-- ---- the stops of the files before, one call later

-- the trace that one more call makes of another
pub record IsOneMore (new old : Trace) : Type 0 where
  pub clock : moment new ≡ moment old + 1
  pub at : (t : ℕ) → trace_at t new ≡ (if nat_lt (moment old) t then new else trace_at t old)

one-more : {S : Type 0} (content : S → Option (List ℕ)) (done : Done) (file : S) (trace : Trace) → IsOneMore (trace_with content done file trace) trace
one-more content (Put n bytes) file trace = either (holds n bytes (content file))
  where
    either : (b : Bool) → IsOneMore (if b then Wrote n bytes trace else Perhaps n bytes trace) trace
    either true = record { clock = refl; at = λ t. refl }
    either false = record { clock = refl; at = λ t. refl }
one-more content Sync file trace = record { clock = refl; at = λ t. refl }
one-more content (Hand item) file trace = record { clock = refl; at = λ t. refl }

earlier : (t m : ℕ) (new old : Trace) → t ≤ m → (if nat_lt m t then new else old) ≡ old
earlier t m new old le = grind (arith, nat_tests)

later : (t m : ℕ) (new old : Trace) → m < t → (if nat_lt m t then new else old) ≡ new
later t m new old lt = grind (arith, nat_tests)

side : (a b : ℕ) → (a ≤ b) ⊎ (b < a)
side a b = grind arith

-- the first file, of which all is durable
pub stops-begun : {S : Type 0} (content : S → Option (List ℕ)) (count : ℕ) (promise : S → Promise) (file : S)
    → IsFaithful count (content file) (promise file) (Began (image_of count (content file)))
    → HaveStops count promise (file ∷ []) (Began (image_of count (content file)))
stops-begun content count promise file f = record { clock = refl; stops = at; past = λ t n outside. f.past n outside }
  where
    at : (t : ℕ) (other : _) → t < length (file ∷ []) → (n : ℕ) (c : List ℕ) → n < count → (promise (get_or (file ∷ []) t other)).may_hold n c
        → MayHold (trace_at t (Began (image_of count (content file)))) n c
    at zero other lt n c within may = f.stops n c within may
    at (suc t) other lt n c within may = absurd (omega (arith, lt))

module _ {S : Type 0} {count : ℕ} {promise : S → Promise} {files : List S} {new old : Trace} (file : S) (one : IsOneMore new old)
    (before : HaveStops count promise files old)
    (now : (n : ℕ) (c : List ℕ) → n < count → (promise file).may_hold n c → MayHold new n c) (past : (n : ℕ) → count ≤ n → MayHold new n []) where
  trace-earlier : (t : ℕ) → t ≤ moment old → trace_at t new ≡ trace_at t old
  trace-earlier t le = one.at t ∙ earlier t (moment old) new (trace_at t old) le

  trace-later : (t : ℕ) → moment old < t → trace_at t new ≡ new
  trace-later t lt = one.at t ∙ later t (moment old) new (trace_at t old) lt

  stops-at : (t : ℕ) (other : S) → t < length (files ++ file ∷ []) → (n : ℕ) (c : List ℕ) → n < count
      → (promise (get_or (files ++ file ∷ []) t other)).may_hold n c → MayHold (trace_at t new) n c
  stops-at t other lt n c within may = elim (side t (moment old)) [
    | inl le ↦
        let short : t < length files = omega (arith, le, before.clock) in
        subst (λ (trace : Trace). MayHold trace n c) (sym (trace-earlier t le))
        (before.stops t other short n c within
        (subst (λ (f : S). (promise f).may_hold n c) (get_or-append files (file ∷ []) other t short) may))
    | inr late ↦
        let long : length (files ++ file ∷ []) ≡ length files + 1 = length-append files (file ∷ []) in
        let last : t ≡ length files = omega (arith, late, lt, long, before.clock) in
        subst (λ (trace : Trace). MayHold trace n c) (sym (trace-later t late))
        (now n c within
        (subst (λ (f : S). (promise f).may_hold n c)
        (ap (λ (k : ℕ). get_or (files ++ file ∷ []) k other) last ∙ get_or-append_seam files file [] other) may))
  ]

  past-at : (t n : ℕ) → count ≤ n → MayHold (trace_at t new) n []
  past-at t n outside = elim (side t (moment old)) [
    | inl le ↦ subst (λ (trace : Trace). MayHold trace n []) (sym (trace-earlier t le)) (before.past t n outside)
    | inr late ↦ subst (λ (trace : Trace). MayHold trace n []) (sym (trace-later t late)) (past n outside)
  ]

  pub stops-more : HaveStops count promise (files ++ file ∷ []) new
  stops-more =
      let long : length (files ++ file ∷ []) ≡ length files + 1 = length-append files (file ∷ []) in
      record { clock = omega (arith, long, before.clock, one.clock); stops = stops-at; past = past-at }

-- ---- the same of sectors, as the calls leave them

abbrev pub model : {S : Type 0} → S → ℕ → List Done → List S → SectorsModel S
model file count done files = record { file = file; count = count; done = done; files = files }

module _ {S : Type 0} (content : S → Option (List ℕ)) (promise : S → Promise) where
  abbrev grown : SectorsModel S → Done → S → SectorsModel S
  grown s one file = record { file = file; count = s.count; done = s.done ++ one ∷ []; files = s.files ++ file ∷ [] }

  pub trace-grown : (s : SectorsModel S) (one : Done) (file : S) → length s.files ≡ length s.done + 1
      → trace_of content (grown s one file) ≡ trace_with content one file (trace_of content s)
  trace-grown s one file long = since-more content s.count s.done s.files one file long

  begun-more : (files : List S) (n : ℕ) (now old : S) → length files ≡ n + 1 → get_or (files ++ now ∷ []) 0 now ≡ get_or files 0 old
  begun-more [] n now old long = absurd (omega (arith, long))
  begun-more (first ∷ files) n now old long = refl

  pub begun-grown : (s : SectorsModel S) (one : Done) (file : S) → length s.files ≡ length s.done + 1 → begun (grown s one file) ≡ begun s
  begun-grown s one file long = begun-more s.files (length s.done) file s.file long

  long-grown : (s : SectorsModel S) (one : Done) (file : S) → length s.files ≡ length s.done + 1
      → length (s.files ++ file ∷ []) ≡ length (s.done ++ one ∷ []) + 1
  long-grown s one file long =
      let a : length (s.files ++ file ∷ []) ≡ length s.files + 1 = length-append s.files (file ∷ []) in
      let b : length (s.done ++ one ∷ []) ≡ length s.done + 1 = length-append s.done (one ∷ []) in
      omega (arith, a, b, long)

  abbrev now_of : SectorsModel S → S → List Done → List S → SectorsModel S
  now_of s file done files = record { file = file; count = s.count; done = done; files = files }

  now-grown : (s : SectorsModel S) (one : Done) (file : S) (done : List Done) (files : List S) → done ≡ s.done ++ one ∷ [] → files ≡ s.files ++ file ∷ []
      → now_of s file done files ≡ grown s one file
  now-grown s one file done files done_is files_are = ap (λ (d : List Done). now_of s file d files) done_is ∙ ap (now_of s file (s.done ++ one ∷ [])) files_are

  pub trace-now : (s : SectorsModel S) (one : Done) (file : S) (done : List Done) (files : List S) → length s.files ≡ length s.done + 1
      → done ≡ s.done ++ one ∷ [] → files ≡ s.files ++ file ∷ []
      → trace_of content (now_of s file done files) ≡ trace_with content one file (trace_of content s)
  trace-now s one file done files long done_is files_are =
      ap (trace_of content) (now-grown s one file done files done_is files_are) ∙ trace-grown s one file long

  begun-same : (files : List S) (n : ℕ) (now old : S) → length files ≡ n + 1 → get_or files 0 now ≡ get_or files 0 old
  begun-same [] n now old long = absurd (omega (arith, long))
  begun-same (first ∷ files) n now old long = refl

  abbrev Invariant : SectorsModel S → Type 0
  Invariant s = (512 * s.count < 18446744073709551616) × (length s.files ≡ length s.done + 1) × AreFaithful content promise s

  module _ (s : SectorsModel S) (inv : Invariant s) (file : S) (fact : Type 0) (p : IfPromised (promise s.file) (promise file) fact) where
    long : length s.files ≡ length s.done + 1
    long = inv.1

    -- a call keeps honesty, where its storage does
    abbrev Keeps : SectorsModel S → Type 0
    Keeps t = (DoAsPromised content promise s → DoAsPromised content promise t) × (DoAsPromised content promise t → DoAsPromised content promise s)

    keeps-from : (t : SectorsModel S) → t.file ≡ file → begun t ≡ begun s → Keeps t
    keeps-from t here same = (
      (λ h. (subst (λ (f : S). (promise f).honest) (sym here) (p.keeps h.0), subst (λ (b : S). IsDurable (content b) (promise b)) (sym same) h.1)),
      (λ h. (p.back (subst (λ (f : S). (promise f).honest) here h.0), subst (λ (b : S). IsDurable (content b) (promise b)) same h.1)),
    )

    -- both follow the trace, where they do what was promised
    both : (t : SectorsModel S) → Keeps t → AreFaithful content promise t → KeepsHonest content promise s t
    both t keeps faithful = (
      (λ h. let promised = keeps.0 h.0 in (promised, faithful promised)),
      (λ h. let promised = keeps.1 h.0 in (promised, inv.2 promised)),
    )

    -- one that isn't kept
    abbrev moved : SectorsModel S
    moved = now_of s file s.done s.files

    keeps-moved : Keeps moved
    keeps-moved = keeps-from moved refl (begun-same s.files (length s.done) file s.file long)

    pub invariant-moved : content file ≡ content s.file → (fact → HoldsNothingNew (promise s.file) (promise file)) → Invariant moved
    invariant-moved same nothing = (
      inv.0,
      long,
      (λ honest. let promised = keeps-moved.1 honest in
          let before = inv.2 promised in
          (faithful-same before.0 same (nothing (p.holds promised.0)), before.1)),
    )

    pub honest-moved : content file ≡ content s.file → (fact → HoldsNothingNew (promise s.file) (promise file)) → KeepsHonest content promise s moved
    honest-moved same nothing = both moved keeps-moved (invariant-moved same nothing).2

    -- one that is
    module _ (one : Done) (done : List Done) (files : List S) (done_is : done ≡ s.done ++ one ∷ []) (files_are : files ≡ s.files ++ file ∷ []) where
      abbrev now : SectorsModel S
      now = now_of s file done files

      is : now ≡ grown s one file
      is = now-grown s one file done files done_is files_are

      keeps-now : Keeps now
      keeps-now = subst Keeps (sym is) (keeps-from (grown s one file) refl (begun-grown s one file long))

      abbrev Follows : Type 0
      Follows = (honest : DoAsPromised content promise s) → IsFaithful s.count (content s.file) (promise s.file) (trace_of content s) → fact
          → IsFaithful s.count (content file) (promise file) (trace_with content one file (trace_of content s))

      traced : Follows → DoAsPromised content promise s → AreTraced content promise (grown s one file)
      traced faithful promised =
          let before = inv.2 promised in
          let next = faithful promised before.0 (p.holds promised.0) in
          let stops = stops-more file (one-more content one file (trace_of content s)) before.1 next.stops next.past in
          let whole = sym (trace-grown s one file long) in (
            subst (IsFaithful s.count (content file) (promise file)) whole next,
            subst (HaveStops s.count promise (s.files ++ file ∷ [])) whole stops,
          )

      pub invariant-now : Follows → Invariant now
      invariant-now faithful = (
        inv.0,
        subst (λ (t : SectorsModel S). length t.files ≡ length t.done + 1) (sym is) (long-grown s one file long),
        (λ honest. subst (AreTraced content promise) (sym is) (traced faithful (keeps-now.1 honest))),
      )

      pub honest-now : Follows → KeepsHonest content promise s now
      honest-now faithful = both now keeps-now (invariant-now faithful).2

-- ---- what a device owes of its extent

sector-whole : (count n : ℕ) (held : List ℕ) → 512 * count ≤ length held → n < count → 0 < length (sector_of n held)
sector-whole count n held fits within =
    let some : length (drop (512 * n) held) ≡ length held - 512 * n = length-drop (512 * n) held in
    let few : 512 * n + 512 - 512 * n ≡ 512 = omega arith in
    subst (λ (k : ℕ). 0 < length (take k (drop (512 * n) held))) (sym few)
    (subst (λ (k : ℕ). 0 < k) (sym (length-take-le 512 (drop (512 * n) held) (omega (arith, some, fits, within)))) (omega arith))

pub extent : {count : ℕ} {bytes : Option (List ℕ)} {promise : Promise} {trace : Trace} → IsFaithful count bytes promise trace → HasExtent count (reads trace)
extent {count} {bytes} {promise} {trace} f =
    record {
      within = λ n lt. subst (λ (c : List ℕ). 0 < length c) (sym (reads-sector f n lt)) (sector-whole count n f.held f.fits lt);
      past = λ n le. reads-past f n le;
    }

-- a read of what is known
pub read-bytes : {T E : Type 0} {count : ℕ} {bytes : Option (List ℕ)} {promise : Promise} {trace : Trace}
    (r : Result T E) (n : ℕ) (into : List ℕ) → IsFaithful count bytes promise trace
    → n < count → OnOk r (IfSome bytes (λ held. into ≡ sector_of n held)) → OnOk r (into ≡ reads trace n)
read-bytes (Ok _) n into f within told =
    subst (λ (b : Option (List ℕ)). IfSome b (λ held. into ≡ sector_of n held)) f.known told ∙ sym (reads-sector f n within)
read-bytes (Err _) n into f within told = tt
