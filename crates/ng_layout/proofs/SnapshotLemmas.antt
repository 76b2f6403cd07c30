-- Sequences of sectors that hold a table or a text, read as a whole.
use Rattle.std.proofs.Common.{◌≡◌, ◌⊎◌, inl, inr, ℕ, zero, suc, ◌+◌, ◌*◌, ◌/◌, ◌%◌, ◌<◌, ◌≤◌, ◌&&◌, nat_le, Bool}
use Rattle.std.proofs.Common.{true, false, List, [], ◌∷◌, ◌++◌, map, take, length, get_or, ℤ, pos, unsigned_abs}
use Rattle.std.proofs.Common.{Option, Some, None, if◌then◌else◌, refl, sym, ◌∙◌, ap, subst, arith}
use Rattle.std.specs.List.{range_with_len, list_all}
use Rattle.std.proofs.lemmas.Bool.Decides.{nat_tests}
use Rattle.std.proofs.lemmas.List.FromFn.{fill_by_all}
use Rattle.ng_num.specs.Range.{IsCount, greatest}
use Rattle.ng_layout.specs.Fields.{signed_at}
use Rattle.ng_layout.specs.Fields.{number_at}
use Rattle.ng_layout.specs.Decoding.{and_then, up_to}
use Rattle.ng_offsets.specs.Tools.{IsToolLength}
use Rattle.ng_layout.specs.Tools.{tool_length_of, lengths_in, tools_in}
use Rattle.ng_layout.specs.declared.header.Format.{Format}
use Rattle.ng_layout.specs.declared.header.Format.TheVariants.{One, Two}
use Rattle.std.specs.List.{All}
use Rattle.std.proofs.lemmas.List.{take_more, take_all}
use Rattle.std.proofs.Common.{add-one}
use Rattle.ng_layout.proofs.ToolTableLemmas.{length-back}
use Rattle.ng_layout.specs.Sectors.{values, program_text, HoldsValues, TakesValues, IsBeyond, HoldsText}
use Rattle.ng_layout.specs.Snapshot.{decoded_state_in, HoldsPart, HoldsLengths, HoldsToolPart}
use Rattle.ng_layout.proofs.TableLemmas.{TableTo}
use Rattle.ng_layout.specs.Stands.{all_counts, snapshot}
use Rattle.ng_layout.specs.Stored.{StoredModel}

abbrev Row : Type 0
Row = ℕ → List ℕ

abbrev value_at : Row → ℕ → ℤ
value_at row p = signed_at (8 * (p % 64)) (row (1 + p / 64))

abbrev is_count : ℤ → Bool
is_count n = nat_le (unsigned_abs n) greatest

is_count-true : (n : ℤ) → IsCount n → is_count n ≡ true
is_count-true n small = grind (arith, nat_tests)

is_count-false : (n : ℤ) → ¬ IsCount n → is_count n ≡ false
is_count-false n large = go (is_count n) refl
  where
    go : (b : Bool) → is_count n ≡ b → is_count n ≡ false
    go false is = is
    go true is = absurd (large (grind (arith, nat_tests)))

all_true : (test : ℤ → Bool) (f : ℕ → ℤ) (a n : ℕ) → ((p : ℕ) → a ≤ p → p < a + n → test (f p) ≡ true) → list_all test (map f (range_with_len a n)) ≡ true
all_true test f a zero each = refl
all_true test f a (suc n) each =
    let one = each a (omega arith) (omega arith) in
    let others = all_true test f (a + 1) n (λ p from to. each p (omega arith) (omega arith)) in
    λ i. one i && others i

one_false : (test : ℤ → Bool) (f : ℕ → ℤ) (a n p : ℕ) → a ≤ p → p < a + n → test (f p) ≡ false → list_all test (map f (range_with_len a n)) ≡ false
one_false test f a zero p from to is = absurd (omega arith)
one_false test f a (suc n) p from to is = elim (at_or_after a p from) [
  | inl here ↦ let e : test (f a) ≡ false = ap (λ (x : ℕ). test (f x)) here
      ∙ is in ap (λ (b : Bool). b && list_all test (map f (range_with_len (a + 1) n))) e
      ∙ no_left (list_all test (map f (range_with_len (a + 1) n)))
  | inr later ↦ let e = one_false test f (a + 1) n p later (omega arith) is in ap (λ (b : Bool). test (f a) && b) e ∙ no_right (test (f a))
]
  where
    at_or_after : (a p : ℕ) → a ≤ p → (a ≡ p) ⊎ (a + 1 ≤ p)
    at_or_after a p le = grind arith

    no_left : (b : Bool) → (false && b) ≡ false
    no_left true = refl
    no_left false = refl

    no_right : (b : Bool) → (b && false) ≡ false
    no_right true = refl
    no_right false = refl

earlier : (n p : ℕ) → p < 64 * (n + 1) → (p < 64 * n) ⊎ ((p / 64 ≡ n) × (64 * n + p % 64 ≡ p))
earlier n p lt = elim (lt_cases p (64 * n)) [ inl before ↦ inl before | inr here ↦ inr (omega arith, omega arith) ]
  where
    lt_cases : (m k : ℕ) → (m < k) ⊎ (k ≤ m)
    lt_cases m k = grind arith

-- one more sector is copied
pub table-more : (old new : List ℤ) (n : ℕ) (row : Row) → TableTo old n row → TakesValues old new (64 * n) (row (1 + n)) → TableTo new (n + 1) row
table-more old new n row so_far taken = record {
  here = λ p lt within. elim (earlier n p lt) [
    | inl before ↦ taken.before p before ∙ so_far.here p before within
    | inr here ↦
        let here_is = taken.here (p % 64) (omega arith) (omega (arith, here.1)) (omega (arith, here.1, so_far.long)) in
        ap (λ (x : ℕ). get_or new x (pos 0)) (sym here.1) ∙ here_is ∙ ap (λ (x : ℕ). signed_at (8 * (p % 64)) (row (1 + x))) (sym here.0)
  ];
  counts = λ p lt within. elim (earlier n p lt) [
    | inl before ↦ so_far.counts p before within
    | inr here ↦ subst (λ (x : ℕ). IsCount (signed_at (8 * (p % 64)) (row (1 + x)))) (sym here.0) (taken.counts (p % 64) (omega arith) (omega (arith, here.1)))
  ];
  long = taken.long ∙ so_far.long;
}

counts-some : (xs : List ℤ) → list_all is_count xs ≡ true → all_counts xs ≡ Some xs
counts-some xs is = λ i. if is i then Some xs else None

pub record IsTable (table : List ℤ) (row : Row) : Type 0 where
  pub is : table ≡ values 5399 row
  pub counted : all_counts (values 5399 row) ≡ Some (values 5399 row)

-- and when all are, it is the table of the sectors
pub table-whole : (table : List ℤ) (row : Row) → TableTo table 85 row → IsTable table row
unfolding values
table-whole table row all = record {
  is = fill_by_all (value_at row) table 5399 (pos 0) all.long (λ p lt. all.here p (omega arith) lt);
  counted = counts-some _ (all_true is_count (value_at row) 0 5399 (λ p from to. is_count-true (value_at row p) (all.counts p (omega arith) (omega arith))));
}

-- a value out of range makes the table damaged
pub table-beyond : (n : ℕ) (row : Row) → n < 85 → IsBeyond (64 * n) (row (1 + n)) → all_counts (values 5399 row) ≡ None
unfolding values
table-beyond n row lt b =
    let p = 64 * n + b.k in
    let sector : p / 64 ≡ n = let w = b.within in omega arith in
    let place : p % 64 ≡ b.k = let w = b.within in omega arith in
    let is : value_at row p ≡ signed_at (8 * b.k) (row (1 + n)) = λ i. signed_at (8 * place i) (row (1 + sector i)) in
    let large : is_count (value_at row p) ≡ false = is_count-false (value_at row p) (λ small. b.beyond (subst IsCount is small)) in
    let none = one_false is_count (value_at row) 0 5399 p (omega arith) (let t = b.there in omega arith) large in
    λ i. if none i then Some (map (value_at row) (range_with_len 0 5399)) else None

-- If sectors hold a table, they read as that table.
pub values-whole : (table : List ℤ) (row : Row) → length table ≡ 5399 → ((i : ℕ) → i < 85 → HoldsValues table (64 * i) (row (1 + i))) → IsTable table row
values-whole table row long each = table-whole table row (record {
  here = λ p lt within. let e = (each (p / 64) (omega arith)).each (p % 64) (omega arith) (omega arith) in ap
      (λ (x : ℕ). get_or table x (pos 0)) (parts p) ∙ sym e;
  counts = λ p lt within. (each (p / 64) (omega arith)).counts (p % 64) (omega arith) (omega arith);
  long = long;
})
  where
    parts : (p : ℕ) → p ≡ 64 * (p / 64) + p % 64
    parts p = omega arith

-- If sectors hold the parts of a snapshot and of a tool area, they read as that snapshot.
pub snapshot-new : (format : Format) (saved : StoredModel) (row area : Row) → length saved.setup.params ≡ 5399
    → ((part : ℕ) → part < 86 → HoldsPart saved part (row part)) → tools_in format (row 0) area ≡ Some saved.tools
    → snapshot format saved.length row area ≡ Some (record { decoded = decoded_state_in saved; params = saved.setup.params; tools = saved.tools })
unfolding snapshot
snapshot-new format saved row area long each table_is =
    let decoded = ((each 0 (omega arith)).state refl).read in
    let table = values-whole saved.setup.params row long (λ i lt. (each (1 + i) (omega arith)).values i refl) in
    let counted : all_counts (values 5399 row) ≡ Some saved.setup.params = table.counted ∙ ap (λ (xs : List ℤ). Some xs) (sym table.is) in
    λ i. and_then (decoded i) (λ r. and_then (counted i) (λ xs. and_then (table_is i) (λ tools. Some (record { decoded = r; params = xs; tools = tools }))))

-- If a tool area holds a table, it reads as that table.
module _ (tools : List ℤ) (area : Row) (each : (part : ℕ) → part < 2 → HoldsLengths tools (64 * part) (area part))
    (long : All IsToolLength tools) (few : length tools ≤ 128) where
  one-length : (n : ℕ) → n < length tools → tool_length_of (signed_at (8 * (n % 64)) (area (n / 64))) ≡ Some (get_or tools n (pos 0))
  one-length n lt =
      let is : signed_at (8 * (n % 64)) (area (n / 64)) ≡ get_or tools (64 * (n / 64) + n % 64) (pos 0) =
      (each (n / 64) (omega arith)).each (n % 64) (omega arith) (omega arith) in
      let place : 64 * (n / 64) + n % 64 ≡ n = omega arith in
      ap tool_length_of (is ∙ ap (λ (k : ℕ). get_or tools k (pos 0)) place) ∙ length-back (get_or tools n (pos 0)) (long n (pos 0) lt)

  lengths-to : (n : ℕ) → n ≤ length tools → lengths_in area n ≡ Some (take n tools)
  unfolding lengths_in
  lengths-to zero le = refl
  lengths-to (suc n) le =
      let rest = lengths-to n (omega arith) in
      let one = one-length n (omega arith) in
      (λ i. and_then (rest i) (λ earlier. and_then (one i) (λ tool. Some (earlier ++ tool ∷ []))))
      ∙ ap (λ (l : List ℤ). Some l) (sym (take_more tools n (pos 0) (omega arith))
      ∙ ap (λ (k : ℕ). take k tools) (add-one n))

  pub lengths-whole : lengths_in area (length tools) ≡ Some tools
  lengths-whole = lengths-to (length tools) (omega arith) ∙ ap (λ (l : List ℤ). Some l) (take_all (length tools) tools (omega arith))

up-to : (limit n : ℕ) → n ≤ limit → up_to limit n ≡ Some n
up-to limit n le = grind (arith, nat_tests)

-- the table that a format stores: none in format 1
pub tools-new : (format : Format) (saved : StoredModel) (first : List ℕ) (area : Row)
    → number_at 2 456 first ≡ length saved.tools → length saved.tools ≤ 128 → All IsToolLength saved.tools
    → (format ≡ One → saved.tools ≡ [])
    → (format ≡ Two → (part : ℕ) → part < 2 → HoldsToolPart saved part (area part))
    → tools_in format first area ≡ Some saved.tools
tools-new One saved first area slots few long none parts = ap (λ (l : List ℤ). Some l) (sym (none refl))
tools-new Two saved first area slots few long none parts =
    (λ i. and_then (up_to 128 (slots i)) (λ n. lengths_in area n))
    ∙ ap (λ (o : Option ℕ). and_then o (λ n. lengths_in area n)) (up-to 128 (length saved.tools) few)
    ∙ lengths-whole saved.tools area (parts refl) long few

-- If sectors hold a text, they read as that text.
pub text-whole : (text : List ℕ) (row : Row) → ((j : ℕ) → 512 * j < length text → HoldsText text (512 * j) (row j)) → program_text (length text) row ≡ text
unfolding program_text
text-whole text row each = sym (fill_by_all (λ i. get_or (row (i / 512)) (i % 512) 0) text (length text) 0 refl (λ p lt.
    let e = (each (p / 512) (omega arith)).each (p % 512) (omega arith) in
    ap (λ (x : ℕ). get_or text x 0) (parts p) ∙ sym e))
  where
    parts : (p : ℕ) → p ≡ 512 * (p / 512) + p % 512
    parts p = omega arith
