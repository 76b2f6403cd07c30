-- Numbers that follow one another, and what is left of them by what is written beside them.
use Rattle.std.proofs.Common.{◌≡◌, ◌==◌, ◌&&◌, ℕ, zero, suc, ◌+◌, ◌<◌, ◌≤◌, Bool, true, List, [], ◌∷◌, length}
use Rattle.std.proofs.Common.{get_or, drop, refl, sym, ◌∙◌, subst, inl, inr, arith}
use Rattle.std.proofs.lemmas.Bool.{cases_eq}
use Rattle.std.proofs.lemmas.Bool.Decides.{nat_tests}
use Rattle.ng_layout.specs.Fields.{SameBelow, SameFrom}
use Rattle.ng_layout.specs.Rows.{width, IsAt, AreAt, begin, follow, are_joined}
use Rattle.ng_layout.specs.declared.rows.Number.{Number}
use Rattle.ng_layout.specs.declared.rows.Number.TheVariants.{U8, U16, U64, I64}
use Rattle.ng_layout.proofs.ByteLemmas.{number-below, number-from, signed-below, signed-from, from-further, from-more}

abbrev pub Row : Type 0
Row = ℕ × Number

abbrev ends : Row → ℕ
ends row = row.0 + width row.1

pub at-below : (at m : ℕ) (number : Number) (old new : List ℕ) → SameBelow m old new → at + width number ≤ m
    → IsAt at number old → IsAt at number new
at-below at m (U8 n) old new s le is = number-below 1 at m old new s le ∙ is
at-below at m (U16 n) old new s le is = number-below 2 at m old new s le ∙ is
at-below at m (U64 n) old new s le is = number-below 8 at m old new s le ∙ is
at-below at m (I64 n) old new s le is = signed-below at m old new s le ∙ is

at-from : (at m : ℕ) (number : Number) (old new : List ℕ) → SameFrom m old new → m ≤ at → IsAt at number old
    → IsAt at number new
at-from at m (U8 n) old new s le is = number-from 1 m at old new s le ∙ is
at-from at m (U16 n) old new s le is = number-from 2 m at old new s le ∙ is
at-from at m (U64 n) old new s le is = number-from 8 m at old new s le ∙ is
at-from at m (I64 n) old new s le is = signed-from m at old new s le ∙ is

joins : (a b : ℕ) (rest : Bool) → ((a == b) && rest) ≡ true → (a ≡ b) × (rest ≡ true)
joins a b rest is = (grind (arith, nat_tests), grind (arith, nat_tests))

pub begin-most : (rows : List Row) (to : ℕ) → follow rows to ≡ true → begin rows to ≤ to
begin-most [] to joined = omega arith
begin-most (row ∷ rows) to joined = let j = joins _ _ (follow rows to) joined in omega
    (arith, j.0, begin-most rows to j.1)

begin-later : (rows : List Row) (to k : ℕ) → follow rows to ≡ true → begin rows to ≤ begin (drop k rows) to
begin-later rows to zero joined = omega arith
begin-later [] to (suc k) joined = omega arith
begin-later (row ∷ rows) to (suc k) joined = let j = joins _ _ (follow rows to) joined in omega
    (arith, j.0, begin-later rows to k j.1)

-- each number ends before the later ones begin
end-before : (rows : List Row) (to j k : ℕ) (d : Row) → follow rows to ≡ true → j < k → j < length rows
    → ends (get_or rows j d) ≤ begin (drop k rows) to
end-before rows to j zero d joined lt within = absurd (omega arith)
end-before [] to j (suc k) d joined lt within = absurd (omega arith)
end-before (row ∷ rows) to zero (suc k) d joined lt within = let j = joins _ _ (follow rows to) joined in omega
    (arith, j.0, begin-later rows to k j.1)
end-before (row ∷ rows) to (suc i) (suc k) d joined lt within =
    end-before rows to i k d (joins _ _ (follow rows to) joined).1 (omega arith) (omega arith)

begin-at : (rows : List Row) (to k : ℕ) (d : Row) → k < length rows → begin (drop k rows) to ≡ (get_or rows k d).0
begin-at [] to k d lt = absurd (omega arith)
begin-at (row ∷ rows) to zero d lt = refl
begin-at (row ∷ rows) to (suc k) d lt = begin-at rows to k d (omega arith)

pub starts : (rows : List Row) (from to : ℕ) → are_joined from rows to ≡ true → begin rows to ≡ from
starts rows from to joined = (joins _ _ (follow rows to) joined).0

pub follows : (rows : List Row) (from to : ℕ) → are_joined from rows to ≡ true → follow rows to ≡ true
follows rows from to joined = (joins _ _ (follow rows to) joined).1

-- the first k numbers are written
pub record AreTo (rows : List Row) (to k : ℕ) (old new : List ℕ) : Type 0 where
  pub each : (j : ℕ) (d : Row) → j < k → j < length rows → IsAt (get_or rows j d).0 (get_or rows j d).1 new
  pub beyond : SameFrom (begin (drop k rows) to) old new

pub row-fits : (rows : List Row) (to k : ℕ) (d : Row) → follow rows to ≡ true → k < length rows
    → ends (get_or rows k d) ≤ to
row-fits rows to k d joined lt = omega (arith, end-before rows to k (length rows) d joined lt lt, none-left rows)
  where
    none-left : (rows : List Row) → begin (drop (length rows) rows) to ≡ to
    none-left [] = refl
    none-left (row ∷ rows) = none-left rows

-- one number more is written
pub rows-more : (rows : List Row) (to k : ℕ) (old mid new : List ℕ) (d : Row) → follow rows to ≡ true
    → k < length rows → AreTo rows to k old mid
    → IsAt (get_or rows k d).0 (get_or rows k d).1 new → SameBelow (get_or rows k d).0 mid new
    → SameFrom (ends (get_or rows k d)) mid new → AreTo rows to (k + 1) old new
rows-more rows to k old mid new d joined lt so_far is below beyond = record {
  each = λ j e le within. elim (cases_eq j k) [
    | inl same ↦ subst (λ (r : Row). IsAt r.0 r.1 new) (sym ((λ i. get_or rows (same i) e) ∙ same-at rows k e d lt)) is
    | inr other ↦ at-below _ row.0 _ mid new below (before j e (omega arith) within)
        (so_far.each j e (omega arith) within)
  ];
  beyond = from-further (ends row) (begin (drop (k + 1) rows) to) old new
      (from-more row.0 (ends row) old mid new (subst (λ (n : ℕ). SameFrom n old mid) begins so_far.beyond) beyond
      (omega arith)) (end-before rows to k (k + 1) d joined (omega arith) lt);
}
  where
    row : Row
    row = get_or rows k d

    same-at : (rows : List Row) (k : ℕ) (d e : Row) → k < length rows → get_or rows k d ≡ get_or rows k e
    same-at [] k d e lt = absurd (omega arith)
    same-at (row ∷ rows) zero d e lt = refl
    same-at (row ∷ rows) (suc k) d e lt = same-at rows k d e (omega arith)

    begins : begin (drop k rows) to ≡ row.0
    begins = begin-at rows to k d lt

    before : (j : ℕ) (e : Row) → j < k → j < length rows → ends (get_or rows j e) ≤ row.0
    before j e le within = subst (λ (n : ℕ). ends (get_or rows j e) ≤ n) begins
        (end-before rows to j k e joined le within)

pub rows-all : (rows : List Row) (to k : ℕ) (old new : List ℕ) → length rows ≤ k → AreTo rows to k old new
    → AreAt rows new
rows-all rows to k old new all so_far = λ j d lt. so_far.each j d (omega arith) lt

pub rows-beyond : (rows : List Row) (to k : ℕ) (old new : List ℕ) → follow rows to ≡ true → AreTo rows to k old new
    → SameFrom to old new
rows-beyond rows to k old new joined so_far = from-further _ to old new so_far.beyond
    (begin-most (drop k rows) to (rest rows k joined))
  where
    rest : (rows : List Row) (k : ℕ) → follow rows to ≡ true → follow (drop k rows) to ≡ true
    rest rows zero joined = joined
    rest [] (suc k) joined = refl
    rest (row ∷ rows) (suc k) joined = rest rows k (joins _ _ (follow rows to) joined).1

-- what is written before all of these numbers leaves them
pub rows-from : (rows : List Row) (to m : ℕ) (old new : List ℕ) → follow rows to ≡ true → m ≤ begin rows to
    → SameFrom m old new → AreAt rows old → AreAt rows new
rows-from rows to m old new joined le s are = λ j d lt.
    at-from _ m _ old new s (omega (arith, begin-later rows to j joined, begin-at rows to j d lt)) (are j d lt)
