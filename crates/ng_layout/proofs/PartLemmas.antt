-- The labels and the changes of parts.
use Rattle.std.proofs.Common.{◌≡◌, ℕ, zero, suc, ◌+◌, ◌-◌, ◌*◌, ◌<◌, ◌≤◌, ◌==◌, ◌&&◌, true, List, [], ◌∷◌, ◌++◌}
use Rattle.std.proofs.Common.{length, take, drop, ℤ, pos, Option, Some, None, refl, sym, ◌∙◌, ap, subst}
use Rattle.std.proofs.Common.{arith, add-one, append-nil, length-drop, replicate}
use Rattle.std.proofs.lemmas.Bool.Decides.{nat_tests}
use Rattle.std.proofs.lemmas.List.{drop_at, drop_all, drop-drop, length-take-le, take_all}
use borrow.Rule.Slice.PartMut.{put_mid, post_of, take_put}
use Rattle.ng_num.specs.Range.{IsCount}
use Rattle.ng_params.specs.Numbers.{index_of}
use Rattle.ng_params.specs.Change.{with_changes}
use Rattle.ng_params.specs.declared.change.Change.{Change}
use Rattle.ng_layout.specs.Fields.{number_at, signed_at, AreZero, SameBelow, SameFrom, Puts}
use Rattle.ng_layout.specs.Log.{PartHeader, is_part, change_at}
use Rattle.ng_layout.specs.Part.{changes_in, HoldsLabel, HoldsChanges, Makes}
use Rattle.ng_layout.specs.Decoding.{and_then, count_of}
use Rattle.ng_layout.proofs.ByteLemmas.{number-below, signed-below, bytes-below}
use Rattle.ng_layout.proofs.SectorLemmas.{zeros-from}
use Rattle.ng_layout.proofs.CodecLemmas.{count-back}

five : (a b c d e p q r s t : ℕ) → a ≡ p → b ≡ q → c ≡ r → d ≡ s → e ≡ t → ((a == p) && (b == q) && (c == r) && (d == s) && (e == t)) ≡ true
five a b c d e p q r s t v w x y z = grind (arith, nat_tests)

pub labelled : (l : PartHeader) (sector : List ℕ) → number_at 8 0 sector ≡ l.epoch → number_at 8 8 sector ≡ l.number
    → number_at 2 16 sector ≡ l.part → number_at 2 18 sector ≡ l.parts → number_at 2 20 sector ≡ l.changes
    → is_part l sector ≡ true
unfolding is_part
labelled l sector a b c d e = five _ _ _ _ _ l.epoch l.number l.part l.parts l.changes a b c d e

pub is_part-below : (l : PartHeader) (at : ℕ) (old new : List ℕ) → SameBelow at old new → 22 ≤ at → is_part l new ≡ is_part l old
unfolding is_part
is_part-below l at old new s le =
    let a = number-below 8 0 at old new s (omega arith) in
    let b = number-below 8 8 at old new s (omega arith) in
    let c = number-below 2 16 at old new s (omega arith) in
    let d = number-below 2 18 at old new s (omega arith) in
    let e = number-below 2 20 at old new s (omega arith) in
    λ i. (a i == l.epoch) && (b i == l.number) && (c i == l.part) && (d i == l.parts) && (e i == l.changes)

-- what is put after a label doesn't change it
pub label-below : (l : PartHeader) (at : ℕ) (old new : List ℕ) → SameBelow at old new → 32 ≤ at → HoldsLabel l old → HoldsLabel l new
label-below l at old new s le h = record {
  is = is_part-below l at old new s (omega arith) ∙ h.is;
  gap = bytes-below 10 22 at old new s (omega arith) ∙ h.gap;
}

pub change-below : (o at : ℕ) (old new : List ℕ) → SameBelow at old new → o + 10 ≤ at → change_at new o ≡ change_at old o
change-below o at old new s le =
    let a = number-below 2 o at old new s (omega arith) in
    let b = signed-below (o + 2) at old new s (omega arith) in
    λ i. and_then (index_of (pos (a i))) (λ index. and_then (count_of (b i)) (λ value. Some (record { index = index; value = value })))

pub changes-below : (n at : ℕ) (old new : List ℕ) → SameBelow at old new → 32 + 10 * n ≤ at → changes_in new n ≡ changes_in old n
unfolding changes_in
changes-below zero at old new s le = refl
changes-below (suc n) at old new s le =
    let rest = changes-below n at old new s (omega arith) in
    let one = change-below (32 + 10 * n) at old new s (omega arith) in
    λ i. and_then (rest i) (λ earlier. and_then (one i) (λ change. Some (earlier ++ change ∷ [])))

pub no_changes : (sector : List ℕ) → changes_in sector 0 ≡ Some []
unfolding changes_in
no_changes sector = refl

changes_suc : (sector : List ℕ) (n : ℕ) (xs : List Change) (c : Change) → changes_in sector n ≡ Some xs
    → change_at sector (32 + 10 * n) ≡ Some c → changes_in sector (suc n) ≡ Some (xs ++ c ∷ [])
unfolding changes_in
changes_suc sector n xs c before one = λ i. and_then (before i) (λ earlier. and_then (one i) (λ change. Some (earlier ++ change ∷ [])))

pub one_change_more : (sector : List ℕ) (n : ℕ) (xs : List Change) (c : Change) → changes_in sector n ≡ Some xs
    → change_at sector (32 + 10 * n) ≡ Some c → changes_in sector (n + 1) ≡ Some (xs ++ c ∷ [])
one_change_more sector n xs c before one = ap (changes_in sector) (add-one n) ∙ changes_suc sector n xs c before one

none_suc : (sector : List ℕ) (n : ℕ) → change_at sector (32 + 10 * n) ≡ None → changes_in sector (suc n) ≡ None
unfolding changes_in
none_suc sector n one =
    (λ i. and_then (changes_in sector n) (λ earlier. and_then (one i) (λ change. Some (earlier ++ change ∷ []))))
    ∙ never (changes_in sector n)
  where
    never : (o : Option (List Change)) → and_then o (λ earlier. and_then {B = List Change} None (λ (change : Change). Some (earlier ++ change ∷ []))) ≡ None
    never None = refl
    never (Some x) = refl

none_more : (sector : List ℕ) (n : ℕ) → changes_in sector n ≡ None → changes_in sector (suc n) ≡ None
unfolding changes_in
none_more sector n none = λ i. and_then (none i) (λ earlier. and_then (change_at sector (32 + 10 * n)) (λ change. Some (earlier ++ change ∷ [])))

none_later : (sector : List ℕ) (k n : ℕ) → changes_in sector k ≡ None → changes_in sector (k + n) ≡ None
none_later sector k zero none = let e : k + 0 ≡ k = omega arith in ap (changes_in sector) e ∙ none
none_later sector k (suc n) none = let e : k + suc n ≡ suc (k + n) = omega arith in ap (changes_in sector) e
    ∙ none_more sector (k + n) (none_later sector k n none)

-- a change that is out of range makes all of them damaged
pub one_damaged : (sector : List ℕ) (k n : ℕ) → k < n → change_at sector (32 + 10 * k) ≡ None → changes_in sector n ≡ None
one_damaged sector k n lt one =
    let e : n ≡ suc k + (n - suc k) = omega arith in
    ap (changes_in sector) e ∙ none_later sector (suc k) (n - suc k) (none_suc sector k one)

in_order : (n : ℕ) → 1 ≤ n → n ≤ 5399 → index_of (pos n) ≡ Some n
in_order n low high = grind (arith, nat_tests)

-- a change that was put at its place
pub change_put : (at index : ℕ) (value : ℤ) (old mid new : List ℕ) → 1 ≤ index → index ≤ 5399 → IsCount value
    → Puts (number_at 2 at) at (at + 2) index old mid → Puts (signed_at (at + 2)) (at + 2) (at + 2 + 8) value mid
    new → change_at new at ≡ Some (record { index = index; value = value })
change_put at index value old mid new low high small p q =
    let a : number_at 2 at new ≡ index = number-below 2 at (at + 2) mid new q.below (omega arith) ∙ p.written in
    let b : index_of (pos (number_at 2 at new)) ≡ Some index = ap (λ (n : ℕ). index_of (pos n)) a ∙ in_order index low high in
    let c : count_of (signed_at (at + 2) new) ≡ Some value = ap count_of q.written ∙ count-back value small in
    λ i. and_then (b i) (λ x. and_then (c i) (λ y. Some (record { index = x; value = y })))

-- what was put from a place on to the end
pub rest_put : (at k : ℕ) (xs ys : List ℕ) → at ≤ length xs → length xs ≤ at + k → drop at (put_mid at k xs ys) ≡ ys
rest_put at k xs ys fits all =
    let front : length (take at xs) ≡ at = length-take-le at xs fits in
    let none : post_of at k xs ≡ [] = drop-drop k at xs ∙ drop_all (at + k) xs all in
    drop_at (take at xs) (ys ++ post_of at k xs) at front ∙ ap (λ (l : List ℕ). ys ++ l) none ∙ append-nil ys

-- what holds of a part up to its end, and of what was put in its place, holds of the sequence from that position on
pub whole_put : (P : List ℕ → List ℕ → Type 0) (at k : ℕ) (xs ys : List ℕ) → length xs ≡ at + k
    → P (take k (drop at xs)) ys → P (drop at xs) (drop at (put_mid at k xs ys))
whole_put P at k xs ys long holds =
    let all : take k (drop at xs) ≡ drop at xs = take_all k (drop at xs) (omega (arith, length-drop at xs, long)) in
    subst (λ (l : List ℕ). P l (drop at (put_mid at k xs ys))) all
    (subst (P (take k (drop at xs))) (sym (rest_put at k xs ys (omega arith) (omega arith))) holds)

pub front_put : (at k : ℕ) (xs ys : List ℕ) → at ≤ length xs → SameBelow at xs (put_mid at k xs ys)
front_put at k xs ys fits = record { same = take_put at k xs ys fits }

-- all changes of a part were put, followed by zeros
pub holds_changes : (changes : List Change) (k : ℕ) (sector : List ℕ) → length changes ≤ k → k ≤ length changes
    → length changes ≤ 48 → changes_in sector k ≡ Some (take k changes)
    → SameFrom (32 + 10 * k) (replicate 512 0) sector → HoldsChanges changes sector
holds_changes changes k sector most least few made rest =
    let all : k ≡ length changes = omega arith in
    let long : 512 - (32 + 10 * length changes) ≡ 480 - 10 * length changes = omega arith in
    record {
      made = ap (changes_in sector) (sym all) ∙ made ∙ ap (λ (l : List Change). Some l) (take_all k changes most);
      rest = subst (λ (n : ℕ). AreZero n (32 + 10 * length changes) sector) long
          (zeros-from (32 + 10 * k) (32 + 10 * length changes) sector rest (omega arith) (omega arith));
    }

with_push : (table : List ℤ) (changes : List Change) (last : Change)
    → with_changes table (changes ++ last ∷ []) ≡ with_changes (with_changes table changes) (last ∷ [])
with_push table [] last = refl
with_push table (change ∷ changes) last = with_push (with_changes table (change ∷ [])) changes last

pub makes_none : (sector : List ℕ) (table : List ℤ) → Makes sector 0 table table
makes_none sector table = record { changes = []; there = no_changes sector; is = refl }

pub makes_more : (sector : List ℕ) (n : ℕ) (old mid new : List ℤ) (c : Change) → Makes sector n old mid
    → change_at sector (32 + 10 * n) ≡ Some c → new ≡ with_changes mid (c ∷ []) → Makes sector (n + 1) old new
makes_more sector n old mid new c m one is = record {
  changes = m.changes ++ c ∷ [];
  there = one_change_more sector n m.changes c m.there one;
  is = is ∙ ap (λ (t : List ℤ). with_changes t (c ∷ [])) m.is ∙ sym (with_push old m.changes c);
}
