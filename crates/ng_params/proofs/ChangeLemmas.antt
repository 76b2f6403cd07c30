-- The changes between two tables, found parameter by parameter.
use Rattle.std.proofs.Common.{◌≡◌, ◌≢◌, ℕ, ◌+◌, ◌-◌, ◌<◌, ◌≤◌, Bool, true, false, not, List, [], ◌∷◌, ◌++◌, length}
use Rattle.std.proofs.Common.{get_or, set, map, ℤ, pos, ap, sym, subst, refl, inl, inr, ◌∙◌, arith, append_assoc}
use Rattle.std.proofs.Common.{drop, take, int_eq}
use Rattle.std.specs.List.{Contains}
use Rattle.std.specs.List.Sorted.{IsStrictlyIncreasing}
use Rattle.std.proofs.lemmas.Bool.{cases_lt}
use Rattle.std.proofs.lemmas.Bool.Decides.{Decides-int_eq}
use Rattle.std.proofs.lemmas.List.{append-nil, length_push, length-take-le, set_at, drop_more, take_more, take_all}
use Rattle.std.proofs.lemmas.List.{drop_all, get_or_append_left, get_or_push, get_or_past, get_or_read, map_push}
use Rattle.std.proofs.lemmas.List.Elements.{Contains-push, Contains-push_cases, Contains-append_left}
use Rattle.ng_params.specs.Params.{with_value}
use Rattle.ng_params.specs.Change.{with_changes, IsDifference, AreDifferences}
use Rattle.ng_params.specs.declared.change.Change.{Change}

-- the numbers of the changed parameters
abbrev pub numbers : List Change → List ℕ
numbers changes = map (λ c. c.index) changes

-- the changes are those of the first k parameters
pub record AreChangesTo (k : ℕ) (old new : List ℤ) (changes : List Change) : Type 0 where
  pub restores : with_changes old changes ≡ take k new ++ drop k old
  pub found : (change : Change) → Contains changes change → IsDifference old new change × (change.index ≤ k)
  pub all : (change : Change) → IsDifference old new change → change.index ≤ k → Contains changes change
  pub rising : IsStrictlyIncreasing (numbers changes)
  pub below : (j : ℕ) → j < length (numbers changes) → get_or (numbers changes) j 0 ≤ k

-- ---- tests

no_not : (t : Bool) → not t ≡ false → t ≡ true
no_not true e = refl
no_not false e = sym e

same_from : (a b : ℤ) → not (int_eq a b) ≡ false → b ≡ a
same_from a b test = sym ((Decides-int_eq a b).0 (no_not _ test))

apart_from : (a b : ℤ) → not (int_eq a b) ≡ true → b ≢ a
apart_from a b test e =
    let equal : int_eq a b ≡ true = (Decides-int_eq a b).1 (sym e) in
    let never : false ≡ true = sym (ap not equal) ∙ test in
    cc

-- ---- one more change

with_changes-push : (table : List ℤ) (changes : List Change) (last : Change)
    → with_changes table (changes ++ last ∷ []) ≡ with_value (with_changes table changes) last.index last.value
with_changes-push table [] last = refl
with_changes-push table (change ∷ changes) last = with_changes-push (with_value table change.index change.value) changes last

rising_push : (xs : List ℕ) (y : ℕ) → IsStrictlyIncreasing xs → ((j : ℕ) → j < length xs → get_or xs j 0 < y) → IsStrictlyIncreasing (xs ++ y ∷ [])
rising_push xs y up below j within =
    let here : j < length xs = omega (arith, length_push xs y) in
    elim (cases_lt (j + 1) (length xs)) [
      | inl inside ↦ omega (arith, get_or_append_left xs (y ∷ []) 0 j here, get_or_append_left xs (y ∷ []) 0 (j + 1) inside, up j inside)
      | inr last ↦ omega (arith, get_or_append_left xs (y ∷ []) 0 j here, get_or_push xs y 0 (j + 1) (omega arith), below j here)
    ]

below_push : (xs : List ℕ) (y k : ℕ) → y ≤ k + 1 → ((j : ℕ) → j < length xs → get_or xs j 0 ≤ k) → (j : ℕ)
    → j < length (xs ++ y ∷ []) → get_or (xs ++ y ∷ []) j 0 ≤ k + 1
below_push xs y k small below j within =
    elim (cases_lt j (length xs)) [
      | inl inside ↦ omega (arith, get_or_append_left xs (y ∷ []) 0 j inside, below j inside)
      | inr last ↦ omega (arith, get_or_push xs y 0 j (omega (arith, length_push xs y)))
    ]

restored_push : (k : ℕ) (old new : List ℤ) → k < length old → k < length new
    → set (take k new ++ drop k old) k (get_or new k (pos 0)) ≡ take (k + 1) new ++ drop (k + 1) old
restored_push k old new in_old in_new =
    let value = get_or new k (pos 0) in
    ap (λ (l : List ℤ). set (take k new ++ l) k value) (drop_more old k (pos 0) in_old)
    ∙ set_at (take k new) _ (drop (k + 1) old) value k (length-take-le k new (omega arith))
    ∙ sym (append_assoc (take k new) (value ∷ []) (drop (k + 1) old))
    ∙ ap (λ (l : List ℤ). l ++ drop (k + 1) old) (sym (take_more new k (pos 0) in_new))

restored_same : (k : ℕ) (old new : List ℤ) → k < length old → k < length new → get_or old k (pos 0) ≡ get_or new k (pos 0)
    → take k new ++ drop k old ≡ take (k + 1) new ++ drop (k + 1) old
restored_same k old new in_old in_new same =
    ap (λ (l : List ℤ). take k new ++ l) (drop_more old k (pos 0) in_old)
    ∙ ap (λ (v : ℤ). take k new ++ v ∷ drop (k + 1) old) same
    ∙ sym (append_assoc (take k new) (get_or new k (pos 0) ∷ []) (drop (k + 1) old))
    ∙ ap (λ (l : List ℤ). l ++ drop (k + 1) old) (sym (take_more new k (pos 0) in_new))

-- the change of parameter k + 1
abbrev pub change_at : ℕ → List ℤ → Change
change_at k new = record { index = k + 1; value = get_or new k (pos 0) }

last_differs : (k : ℕ) (old new : List ℤ) → get_or old k (pos 0) ≢ get_or new k (pos 0) → IsDifference old new (change_at k new)
last_differs k old new apart =
    let place : k ≡ k + 1 - 1 = omega arith in
    let Apart : ℕ → Type 0 = λ i. get_or old i (pos 0) ≢ get_or new i (pos 0) in
    record {
      low = omega arith;
      differs = subst Apart place apart;
      value = ap (λ i. get_or new i (pos 0)) place;
    }

-- a difference at parameter k + 1 is that change
is_last : (k : ℕ) (old new : List ℤ) (change : Change) → IsDifference old new change → change.index ≡ k + 1 → change_at k new ≡ change
is_last k old new change d at_last =
    let place : k ≡ change.index - 1 = omega arith in
    let value : get_or new k (pos 0) ≡ change.value = ap (λ i. get_or new i (pos 0)) place ∙ sym d.value in
    let P : ℕ → Type 0 = λ i. change_at k new ≡ record { index = i; value = change.value } in
    subst P (sym at_last) (ap (λ (v : ℤ). record { index = k + 1; value = v }) value)

all_push : (k : ℕ) (old new : List ℤ) (changes : List Change) → AreChangesTo k old new changes
    → (change : Change) → IsDifference old new change → change.index ≤ k + 1 → Contains (changes ++ change_at k new ∷ []) change
all_push k old new changes h change d small =
    let P : Change → Type 0 = λ c. Contains (changes ++ change_at k new ∷ []) c in
    elim (cases_lt k change.index) [
      | inl last ↦ subst P (is_last k old new change d (omega arith)) (Contains-push changes (change_at k new))
      | inr before ↦ Contains-append_left changes (change_at k new ∷ []) change (h.all change d before)
    ]

found_push : (k : ℕ) (old new : List ℤ) (changes : List Change) → get_or old k (pos 0) ≢ get_or new k (pos 0) → AreChangesTo k old new changes
    → (change : Change) → Contains (changes ++ change_at k new ∷ []) change → IsDifference old new change × (change.index ≤ k + 1)
found_push k old new changes apart h change among =
    let P : Change → Type 0 = λ c. IsDifference old new c × (c.index ≤ k + 1) in
    elim (Contains-push_cases changes (change_at k new) change among) [
      | inl before ↦ ((h.found change before).0, omega (arith, (h.found change before).1))
      | inr last ↦ subst P last (last_differs k old new apart, omega arith)
    ]

changes_push : (k : ℕ) (old new : List ℤ) (changes : List Change) → k < length old → k < length new → get_or old k (pos 0) ≢ get_or new k (pos 0)
    → AreChangesTo k old new changes → AreChangesTo (k + 1) old new (changes ++ change_at k new ∷ [])
changes_push k old new changes in_old in_new apart h =
    let value = get_or new k (pos 0) in
    let place : k + 1 - 1 ≡ k = omega arith in
    let more : numbers (changes ++ change_at k new ∷ []) ≡ numbers changes ++ (k + 1) ∷ [] = map_push (λ (c : Change). c.index) changes (change_at k new) in
    let Below : List ℕ → Type 0 = λ xs. (j : ℕ) → j < length xs → get_or xs j 0 ≤ k + 1 in
    record {
      restores = with_changes-push old changes (change_at k new)
          ∙ ap (λ (l : List ℤ). set l (k + 1 - 1) value) h.restores
          ∙ ap (λ i. set (take k new ++ drop k old) i value) place
          ∙ restored_push k old new in_old in_new;
      found = found_push k old new changes apart h;
      all = all_push k old new changes h;
      rising = subst IsStrictlyIncreasing (sym more) (rising_push (numbers changes) (k + 1) h.rising (λ j within. omega (arith, h.below j within)));
      below = subst Below (sym more) (below_push (numbers changes) (k + 1) k (omega arith) h.below);
    }

-- no difference is at parameter k + 1
not_last : (k : ℕ) (old new : List ℤ) (change : Change) → get_or old k (pos 0) ≡ get_or new k (pos 0) → IsDifference old new change → change.index ≡ k + 1 → ⊥
not_last k old new change same d at_last =
    let place : k ≡ change.index - 1 = omega arith in
    let Same : ℕ → Type 0 = λ i. get_or old i (pos 0) ≡ get_or new i (pos 0) in
    d.differs (subst Same place same)

changes_same : (k : ℕ) (old new : List ℤ) (changes : List Change) → k < length old → k < length new → get_or old k (pos 0) ≡ get_or new k (pos 0)
    → AreChangesTo k old new changes → AreChangesTo (k + 1) old new changes
changes_same k old new changes in_old in_new same h = record {
  restores = h.restores ∙ restored_same k old new in_old in_new same;
  found = λ change among. ((h.found change among).0, omega (arith, (h.found change among).1));
  all = λ change d small. elim (cases_lt k change.index) [
    | inl last ↦ absurd (not_last k old new change same d (omega arith))
    | inr before ↦ h.all change d before
  ];
  rising = h.rising;
  below = λ j within. omega (arith, h.below j within);
}

-- the value read at k
read : (k : ℕ) (table : List ℤ) (value : ℤ) → k < 5399 → length table ≡ 5399 → value ≡ get_or table k value → value ≡ get_or table k (pos 0)
read k table value within whole is = get_or_read table k value (omega arith) is (pos 0)

-- a step of the loop, if the two values differ
pub step_push : (k : ℕ) (old new : List ℤ) (changes more : List Change) (index : ℕ) (value was : ℤ) (test : Bool)
    → k < 5399 → length old ≡ 5399 → length new ≡ 5399 → value ≡ get_or new k value → was ≡ get_or old k was
    → test ≡ not (int_eq value was) → test ≡ true → index ≡ k + 1
    → more ≡ changes ++ record { index = index; value = value } ∷ [] → AreChangesTo k old new changes → AreChangesTo (k + 1) old new more
step_push k old new changes more index value was test within whole_old whole_new is_value is_was is_test holds is_index is_more h =
    let value_is : value ≡ get_or new k (pos 0) = read k new value within whole_new is_value in
    let was_is : was ≡ get_or old k (pos 0) = read k old was within whole_old is_was in
    let last : record { index = index; value = value } ≡ change_at k new =
    ap (λ (i : ℕ). let c : Change = record { index = i; value = value } in c) is_index
    ∙ ap (λ (v : ℤ). let c : Change = record { index = k + 1; value = v } in c) value_is in
    let apart : get_or old k (pos 0) ≢ get_or new k (pos 0) = rw (← was_is, ← value_is) (apart_from value was (sym is_test ∙ holds)) in
    subst (AreChangesTo (k + 1) old new) (sym (is_more ∙ ap (λ (c : Change). changes ++ c ∷ []) last))
    (changes_push k old new changes (omega arith) (omega arith) apart h)

-- a step of the loop, if they are equal
pub step_same : (k : ℕ) (old new : List ℤ) (changes more : List Change) (value was : ℤ) (test : Bool)
    → k < 5399 → length old ≡ 5399 → length new ≡ 5399 → value ≡ get_or new k value → was ≡ get_or old k was
    → test ≡ not (int_eq value was) → test ≡ false → more ≡ changes → AreChangesTo k old new changes → AreChangesTo (k + 1) old new more
step_same k old new changes more value was test within whole_old whole_new is_value is_was is_test fails is_more h =
    let same : get_or old k (pos 0) ≡ get_or new k (pos 0) =
    sym (read k old was within whole_old is_was) ∙ same_from value was (sym is_test ∙ fails) ∙ read k new value within whole_new is_value in
    subst (AreChangesTo (k + 1) old new) (sym is_more) (changes_same k old new changes (omega arith) (omega arith) same h)

-- ---- none yet, and all

pub changes_none : (old new : List ℤ) → AreChangesTo 0 old new []
changes_none old new = record {
  restores = refl;
  found = λ change among. absurd (omega (arith, among.1));
  all = λ change d small. absurd (omega (arith, d.low));
  rising = λ k within. absurd (omega arith);
  below = λ j within. absurd (omega arith);
}

pub changes_restore : (k : ℕ) (old new : List ℤ) (changes : List Change) → length old ≤ k → length new ≤ k
    → AreChangesTo k old new changes → with_changes old changes ≡ new
changes_restore k old new changes all_old all_new h =
    h.restores
    ∙ ap (λ (l : List ℤ). l ++ drop k old) (take_all k new all_new)
    ∙ ap (λ (l : List ℤ). new ++ l) (drop_all k old all_old)
    ∙ append-nil new

-- a difference is at an existing parameter
is_within : (k : ℕ) (old new : List ℤ) (change : Change) → length old ≤ k → length new ≤ k → IsDifference old new change → change.index ≤ k
is_within k old new change all_old all_new d =
    elim (cases_lt k change.index) [
      | inl past ↦ absurd (d.differs (get_or_past old (change.index - 1) (pos 0) (omega arith)
          ∙ sym (get_or_past new (change.index - 1) (pos 0) (omega arith))))
      | inr within ↦ within
    ]

pub changes_differ : (k : ℕ) (old new : List ℤ) (changes : List Change) → length old ≤ k → length new ≤ k
    → AreChangesTo k old new changes → AreDifferences old new changes
changes_differ k old new changes all_old all_new h change =
    (λ among. (h.found change among).0, λ d. h.all change d (is_within k old new change all_old all_new d))
