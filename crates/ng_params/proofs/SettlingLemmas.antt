-- The differences that changes make, found at one changed parameter after the other.
use Rattle.std.proofs.Common.{◌≡◌, ◌≢◌, inl, inr, ℕ, zero, suc, ◌+◌, ◌-◌, ◌<◌, ◌≤◌, min, true, false, not}
use Rattle.std.proofs.Common.{cond, nat_le, List, [], ◌∷◌, ◌++◌, length, get_or, map, ℤ, int_eq, Option, Some, None}
use Rattle.std.proofs.Common.{MatchOption, refl, sym, ◌∙◌, ap, subst, arith}
use Rattle.std.specs.List.{Contains}
use Rattle.std.proofs.lemmas.Bool.{cases_lt}
use Rattle.std.proofs.lemmas.Bool.Decides.{Decides-int_eq, nat_tests}
use Rattle.std.proofs.lemmas.List.{length_push, map_push}
use Rattle.std.proofs.lemmas.List.Elements.{Contains-push, Contains-append_left}
use Rattle.ng_params.specs.Params.{at}
use Rattle.ng_params.specs.Change.{with_changes}
use Rattle.ng_params.specs.Assignments.{AreOthers}
use Rattle.ng_params.specs.Differences.{differences_to, differences, ChangesNoneAbove, IsNextChanged}
use Rattle.ng_params.specs.declared.change.Change.{Change}
use Rattle.ng_params.proofs.AssignmentLemmas.{at-others}
use Rattle.ng_params.proofs.DifferenceLemmas.{none_yet, suc_same, next_same, next_other, differences-all}

-- ---- the next parameter that is changed

abbrev numbers : List Change → List ℕ
numbers changes = map (λ c. c.index) changes

-- the next one is this, if there is one
abbrev pub IsNext : ℕ → List Change → Option ℕ → Type 0
IsNext p changes next = MatchOption next (ChangesNoneAbove p changes) (IsNextChanged p changes)

pub next_none : (p : ℕ) → IsNext p [] None
next_none p q above = tt

others_push : (q : ℕ) (changes : List Change) (last : Change) → 1 ≤ last.index → last.index ≢ q → AreOthers q changes
    → AreOthers q (changes ++ last ∷ [])
others_push q [] last some other h = (some, other, tt)
others_push q (c ∷ changes) last some other h = (h.0, h.1, others_push q changes last some other h.2)

-- one more change, of the next parameter so far
new_push : (p : ℕ) (changes : List Change) (last : Change) → 1 ≤ last.index → p < last.index
    → ((q : ℕ) → p < q → q < last.index → AreOthers q changes) → IsNextChanged p (changes ++ last ∷ []) last.index
new_push p changes last some above first = record {
  above = above;
  changed = subst (λ (l : List ℕ). Contains l last.index) (sym (map_push (λ (c : Change). c.index) changes last))
      (Contains-push (numbers changes) last.index);
  first = λ q low high. others_push q changes last some (λ e. omega (arith, high, e)) (first q low high);
}

-- or of another one
old_push : (p next : ℕ) (changes : List Change) (last : Change) → 1 ≤ last.index
    → ((q : ℕ) → p < q → q < next → last.index ≢ q) → IsNextChanged p changes next
    → IsNextChanged p (changes ++ last ∷ []) next
old_push p next changes last some other h = record {
  above = h.above;
  changed = subst (λ (l : List ℕ). Contains l next) (sym (map_push (λ (c : Change). c.index) changes last))
      (Contains-append_left (numbers changes) (last.index ∷ []) next h.changed);
  first = λ q low high. others_push q changes last some (other q low high) (h.first q low high);
}

-- a change above p
pub next_above : (p : ℕ) (changes : List Change) (last : Change) (known : Option ℕ) (first : ℕ) → 1 ≤ last.index
    → p < last.index → MatchOption known (first ≡ last.index) (λ n. first ≡ min last.index n)
    → IsNext p changes known → IsNext p (changes ++ last ∷ []) (Some first)
next_above p changes last None first some above is h =
    subst (IsNextChanged p (changes ++ last ∷ [])) (sym is)
    (new_push p changes last some above (λ q low high. h q low))
next_above p changes last (Some n) first some above is h = elim (cases_lt last.index n) [
  | inl less ↦
      let e : last.index ≡ first = omega (arith, is, less) in
      subst (IsNextChanged p (changes ++ last ∷ [])) e
      (new_push p changes last some above (λ q low high. h.first q low (omega (arith, high, less))))
  | inr more ↦
      let e : n ≡ first = omega (arith, is, more) in
      subst (IsNextChanged p (changes ++ last ∷ [])) e
      (old_push p n changes last some (λ q low high same. omega (arith, high, more, same)) h)
]

-- a change of one of the first p parameters
pub next_below : (p : ℕ) (changes : List Change) (last : Change) (known : Option ℕ) → 1 ≤ last.index → last.index ≤ p
    → IsNext p changes known → IsNext p (changes ++ last ∷ []) known
next_below p changes last None some below h =
    λ q above. others_push q changes last some (λ e. omega (arith, above, below, e)) (h q above)
next_below p changes last (Some n) some below h =
    old_push p n changes last some (λ q low high e. omega (arith, low, below, e)) h

-- ---- how many changes are of the first p parameters

abbrev pub number_to : ℕ → List Change → ℕ
number_to p [] = 0
number_to p (c ∷ changes) = cond (nat_le c.index p) 1 0 + number_to p changes

one_more : (k p q : ℕ) → p ≤ q → cond (nat_le k p) 1 0 ≤ cond (nat_le k q) 1 0
one_more k p q le = grind (arith, nat_tests)

one_here : (k p q : ℕ) → k ≡ q → p < q → cond (nat_le k p) 1 0 + 1 ≤ cond (nat_le k q) 1 0
one_here k p q is lt = grind (arith, nat_tests)

one_most : (k p : ℕ) → cond (nat_le k p) 1 0 ≤ 1
one_most k p = grind (arith, nat_tests)

number_few : (p : ℕ) (changes : List Change) → number_to p changes ≤ length changes
number_few p [] = omega arith
number_few p (c ∷ changes) = omega (arith, one_most c.index p, number_few p changes)

number_more : (p q : ℕ) (changes : List Change) → p ≤ q → number_to p changes ≤ number_to q changes
number_more p q [] le = omega arith
number_more p q (c ∷ changes) le = omega (arith, one_more c.index p q le, number_more p q changes le)

number_on : (p q : ℕ) (changes : List Change) (k : ℕ) → p < q → k < length changes
    → get_or (numbers changes) k q ≡ q → number_to p changes + 1 ≤ number_to q changes
number_on p q [] k lt inside is = absurd (omega (arith, inside))
number_on p q (c ∷ changes) zero lt inside is =
    omega (arith, one_here c.index p q is lt, number_more p q changes (omega (arith, lt)))
number_on p q (c ∷ changes) (suc k) lt inside is =
    omega (arith, one_more c.index p q (omega (arith, lt)), number_on p q changes k lt (omega (arith, inside)) is)

length-numbers : (changes : List Change) → length (numbers changes) ≡ length changes
length-numbers [] = refl
length-numbers (c ∷ changes) = ap suc (length-numbers changes)

number_next : (p next : ℕ) (changes : List Change) → IsNextChanged p changes next
    → number_to p changes + 1 ≤ number_to next changes
number_next p next changes h =
    number_on p next changes h.changed.0 h.above (omega (arith, h.changed.1, length-numbers changes)) h.changed.2

-- ---- the differences, as far as the first p parameters

-- they are found, and there are no more of them than changes
pub record IsSettledTo (p : ℕ) (table : List ℤ) (changes settled : List Change) : Type 0 where
  pub is : settled ≡ differences_to p table (with_changes table changes)
  pub few : length settled ≤ number_to p changes

pub settled_none : (table : List ℤ) (changes settled : List Change) → settled ≡ [] → IsSettledTo 0 table changes settled
settled_none table changes settled none = record {
  is = none ∙ sym (none_yet table (with_changes table changes));
  few = omega (arith, ap length none);
}

pub settled_room : (p next : ℕ) (table : List ℤ) (changes settled : List Change) → IsNextChanged p changes next
    → IsSettledTo p table changes settled → length settled < length changes
settled_room p next table changes settled n h =
    omega (arith, number_next p next changes n, number_few next changes, h.few)

-- parameters that aren't changed don't differ
skipped : (m k : ℕ) (table : List ℤ) (changes : List Change) → ((q : ℕ) → m < q → q ≤ m + k → AreOthers q changes)
    → differences_to (m + k) table (with_changes table changes) ≡ differences_to m table (with_changes table changes)
skipped m zero table changes h =
    let e : m + 0 ≡ m = omega arith in
    ap (λ (n : ℕ). differences_to n table (with_changes table changes)) e
skipped m (suc k) table changes h =
    let e : m + suc k ≡ suc (m + k) = omega arith in
    let same = at-others table changes (suc (m + k)) (omega arith) (h (suc (m + k)) (omega arith) (omega arith)) in
    ap (λ (n : ℕ). differences_to n table (with_changes table changes)) e
    ∙ suc_same (m + k) table (with_changes table changes) ((Decides-int_eq _ _).1 same)
    ∙ skipped m k table changes (λ q low high. h q low (omega (arith, high)))

module _ (p next : ℕ) (table : List ℤ) (changes settled : List Change) (value was : ℤ) (n : IsNextChanged p changes next)
    (value_is : value ≡ at (with_changes table changes) next) (was_is : was ≡ at table next)
    (h : IsSettledTo p table changes settled) where
  new : List ℤ
  new = with_changes table changes

  at_next : next ≡ next - 1 + 1
  at_next = omega (arith, n.above)

  before : differences_to (next - 1) table (with_changes table changes) ≡ settled
  before =
      let e : next - 1 ≡ p + (next - 1 - p) = omega (arith, n.above) in
      ap (λ (k : ℕ). differences_to k table (with_changes table changes)) e
      ∙ skipped p (next - 1 - p) table changes (λ q low high. n.first q low (omega (arith, high, n.above)))
      ∙ sym h.is

  -- the next parameter keeps its value
  pub settled_same : not (int_eq value was) ≡ false → IsSettledTo next table changes settled
  settled_same test = record {
    is = sym (ap (λ (k : ℕ). differences_to k table (with_changes table changes)) at_next
        ∙ next_same (next - 1) next table (with_changes table changes) value was at_next value_is was_is test
        ∙ before);
    few = omega (arith, number_next p next changes n, h.few);
  }

  -- or changes it
  pub settled_other : (more : List Change) → not (int_eq value was) ≡ true
      → more ≡ settled ++ record { index = next; value = value } ∷ [] → IsSettledTo next table changes more
  settled_other more test is = record {
    is = is ∙ sym (ap (λ (k : ℕ). differences_to k table (with_changes table changes)) at_next
        ∙ next_other (next - 1) next table (with_changes table changes) value was at_next value_is was_is test
        ∙ ap (λ (l : List Change). l ++ record { index = next; value = value } ∷ []) before);
    few = omega (
      arith,
      number_next p next changes n,
      h.few,
      ap length is,
      length_push settled (record { index = next; value = value }),
    );
  }

-- no further parameter is changed
pub settled_all : (p : ℕ) (table : List ℤ) (changes settled : List Change) → p ≤ 5399 → ChangesNoneAbove p changes
    → IsSettledTo p table changes settled → settled ≡ differences table (with_changes table changes)
settled_all p table changes settled within none h =
    let e : p + (5399 - p) ≡ 5399 = omega (arith, within) in
    h.is
    ∙ sym (skipped p (5399 - p) table changes (λ q low high. none q low))
    ∙ ap (λ (k : ℕ). differences_to k table (with_changes table changes)) e
    ∙ differences-all table (with_changes table changes)
