-- The differences of two tables, parameter by parameter.
use Rattle.std.proofs.Common.{◌≡◌, ◌⊎◌, inl, inr, ℕ, zero, suc, ◌+◌, ◌-◌, ◌<◌, ◌≤◌, Bool, true, false, not}
use Rattle.std.proofs.Common.{if◌then◌else◌, List, [], ◌∷◌, ◌++◌, length, get_or, ℤ, pos, int_eq, refl, sym, ◌∙◌}
use Rattle.std.proofs.Common.{ap, subst, arith, add-one, append_assoc, append-nil}
use Rattle.std.proofs.lemmas.Bool.Decides.{Decides-int_eq}
use Rattle.std.proofs.lemmas.List.{length_push}
use Rattle.ng_params.specs.Params.{at}
use Rattle.ng_params.specs.Change.{with_changes}
use Rattle.ng_params.specs.declared.change.Change.{Change}
use Rattle.ng_params.proofs.ChangeLemmas.{AreChangesTo, changes_none, step_push, step_same, changes_restore}
use Rattle.ng_params.specs.Differences.{change_to, differences_to, differences}

pub none_yet : (old new : List ℤ) → differences_to 0 old new ≡ []
unfolding differences_to
none_yet old new = refl

pub suc_same : (n : ℕ) (old new : List ℤ) → int_eq (at new (suc n)) (at old (suc n)) ≡ true → differences_to (suc n) old new ≡ differences_to n old new
unfolding differences_to
suc_same n old new is = λ i. if is i then differences_to n old new else differences_to n old new ++ change_to new (suc n) ∷ []

suc_other : (n : ℕ) (old new : List ℤ) → int_eq (at new (suc n)) (at old (suc n)) ≡ false
    → differences_to (suc n) old new ≡ differences_to n old new ++ change_to new (suc n) ∷ []
unfolding differences_to
suc_other n old new is = λ i. if is i then differences_to n old new else differences_to n old new ++ change_to new (suc n) ∷ []

no_not : (t : Bool) → not t ≡ false → t ≡ true
no_not true e = refl
no_not false e = absurd (cc)

yes_not : (t : Bool) → not t ≡ true → t ≡ false
yes_not false e = refl
yes_not true e = absurd (cc)

-- the parameter after the first n, once its values were compared
module _ (n p : ℕ) (old new : List ℤ) (value was : ℤ) (p_is : p ≡ n + 1) (value_is : value ≡ at new p) (was_is : was ≡ at old p) where
  p_suc : p ≡ suc n
  p_suc = omega arith

  pub next_same : not (int_eq value was) ≡ false → differences_to (n + 1) old new ≡ differences_to n old new
  next_same test =
      let e : int_eq (at new (suc n)) (at old (suc n)) ≡ true =
      (λ i. int_eq ((ap (at new) (sym p_suc) ∙ sym value_is) i) ((ap (at old) (sym p_suc) ∙ sym was_is) i))
      ∙ no_not (int_eq value was) test in
      ap (λ (k : ℕ). differences_to k old new) (add-one n) ∙ suc_same n old new e

  pub next_other : not (int_eq value was) ≡ true → differences_to (n + 1) old new ≡ differences_to n old new ++ record { index = p; value = value } ∷ []
  next_other test =
      let e : int_eq (at new (suc n)) (at old (suc n)) ≡ false =
      (λ i. int_eq ((ap (at new) (sym p_suc) ∙ sym value_is) i) ((ap (at old) (sym p_suc) ∙ sym was_is) i))
      ∙ yes_not (int_eq value was) test in
      ap (λ (k : ℕ). differences_to k old new) (add-one n) ∙ suc_other n old new e
      ∙ (λ i. differences_to n old new ++ record { index = sym p_suc i; value = (ap (at new) (sym p_suc) ∙ sym value_is) i } ∷ [])

by_test : (t : Bool) → (t ≡ true) ⊎ (t ≡ false)
by_test true = inl refl
by_test false = inr refl

-- the differences among fewer parameters are a prefix of those among more
pub differences-begin : (m n : ℕ) (old new : List ℤ) → (rest : List Change) × (differences_to (m + n) old new ≡ differences_to m old new ++ rest)
differences-begin m zero old new = (
  [],
  ap (λ (k : ℕ). differences_to k old new) (let e : m + 0 ≡ m = omega arith in e)
      ∙ sym (append-nil (differences_to m old new)),
)
differences-begin m (suc n) old new =
    let before = differences-begin m n old new in
    let e : m + suc n ≡ suc (m + n) = omega arith in
    elim (by_test (int_eq (at new (suc (m + n))) (at old (suc (m + n))))) [
      | inl same ↦ (before.0, ap (λ (k : ℕ). differences_to k old new) e ∙ suc_same (m + n) old new same ∙ before.1)
      | inr other ↦ (
        before.0 ++ change_to new (suc (m + n)) ∷ [],
        ap (λ (k : ℕ). differences_to k old new) e
            ∙ suc_other (m + n) old new other ∙ ap (λ (l : List Change). l ++ change_to new (suc (m + n)) ∷ [])
            before.1 ∙ append_assoc (differences_to m old new) before.0 (change_to new (suc (m + n)) ∷ []),
      )
    ]

pub one_counted : (xs ys : List Change) (last : Change) (n m : ℕ) → ys ≡ xs ++ last ∷ [] → n ≡ length xs → m ≡ n + 1 → m ≡ length ys
one_counted xs ys last n m is count more = more ∙ omega (arith, count, length_push xs last, ap length is)

pub one_taken : (all from taken more : List Change) (last : Change) (next : List Change) → next ≡ all ++ last ∷ []
    → all ≡ from ++ taken → more ≡ taken ++ last ∷ [] → next ≡ from ++ more
one_taken all from taken more last next is on push = is ∙ ap (λ (l : List Change). l ++ last ∷ []) on
    ∙ append_assoc from taken (last ∷ []) ∙ ap (λ (l : List Change). from ++ l) (sym push)

-- there are at most as many as parameters
pub differences-few : (n : ℕ) (old new : List ℤ) → length (differences_to n old new) ≤ n
differences-few zero old new = omega (arith, ap length (none_yet old new))
differences-few (suc n) old new = elim (by_test (int_eq (at new (suc n)) (at old (suc n)))) [
  | inl same ↦ omega (arith, ap length (suc_same n old new same), differences-few n old new)
  | inr other ↦ omega (arith, ap length (suc_other n old new other), length_push (differences_to n old new) (change_to new (suc n)), differences-few n old new)
]

value_here : (table : List ℤ) (n : ℕ) → n < length table → at table (suc n) ≡ get_or table n (at table (suc n))
value_here table n lt = let e : suc n - 1 ≡ n = omega arith in ap (λ (k : ℕ). get_or table k (pos 0)) e ∙ any table n (pos 0) (at table (suc n)) lt
  where
    any : (xs : List ℤ) (k : ℕ) (d f : ℤ) → k < length xs → get_or xs k d ≡ get_or xs k f
    any [] k d f lt = absurd (omega arith)
    any (x ∷ xs) zero d f lt = refl
    any (x ∷ xs) (suc k) d f lt = any xs k d f (omega arith)

are_to : (n : ℕ) (old new : List ℤ) → n ≤ 5399 → length old ≡ 5399 → length new ≡ 5399 → AreChangesTo n old new (differences_to n old new)
are_to zero old new le all_old all_new = subst (AreChangesTo 0 old new) (sym (none_yet old new)) (changes_none old new)
are_to (suc n) old new le all_old all_new =
    let before = are_to n old new (omega arith) all_old all_new in
    let value = at new (suc n) in
    let was = at old (suc n) in
    let v = value_here new n (omega arith) in
    let w = value_here old n (omega arith) in
    let e : n + 1 ≡ suc n = omega arith in
    subst (λ (k : ℕ). AreChangesTo k old new (differences_to (suc n) old new)) e (elim (by_test (int_eq value was)) [
      | inl same ↦ step_same n old new (differences_to n old new) (differences_to (suc n) old new) value was
          (not (int_eq value was)) (omega arith) all_old all_new v w refl (ap not same) (suc_same n old new same)
          before
      | inr other ↦ step_push n old new (differences_to n old new) (differences_to (suc n) old new) (suc n) value
          was (not (int_eq value was)) (omega arith) all_old all_new v w refl (ap not other) (sym e)
          (suc_other n old new other) before
    ])

-- applied to the old table, they give the new one
pub differences-restore : (old new : List ℤ) → length old ≡ 5399 → length new ≡ 5399 → with_changes old (differences old new) ≡ new
unfolding differences
differences-restore old new all_old all_new = changes_restore 5399 old new (differences_to 5399 old new)
    (omega arith) (omega arith) (are_to 5399 old new (omega arith) all_old all_new)

pub differences-all : (old new : List ℤ) → differences_to 5399 old new ≡ differences old new
unfolding differences
differences-all old new = refl

same_eq : (v : ℤ) → int_eq v v ≡ true
same_eq v = (Decides-int_eq v v).1 refl

none_to : (n : ℕ) (table : List ℤ) → differences_to n table table ≡ []
none_to zero table = none_yet table table
none_to (suc n) table = suc_same n table table (same_eq (at table (suc n))) ∙ none_to n table

-- a table doesn't differ from itself
pub differences-none : (table : List ℤ) → differences table table ≡ []
unfolding differences
differences-none table = none_to 5399 table

-- tables that don't differ are the same
no_changes : (changes : List Change) → length changes ≡ 0 → changes ≡ []
no_changes [] none = refl
no_changes (change ∷ changes) none = absurd (omega (arith, none))

pub differences-same : (old new : List ℤ) → length old ≡ 5399 → length new ≡ 5399 → length (differences old new) ≡ 0 → old ≡ new
differences-same old new all_old all_new none = sym (ap (with_changes old) (no_changes (differences old new) none))
    ∙ differences-restore old new all_old all_new
