-- A table that is cleared parameter by parameter.
use Rattle.std.proofs.Common.{◌≡◌, ℕ, ◌+◌, ◌<◌, ◌≤◌, true, false, cond, List, length, get_or, set, ℤ, pos, ap, sym, subst, inl, inr, ◌∙◌, arith}
use Rattle.std.specs.List.{enumerate_from}
use Rattle.std.proofs.lemmas.List.{length-set, length-map, get_or-set_same, get_or-set_other, get_or-map, ext_get_or}
use Rattle.std.proofs.lemmas.List.FromFn.{length-enumerate_from, get_or-enumerate_from}
use Rattle.std.proofs.lemmas.Bool.{cases_lt}
use Rattle.ng_params.specs.Lasting.{lasts, cleared}

-- the new value of parameter j + 1
abbrev pub cleared_at : List ℤ → ℕ → ℤ
cleared_at old j = cond (lasts (j + 1)) (get_or old j (pos 0)) (pos 0)

-- the first k are cleared, the others are as they were
pub record IsClearedTo (k : ℕ) (old new : List ℤ) : Type 0 where
  pub whole : length new ≡ 5399
  pub below : (j : ℕ) → j < k → get_or new j (pos 0) ≡ cleared_at old j
  pub above : (j : ℕ) → k ≤ j → get_or new j (pos 0) ≡ get_or old j (pos 0)

-- one more
below_and_here : (k : ℕ) (old new : List ℤ) → ((j : ℕ) → j < k → get_or new j (pos 0) ≡ cleared_at old j) → get_or new k (pos 0) ≡ cleared_at old k
    → (j : ℕ) → j < k + 1 → get_or new j (pos 0) ≡ cleared_at old j
below_and_here k old new below here j within =
    let P : ℕ → Type 0 = λ i. get_or new i (pos 0) ≡ cleared_at old i in
    elim (cases_lt j k) [ inl before ↦ below j before | inr at ↦ subst P (omega arith) here ]

pub cleared_lasting : (k : ℕ) (old new : List ℤ) → lasts (k + 1) ≡ true → IsClearedTo k old new → IsClearedTo (k + 1) old new
cleared_lasting k old new lasting h = record {
  whole = h.whole;
  below = below_and_here k old new h.below (h.above k (omega arith) ∙ sym (ap (λ b. cond b (get_or old k (pos 0)) (pos 0)) lasting));
  above = λ j past. h.above j (omega arith);
}

pub cleared_zeroed : (k : ℕ) (old new : List ℤ) → lasts (k + 1) ≡ false → k < 5399 → IsClearedTo k old new → IsClearedTo (k + 1) old (set new k (pos 0))
cleared_zeroed k old new passing within h =
    let inside : k < length new = omega (arith, h.whole) in
    record {
      whole = length-set new k (pos 0) ∙ h.whole;
      below = below_and_here k old (set new k (pos 0))
          (λ j before. get_or-set_other new k j (pos 0) (pos 0) (omega arith) ∙ h.below j before)
          (get_or-set_same new k (pos 0) (pos 0) inside ∙ sym (ap (λ b. cond b (get_or old k (pos 0)) (pos 0)) passing));
      above = λ j past. get_or-set_other new k j (pos 0) (pos 0) (omega arith) ∙ h.above j (omega arith);
    }

cleared_get : (old : List ℤ) (i : ℕ) → i < length old → get_or (cleared old) i (pos 0) ≡ cleared_at old i
cleared_get old i within =
    let number : 1 + i ≡ i + 1 = omega arith in
    get_or-map (λ (x : ℕ × ℤ). cond (lasts x.0) x.1 (pos 0)) (enumerate_from 1 old) i (0, pos 0) (pos 0) (omega (arith, length-enumerate_from 1 old))
    ∙ ap (λ (x : ℕ × ℤ). cond (lasts x.0) x.1 (pos 0)) (get_or-enumerate_from 1 old i (0, pos 0) within)
    ∙ ap (λ p. cond (lasts p) (get_or old i (pos 0)) (pos 0)) number

-- a table that is cleared to its end is the cleared table
pub cleared_whole : (old new : List ℤ) (k : ℕ) → 5399 ≤ k → length old ≡ 5399 → IsClearedTo k old new → new ≡ cleared old
cleared_whole old new k all whole h =
    let same : length (cleared old) ≡ length old = length-map (enumerate_from 1 old) _ ∙ length-enumerate_from 1 old in
    ext_get_or (pos 0) new (cleared old) (omega (arith, same, h.whole))
    (λ i within. h.below i (omega (arith, h.whole)) ∙ sym (cleared_get old i (omega (arith, h.whole))))
