-- Powers by one product after the other.
use Rattle.std.proofs.Common.{◌≡◌, ℕ, zero, suc, ◌+◌, ◌-◌, ◌<◌, ◌≤◌, ℤ, pos, negsuc, ◌-ℤ◌, ◌*ℤ◌, unsigned_abs, inl}
use Rattle.std.proofs.Common.{inr, Option, Some, None, Ok, Err, refl, sym, ap, subst, ◌∙◌, arith}
use Rattle.std.proofs.lemmas.Bool.Decides.{nat_tests}
use Rattle.ng_num.specs.Arithmetic.{million, product}
use Rattle.ng_num.specs.Range.{in_range}
use Rattle.ng_num.specs.Power.{IsExponent, exponent_of, power, power_by, power_of, times}
use Rattle.ng_num.specs.Whole.{IsClose, whole_of}
use Rattle.ng_num.specs.Rounding.{near}
use Rattle.ng_num.specs.declared.fault.Fault.{Fault}
use Rattle.ng_num.specs.declared.fault.Fault.TheVariants.{BadArithmetic}
use Rattle.std.proofs.lemmas.Bool.{cases_lt}
use Rattle.ng_num.proofs.WholeNumberLemmas.{close_only, none_if_far, whole_if_close}

pub power-zero : (x : ℤ) → power x 0 ≡ Ok million
unfolding power
power-zero x = refl

pub power-suc : (x : ℤ) (n : ℕ) → power x (suc n) ≡ times x (power x n)
unfolding power
power-suc x n = refl

pub power_next : (x : ℤ) (n : ℕ) (p : ℤ) → power x n ≡ Ok p → power x (n + 1) ≡ in_range (product p x)
power_next x n p e = let next : n + 1 ≡ suc n = omega arith in rw next (power-suc x n ∙ ap (times x) e)

ends_by : (x : ℤ) (n k : ℕ) (e : Fault) → power x n ≡ Err e → power x (k + n) ≡ Err e
ends_by x n zero e h = let same : 0 + n ≡ n = omega arith in rw same h
ends_by x n (suc k) e h = let next : suc k + n ≡ suc (k + n) = omega arith in rw next (power-suc x (k + n) ∙ ap (times x) (ends_by x n k e h))

pub power_ends : (x : ℤ) (n m : ℕ) (e : Fault) → power x n ≡ Err e → n ≤ m → power x m ≡ Err e
power_ends x n m e h under = let sum : m - n + n ≡ m = omega arith in rw sum at (ends_by x n (m - n) e h)

-- ---- the exponent
pub power_by_exponent : (x y : ℤ) (e : Option ℕ) → e ≡ exponent_of (whole_of y) → power_of x y ≡ power_by x e
unfolding power_of
power_by_exponent x y e h = ap (power_by x) (sym h)

unfold_power : (x y : ℤ) → power_of x y ≡ power_by x (exponent_of (whole_of y))
unfolding power_of
unfold_power x y = refl

exponent_within : (n : ℕ) → n ≤ 32 → exponent_of (Some (pos n)) ≡ Some n
exponent_within n h = grind (arith, nat_tests)

exponent_past : (n : ℕ) → 32 < n → exponent_of (Some (pos n)) ≡ None
exponent_past n h = grind (arith, nat_tests)

pub power_by_close : (x y : ℤ) (n : ℕ) → IsExponent y n → power_of x y ≡ power x n
power_by_close x y n is =
    let close = is.1 in
    let only = close_only y (pos n) close in
    let whole : whole_of y ≡ Some (pos n) = whole_if_close y (subst (λ k. IsClose y k) only close) ∙ ap Some (sym only) in
    unfold_power x y ∙ ap (λ w. power_by x (exponent_of w)) whole ∙ ap (power_by x) (exponent_within n is.0)

no_exponent : (y k : ℤ) → IsClose y k → ((n : ℕ) → IsExponent y n → ⊥) → exponent_of (Some k) ≡ None
no_exponent y (pos n) close none = elim (cases_lt 32 n) [ inl past ↦ exponent_past n past | inr within ↦ absurd (none n (within, close)) ]
no_exponent y (negsuc n) close none = refl

pub power_by_other : (x y : ℤ) → ((n : ℕ) → IsExponent y n → ⊥) → power_of x y ≡ Err BadArithmetic
power_by_other x y none =
    unfold_power x y ∙ ap (power_by x) (elim (cases_lt 100 (unsigned_abs (y -ℤ near y 1_000_000 *ℤ million))) [
      | inl far ↦ ap exponent_of (none_if_far y far)
      | inr close ↦ ap exponent_of (whole_if_close y close) ∙ no_exponent y (near y 1_000_000) close none
    ])
