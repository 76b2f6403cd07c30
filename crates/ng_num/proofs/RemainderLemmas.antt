-- The remainder is what `rem_euclid` computes, and nothing else.
use Rattle.std.proofs.Common.{◌≡◌, ℕ, zero, suc, ◌+◌, ◌*◌, ◌/◌, ◌%◌, ◌<◌, ℤ, pos, negsuc, neg_ℤ, ◌+ℤ◌, ◌*ℤ◌, ◌≤ℤ◌}
use Rattle.std.proofs.Common.{unsigned_abs, Result, Ok, Err, refl, sym, ap, ◌∙◌, arith}
use Rattle.std.proofs.Math.Nat.{div-add-mod}
use Rattle.std.proofs.lemmas.Int.{ints, int_rem_euclid_is}
use Rattle.std.proofs.lemmas.Nat.{mod_below, mod-mul-add}
use Rattle.std.proofs.lemmas.Bool.Decides.{nat_tests}
use Rattle.std.specs.Int.{int_rem_euclid}
use Rattle.ng_num.specs.Range.{IsOnlyAnswer, IsCount, in_range}
use Rattle.ng_num.specs.Arithmetic.{IsRemainder, remainder_of}
use Rattle.ng_num.specs.declared.fault.Fault.{Fault}
use Rattle.ng_num.specs.declared.fault.Fault.TheVariants.{BadArithmetic}

neg-times-negsuc : (k d : ℕ) → neg_ℤ (pos k) *ℤ negsuc d ≡ pos (k * suc d)
neg-times-negsuc zero d = let z : 0 * suc d ≡ 0 = grind arith in rw z refl
neg-times-negsuc (suc k) d = refl

quotient_and_rest : (n d : ℕ) → 0 < d → n ≡ n / d * d + n % d
quotient_and_rest n d h = let parts = div-add-mod n d in let swapped : d * (n / d) ≡ n / d * d = grind arith in omega arith

next_times : (q d : ℕ) → suc q * d ≡ q * d + d
next_times q d = grind arith

pub int_rem_euclid-IsRemainder : (a b : ℤ) → 0 < unsigned_abs b → IsRemainder a b (int_rem_euclid a b)
int_rem_euclid-IsRemainder (pos n) (pos d) h = record {
  from_zero = omega (arith, ints);
  below = mod_below n d h;
  multiple = (pos (n / d), ap pos (quotient_and_rest n d h));
}
int_rem_euclid-IsRemainder (pos n) (negsuc d) h = record {
  from_zero = omega (arith, ints);
  below = mod_below n (suc d) h;
  multiple = (neg_ℤ (pos (n / suc d)), rw (neg-times-negsuc (n / suc d) d) (ap pos (quotient_and_rest n (suc d) h)));
}
int_rem_euclid-IsRemainder (negsuc n) (pos d) h =
    let parts = quotient_and_rest n d h in
    let next = next_times (n / d) d in
    let low = mod_below n d h in
    record { from_zero = omega (arith, ints); below = omega arith; multiple = (negsuc (n / d), omega (arith, ints)) }
int_rem_euclid-IsRemainder (negsuc n) (negsuc d) h =
    let parts = quotient_and_rest n (suc d) h in
    let next = next_times (n / suc d) (suc d) in
    let low = mod_below n (suc d) h in
    record { from_zero = omega (arith, ints); below = omega arith; multiple = (pos (suc (n / suc d)), omega (arith, ints)) }

-- ---- and nothing else
rest_above : (a k : ℤ) (d m : ℕ) → m < d → a ≡ k *ℤ pos d +ℤ pos m → int_rem_euclid a (pos d) ≡ pos m
rest_above a (pos j) d m h e =
    int_rem_euclid_is a (pos d) d 0 (j * d + m) (omega arith) refl (let z : 0 * d ≡ 0 = grind arith in omega (arith, ints))
    ∙ ap pos (mod-mul-add j d m h)
rest_above a (negsuc j) d m h e =
    int_rem_euclid_is a (pos d) d (suc j) m (omega arith) refl (omega (arith, ints))
    ∙ ap pos (let z : 0 * d ≡ 0 = grind arith in let w : 0 * d + m ≡ m = omega arith in rw w at (mod-mul-add 0 d m h))

same_size : (a : ℤ) (d : ℕ) → int_rem_euclid a (negsuc d) ≡ int_rem_euclid a (pos (suc d))
same_size (pos n) d = refl
same_size (negsuc n) d = refl

times_negsuc : (k : ℤ) (d : ℕ) → k *ℤ negsuc d ≡ neg_ℤ k *ℤ pos (suc d)
times_negsuc (pos zero) d = let z : 0 * suc d ≡ 0 = grind arith in rw z refl
times_negsuc (pos (suc k)) d = refl
times_negsuc (negsuc k) d = refl

rest_of : (a b k r : ℤ) → pos 0 ≤ℤ r → unsigned_abs r < unsigned_abs b → a ≡ k *ℤ b +ℤ r → r ≡ int_rem_euclid a b
rest_of a b k (negsuc m) p h e = absurd (omega (arith, ints))
rest_of a (pos d) k (pos m) p h e = sym (rest_above a k d m h e)
rest_of a (negsuc d) k (pos m) p h e = sym (same_size a d ∙ rest_above a (neg_ℤ k) (suc d) m h (rw times_negsuc at e))

pub int_rem_euclid_from_IsRemainder : (a b r : ℤ) → IsRemainder a b r → r ≡ int_rem_euclid a b
int_rem_euclid_from_IsRemainder a b r is = rest_of a b is.multiple.0 r is.from_zero is.below is.multiple.1

pub remainder_by_zero : (a b : ℤ) → unsigned_abs b ≡ 0 → remainder_of a b ≡ Err BadArithmetic
unfolding remainder_of
remainder_by_zero a b z = grind (arith, nat_tests)

pub remainder_by_other : (a b : ℤ) → 0 < unsigned_abs b → remainder_of a b ≡ Ok (int_rem_euclid a b)
unfolding remainder_of
remainder_by_other a b some = grind (arith, nat_tests)

pub remainder_in_range : (a b : ℤ) → 0 < unsigned_abs b → IsCount b → in_range (int_rem_euclid a b) ≡ Ok (int_rem_euclid a b)
remainder_in_range a b some range = let below = (int_rem_euclid-IsRemainder a b some).below in grind (arith, nat_tests)

pub remainder_answers : (a b : ℤ) (answer : Result ℤ Fault) → 0 < unsigned_abs b
    → answer ≡ in_range (int_rem_euclid a b) → IsOnlyAnswer (IsRemainder a b) answer
remainder_answers a b answer some e = record {
  value = int_rem_euclid a b;
  said = int_rem_euclid-IsRemainder a b some;
  only = λ other is. int_rem_euclid_from_IsRemainder a b other is;
  answered = e;
}
