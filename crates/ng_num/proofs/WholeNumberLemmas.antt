-- FIX, FUP, ROUND and closeness to a whole number: the computed value is the one that the statements allow, and no
-- other.
use Rattle.std.proofs.Common.{◌≡◌, ◌<◌, ℤ, neg_ℤ, ◌+ℤ◌, ◌-ℤ◌, ◌*ℤ◌, ◌≤ℤ◌, unsigned_abs, Result, Some, None, refl, ap, ◌∙◌, arith}
use Rattle.std.proofs.lemmas.Int.{ints}
use Rattle.std.proofs.lemmas.Bool.Decides.{nat_tests}
use Rattle.std.specs.Int.{int_rem_euclid}
use Rattle.ng_num.specs.Arithmetic.{million}
use Rattle.ng_num.specs.Extremes.{IsGreatest, IsLeast}
use Rattle.ng_num.specs.Range.{IsOnlyAnswer, in_range}
use Rattle.ng_num.specs.Rounding.{IsNearest, near}
use Rattle.ng_num.specs.Whole.{IsClose, IsFix, IsFup, IsRound, IsWhole, fix, fup, round, whole_of}
use Rattle.ng_num.specs.declared.fault.Fault.{Fault}
use Rattle.ng_num.proofs.NearestLemmas.{near_by-IsNearest, near_by_from_IsNearest}
use Rattle.ng_num.proofs.RemainderLemmas.{int_rem_euclid-IsRemainder}

-- ---- FIX and FUP
-- if a whole number isn't above another plus a remainder below 1, it isn't above the other
under_rest : (j k r : ℤ) → (j *ℤ million) ≤ℤ (k *ℤ million +ℤ r) → unsigned_abs r < 1_000_000 → (j *ℤ million) ≤ℤ (k *ℤ million)
under_rest j k r h below = omega (arith, ints)

fix_is_whole : (z : ℤ) → (k : ℤ) × (fix z ≡ k *ℤ million) × (z ≡ k *ℤ million +ℤ int_rem_euclid z million)
fix_is_whole z =
    let rest = int_rem_euclid-IsRemainder z million (omega arith) in
    (rest.multiple.0, omega (arith, ints, rest.multiple.1), rest.multiple.1)

fix_bounds : (z v : ℤ) → IsWhole v → v ≤ℤ z → v ≤ℤ fix z
fix_bounds z v whole under =
    let f = fix_is_whole z in
    let rest = int_rem_euclid-IsRemainder z million (omega arith) in
    rw (f.1, whole.1) (under_rest whole.0 f.0 (int_rem_euclid z million) (rw (← whole.1, ← f.2) under) rest.below)

fix_under : (z : ℤ) → fix z ≤ℤ z
fix_under z = let low = (int_rem_euclid-IsRemainder z million (omega arith)).from_zero in omega (arith, ints)

pub fix-IsFix : (z : ℤ) → IsFix z (fix z)
fix-IsFix z = let f = fix_is_whole z in record { holds = ((f.0, f.1), fix_under z); bound = λ v p. fix_bounds z v p.0 p.1 }

same : (v w : ℤ) → v ≤ℤ w → w ≤ℤ v → v ≡ w
same v w p q = omega (arith, ints)

pub IsGreatest_only : (P : ℤ → Type 0) (v w : ℤ) → IsGreatest P v → IsGreatest P w → v ≡ w
IsGreatest_only P v w p q = same v w (q.bound v p.holds) (p.bound w q.holds)

pub IsLeast_only : (P : ℤ → Type 0) (v w : ℤ) → IsLeast P v → IsLeast P w → v ≡ w
IsLeast_only P v w p q = same v w (p.bound w q.holds) (q.bound v p.holds)

pub fix_answers : (z : ℤ) (answer : Result ℤ Fault) → answer ≡ in_range (fix z) → IsOnlyAnswer (IsFix z) answer
fix_answers z answer e = record { value = fix z; said = fix-IsFix z; only = λ v is. IsGreatest_only _ v (fix z) is (fix-IsFix z); answered = e }

neg-whole : (w : ℤ) → IsWhole w → IsWhole (neg_ℤ w)
neg-whole w whole = (neg_ℤ whole.0, rw whole.1 (omega (arith, ints)))

neg-≤ : (v w : ℤ) → v ≤ℤ w → neg_ℤ w ≤ℤ neg_ℤ v
neg-≤ v w h = omega (arith, ints)

neg-neg-≤ : (v w : ℤ) → neg_ℤ v ≤ℤ w → neg_ℤ w ≤ℤ v
neg-neg-≤ v w h = omega (arith, ints)

pub fup-IsFup : (z : ℤ) → IsFup z (fup z)
fup-IsFup z =
    let below = fix-IsFix (neg_ℤ z) in
    record {
      holds = (neg-whole _ below.holds.0, let h = neg-≤ (fix (neg_ℤ z)) (neg_ℤ z) below.holds.1 in omega (arith, ints));
      bound = λ v p. neg-neg-≤ v (fix (neg_ℤ z)) (below.bound (neg_ℤ v) (neg-whole v p.0, neg-≤ z v p.1));
    }

pub fup_answers : (z : ℤ) (answer : Result ℤ Fault) → answer ≡ in_range (fup z) → IsOnlyAnswer (IsFup z) answer
fup_answers z answer e = record { value = fup z; said = fup-IsFup z; only = λ v is. IsLeast_only _ v (fup z) is (fup-IsFup z); answered = e }

-- ---- ROUND
round_only : (z v : ℤ) → IsRound z v → v ≡ round z
round_only z v is = is.1 ∙ ap (λ k. k *ℤ million) (near_by_from_IsNearest z million is.0 (omega arith) is.2)

pub round_answers : (z : ℤ) (answer : Result ℤ Fault) → answer ≡ in_range (round z) → IsOnlyAnswer (IsRound z) answer
round_answers z answer e =
    record {
      value = round z;
      said = (near z 1_000_000, refl, near_by-IsNearest z million (omega arith));
      only =
          round_only z;
      answered = e;
    }

-- ---- closeness
close-IsNearest : (z n : ℤ) → IsClose z n → IsNearest z million n
close-IsNearest z n close = record { within_half = omega (arith, close); away_from_zero = λ tie. absurd (omega (arith, close, tie)) }

pub close_only : (z n : ℤ) → IsClose z n → n ≡ near z 1_000_000
close_only z n close = near_by_from_IsNearest z million n (omega arith) (close-IsNearest z n close)

pub whole_if_close : (z : ℤ) → IsClose z (near z 1_000_000) → whole_of z ≡ Some (near z 1_000_000)
unfolding whole_of
whole_if_close z close = grind (arith, nat_tests)

pub none_if_far : (z : ℤ) → 100 < unsigned_abs (z -ℤ near z 1_000_000 *ℤ million) → whole_of z ≡ None
unfolding whole_of
none_if_far z far = grind (arith, nat_tests)
