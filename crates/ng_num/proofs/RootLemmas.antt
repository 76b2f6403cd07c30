-- The root of a count is the greatest number whose square isn't above it.
use Rattle.std.proofs.Common.{◌≡◌, ℕ, zero, suc, ◌+◌, ◌*◌, ◌<◌, ◌≤◌, ℤ, pos, negsuc, ◌*ℤ◌, ◌≤ℤ◌, ◌<ℤ◌, unsigned_abs}
use Rattle.std.proofs.Common.{Result, Ok, Err, refl, ap, ◌∙◌, arith, inl, inr}
use Rattle.std.proofs.lemmas.Int.{ints}
use Rattle.std.proofs.lemmas.Nat.{mul-le}
use Rattle.std.proofs.lemmas.Bool.{cases_lt}
use Rattle.std.proofs.lemmas.Bool.Decides.{nat_tests}
use Rattle.ng_num.specs.Arithmetic.{million}
use Rattle.ng_num.specs.Range.{IsOnlyAnswer, greatest, in_range}
use Rattle.ng_num.specs.Root.{IsRoot, root_of, root_up_to}
use Rattle.ng_num.specs.declared.fault.Fault.{Fault}
use Rattle.ng_num.specs.declared.fault.Fault.TheVariants.{BadArithmetic}
use Rattle.ng_num.proofs.WholeNumberLemmas.{IsGreatest_only}

-- s is the root of n, rounded down
pub record IsRootSize (n s : ℕ) : Type 0 where
  pub low : s * s ≤ n
  pub high : n < (s + 1) * (s + 1)

no_greater : (n s t : ℕ) → IsRootSize n s → t * t ≤ n → t ≤ s
no_greater n s t is under =
    elim (cases_lt s t) [
      | inl h ↦ absurd (let squares = mul-le (s + 1) (s + 1) t t (omega arith) (omega arith) in omega (arith, is.high))
      | inr h ↦ h
    ]

step_taken : (k n : ℕ) → suc k * suc k ≤ n → root_up_to (suc k) n ≡ suc k
step_taken k n h = grind (arith, nat_tests)

step_passed : (k n : ℕ) → n < suc k * suc k → root_up_to (suc k) n ≡ root_up_to k n
step_passed k n h = grind (arith, nat_tests)

pub root_up_to-IsRootSize : (k n s : ℕ) → s ≤ k → IsRootSize n s → root_up_to k n ≡ s
root_up_to-IsRootSize zero n s h is = omega arith
root_up_to-IsRootSize (suc k) n s h is =
    elim (cases_lt n (suc k * suc k)) [
      | inl passed ↦
          let less : s ≤ k = elim (cases_lt k s) [
            | inl above ↦ absurd (let e : s ≡ suc k = omega arith in let low = rw e at is.low in omega arith)
            | inr below ↦ below
          ] in
          step_passed k n passed ∙ root_up_to-IsRootSize k n s less is
      | inr taken ↦ step_taken k n taken ∙ (let up = no_greater n s (suc k) is taken in omega arith)
    ]

root_under : (n s : ℕ) → IsRootSize n s → s ≤ n
root_under n zero is = omega arith
root_under n (suc s) is = let square : suc s * suc s ≡ s * suc s + suc s = grind arith in omega (arith, is.low)

pub root_of_size : (n s : ℕ) → IsRootSize (n * 1_000_000) s → root_of (pos n) ≡ Ok (pos s)
unfolding root_of
root_of_size n s is = ap (λ k. Ok (pos k)) (root_up_to-IsRootSize (n * 1_000_000) (n * 1_000_000) s (root_under (n * 1_000_000) s is) is)

-- ---- the statement
root_bound : (n s : ℕ) (v : ℤ) → IsRootSize (n * 1_000_000) s → pos 0 ≤ℤ v → (v *ℤ v) ≤ℤ (pos n *ℤ million) → v ≤ℤ pos s
root_bound n s (pos t) is from under = let up = no_greater (n * 1_000_000) s t is (omega (arith, ints, under)) in omega (arith, ints)
root_bound n s (negsuc t) is from under = omega (arith, ints)

pub root-IsRoot : (n s : ℕ) → IsRootSize (n * 1_000_000) s → IsRoot (pos n) (pos s)
root-IsRoot n s is = record {
  holds = (omega (arith, ints), omega (arith, ints, is.low));
  bound = λ v p. root_bound n s v is p.0 p.1;
}

pub root_answers : (n s : ℕ) (answer : Result ℤ Fault) → IsRootSize (n * 1_000_000) s → answer ≡ in_range (pos s) → IsOnlyAnswer (IsRoot (pos n)) answer
root_answers n s answer is e = record {
  value = pos s;
  said = root-IsRoot n s is;
  only = λ other p. IsGreatest_only _ other (pos s) p (root-IsRoot n s is);
  answered = e;
}

-- ---- for a count of either sign
pub root_below_zero : (z : ℤ) → z <ℤ pos 0 → root_of z ≡ Err BadArithmetic
unfolding root_of
root_below_zero (pos n) h = absurd (omega (arith, ints))
root_below_zero (negsuc n) h = refl

pub root_of_above : (z : ℤ) (s : ℕ) → pos 0 ≤ℤ z → IsRootSize (unsigned_abs z * 1_000_000) s → root_of z ≡ Ok (pos s)
root_of_above (pos n) s h is = root_of_size n s is
root_of_above (negsuc n) s h is = absurd (omega (arith, ints))

root_in_range : (s : ℕ) → s ≤ greatest → Ok (pos s) ≡ in_range (pos s)
root_in_range s h = grind (arith, nat_tests)

pub root_answers_above : (z : ℤ) (s : ℕ) (answer : Result ℤ Fault) → pos 0 ≤ℤ z
    → IsRootSize (unsigned_abs z * 1_000_000) s → s ≤ greatest → answer ≡ Ok (pos s)
    → IsOnlyAnswer (IsRoot z) answer
root_answers_above (pos n) s answer h is small e = root_answers n s answer is (e ∙ root_in_range s small)
root_answers_above (negsuc n) s answer h is small e = absurd (omega (arith, ints))
