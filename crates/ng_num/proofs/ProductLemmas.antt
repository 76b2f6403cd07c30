-- Products and quotients: computing from sizes and signs gives what the definition says.
use Rattle.std.proofs.Common.{◌≡◌, ℕ, zero, suc, ◌*◌, ◌^◌, ◌<◌, ◌≤◌, Bool, true, false, ℤ, ◌*ℤ◌, unsigned_abs, Result, Err, refl, sym, ap, ◌∙◌, arith}
use Rattle.std.proofs.lemmas.Bool.Decides.{nat_tests}
use Rattle.ng_num.specs.Range.{IsOnlyAnswer, greatest, in_range}
use Rattle.ng_num.specs.Rounding.{IsNearest, nearest, near_by, signed, is_unlike}
use Rattle.ng_num.specs.Arithmetic.{million, product, quotient_of}
use Rattle.ng_num.specs.declared.fault.Fault.{Fault}
use Rattle.ng_num.specs.declared.fault.Fault.TheVariants.{OutOfRange, BadArithmetic}
use Rattle.ng_num.proofs.NearestLemmas.{near-product, near_by-product, Answers_nearest}

-- a product is the nearest count to the product of the numbers
pub product_answers : (a b : ℤ) (answer : Result ℤ Fault) → answer ≡ in_range (product a b) → IsOnlyAnswer (IsNearest (a *ℤ b) million) answer
product_answers a b answer e = Answers_nearest (a *ℤ b) million answer (omega arith) e

pub product_by_size : (a b : ℤ) (m n k : ℕ) → m ≡ unsigned_abs a → n ≡ unsigned_abs b
    → k ≡ nearest (m * n) 1_000_000 → in_range (signed (is_unlike a b) k) ≡ in_range (product a b)
product_by_size a b m n k em en ek =
    let sizes : nearest (unsigned_abs a * unsigned_abs b) 1_000_000 ≡ k = rw (ek, em, en) refl in
    ap in_range (sym (near-product a b 1_000_000 (omega arith) ∙ ap (signed (is_unlike a b)) sizes))

unsigned_abs-signed : (s : Bool) (k : ℕ) → unsigned_abs (signed s k) ≡ k
unsigned_abs-signed true zero = refl
unsigned_abs-signed true (suc k) = refl
unsigned_abs-signed false k = refl

beyond : (z : ℤ) → greatest < unsigned_abs z → in_range z ≡ Err OutOfRange
beyond z h = grind (arith, nat_tests)

unsigned_abs-product : (a b : ℤ) → unsigned_abs (product a b) ≡ nearest (unsigned_abs a * unsigned_abs b) 1_000_000
unsigned_abs-product a b = ap unsigned_abs (near-product a b 1_000_000 (omega arith))
    ∙ unsigned_abs-signed (is_unlike a b) (nearest (unsigned_abs a * unsigned_abs b) 1_000_000)

pub product_beyond : (a b : ℤ) → 2 ^ 64 ≤ unsigned_abs a * unsigned_abs b → Err OutOfRange ≡ in_range (product a b)
product_beyond a b h = sym (beyond (product a b) (omega (arith, unsigned_abs-product a b)))

pub quotient_by_size : (a b : ℤ) (m n k : ℕ) → 0 < unsigned_abs b → m ≡ unsigned_abs a → n ≡ unsigned_abs b → k ≡ nearest (m * 1_000_000) n
    → in_range (signed (is_unlike a b) k) ≡ in_range (near_by (a *ℤ million) b)
quotient_by_size a b m n k some em en ek =
    let sizes : nearest (unsigned_abs a * 1_000_000) (unsigned_abs b) ≡ k = rw (ek, em, en) refl in
    ap in_range (sym (near_by-product a b 1_000_000 some ∙ ap (signed (is_unlike a b)) sizes))

pub quotient_by_zero : (a b : ℤ) → unsigned_abs b ≡ 0 → quotient_of a b ≡ Err BadArithmetic
unfolding quotient_of
quotient_by_zero a b z = grind (arith, nat_tests)

pub quotient_by_other : (a b : ℤ) → 0 < unsigned_abs b → quotient_of a b ≡ in_range (near_by (a *ℤ million) b)
unfolding quotient_of
quotient_by_other a b some = grind (arith, nat_tests)
