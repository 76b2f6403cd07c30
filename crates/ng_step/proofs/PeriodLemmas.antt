-- The root rounded up is the least number that qualifies.
use Rattle.std.proofs.Common.{arith, ℕ, zero, suc, ◌+◌, ◌-◌, ◌*◌, ◌/◌, ◌<◌, ◌≤◌, ◌≡◌, refl, Bool, true, false}
use Rattle.std.proofs.lemmas.Nat.{mul-le, mul-lt, div_below}
use Rattle.std.proofs.lemmas.Bool.Decides.{nat_tests}
use Rattle.std.specs.Prelude.{nat_le, if◌then◌else◌}
use Rattle.ng_step.specs.Periods.{root_up, ceil_div, IsRootUp}

pub root_lt : (o w : ℕ) → o * o < w * w → o < w
root_lt o w h = grind (arith, mul-le)

pub root_le : (o w : ℕ) → o * o ≤ w * w → o ≤ w
root_le o w h = grind (arith, mul-lt)

root_step : (n r : ℕ) (t : Bool) → IsRootUp n r → nat_le (suc n) (r * r) ≡ t → IsRootUp (suc n) (if t then r else r + 1)
root_step n r true h e = record { enough = grind (arith, nat_tests); least = λ k le. h.least k (omega arith) }
root_step n r false h e =
    let below : r * r < suc n = grind (arith, nat_tests) in
    let enough = h.enough in
    record { enough = omega arith; least = λ k le. (let less : r < k = root_lt r k (omega arith) in omega arith) }

pub root_up_is : (n : ℕ) → IsRootUp n (root_up n)
unfolding root_up
root_up_is zero = record { enough = omega arith; least = λ k le. omega arith }
root_up_is (suc n) = root_step n (root_up n) (nat_le (suc n) (root_up n * root_up n)) (root_up_is n) refl

pub root_up_only : (n r : ℕ) → n ≤ r * r → ((k : ℕ) → n ≤ k * k → r ≤ k) → r ≡ root_up n
root_up_only n r enough least =
    let is = root_up_is n in
    let one = least (root_up n) is.enough in
    let two = is.least r enough in
    omega arith

pub ceil_div_le : (a b q : ℕ) → 0 < b → a ≤ q * b → ceil_div a b ≤ q
ceil_div_le a b q some h =
    let below : (a + b - 1) / b < q + 1 = div_below (a + b - 1) b (q + 1) some (omega arith) in
    omega arith
