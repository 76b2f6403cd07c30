use Rattle.std.proofs.Common.{arith, rules, ℕ, suc, ◌+◌, ◌-◌, ◌*◌, ◌/◌, ◌^◌, ◌≤◌, ◌≡◌, List, ◌∷◌, ap, ◌∙◌, subst, refl}
use Rattle.std.proofs.lemmas.Bool.Decides.{nat_tests}
use Rattle.std.proofs.Math.Nat.{pow-suc, mul-div_cancel, mul-le-mul_right}
use Rattle.ng_words.specs.Scan.{fraction_from, front_digits}
use Rattle.ng_words.proofs.plain_number.plain_fraction.Goals as goal

-- the digit that is worth 10 ^ suc k ten-millionths goes over to the sum
record DigitAdded (k sum digit unit total : ℕ) (others : List ℕ) : Type 0 where
  value : (sum + digit * unit) * 10 + fraction_from (10 ^ k) others ≡ total
  unit_after : unit / 10 ≡ 10 ^ k / 10
  bound : sum + digit * unit + 10 ^ k ≤ 1000000

digit_added : (k sum b unit total : ℕ) (others : List ℕ) → b - 48 ≤ 9 → unit ≡ 10 ^ suc k / 10 → sum + 10 ^ suc k ≤ 1000000
    → sum * 10 + fraction_from (10 ^ suc k) (b ∷ others) ≡ total
    → DigitAdded k sum (b - 48) unit total others
digit_added k sum b unit total others small is_unit fits value =
    let tenth : 10 ^ suc k / 10 ≡ 10 ^ k = ap (λ n. n / 10) (pow-suc 10 k) ∙ mul-div_cancel (10 ^ k) (omega arith) in
    let same : unit ≡ 10 ^ k = is_unit ∙ tenth in
    let worth : (b - 48) * 10 ^ suc k ≡ (b - 48) * (10 ^ k * 10) = ap (λ n. (b - 48) * n) (pow-suc 10 k) in
    let rest : fraction_from (10 ^ suc k / 10) others ≡ fraction_from (10 ^ k) others = ap (λ n. fraction_from n others) tenth in
    let scaled : (b - 48) * 10 ^ k ≤ 9 * 10 ^ k = mul-le-mul_right (10 ^ k) small in
    let power = pow-suc 10 k in
    rw same (record { value = omega (arith, value, worth, rest); unit_after = refl; bound = omega (arith, fits, power, scaled) })

pub loop-preserved : goal.loop-preserved
loop-preserved c =
    let b = c.in-Some.digit in
    let k = 6 - (c.loop.counter + 1) in
    let total = fraction_from 1000000 (front_digits c.args.digits.now) in
    let next : 6 - c.loop.counter ≡ suc k = omega (arith, c.loop-test.true) in
    let small : b - 48 ≤ 9 = grind (arith, nat_tests, c.in-Some.ensures) in
    let front : front_digits c.loop.digits ≡ b ∷ front_digits c.next_plain.new.self = search rules in
    let value = subst (λ (l : List ℕ). c.loop.sum * 10 + fraction_from (10 ^ (6 - c.loop.counter)) l ≡ total) front c.loop.invariant.value in
    let added = digit_added k c.loop.sum b c.loop.unit total (front_digits c.next_plain.new.self) small
    (c.loop.invariant.unit ∙ ap (λ n. 10 ^ n / 10) next)
    (subst (λ n. c.loop.sum + 10 ^ n ≤ 1000000) next c.loop.invariant.bound)
    (subst (λ n. c.loop.sum * 10 + fraction_from (10 ^ n) (b ∷ front_digits c.next_plain.new.self) ≡ total) next value)
    in
    record { rest = search rules; value = added.value; unit = added.unit_after; bound = added.bound; none = search rules }
