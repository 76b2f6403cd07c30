-- Rounding by the seventh digit is rounding to the nearest millionth.
use Rattle.std.proofs.Common.{arith, ℕ, zero, suc, ◌+◌, ◌-◌, ◌*◌, ◌/◌, ◌%◌, ◌^◌, ◌<◌, ◌≤◌, ◌≡◌, List, [], ◌∷◌, length, refl, sym, ap, ◌∙◌, subst}
use Rattle.std.proofs.lemmas.Bool.Decides.{nat_tests}
use Rattle.std.proofs.lemmas.Nat.{div-mul-add}
use Rattle.std.proofs.Math.Nat.{pow-suc, mul-div_cancel, mul-le-mul_right}
use Rattle.ng_num.specs.Rounding.{nearest}
use Rattle.ng_words.specs.Grammar.{AreDigits, written_after}
use Rattle.ng_words.specs.Scan.{fraction_from}

round_final : (S v D : ℕ) → 0 < D → S * D ≤ v * 10000000 → v * 10000000 < S * D + D → (S + 5) / 10 ≡ nearest (v * 1000000) D
round_final S v D some low high =
    let q = (S + 5) / 10 in
    let r = (S + 5) % 10 in
    let whole : S + 5 ≡ q * 10 + r = omega arith in
    let small : r ≤ 9 = omega arith in
    let scaled : (S + 5) * D ≡ (q * 10 + r) * D = ap (λ x. x * D) whole in
    let small_scaled : r * D ≤ 9 * D = mul-le-mul_right D small in
    let b = 2 * (v * 1000000) + D - q * (2 * D) in
    let split : 2 * (v * 1000000) + D ≡ q * (2 * D) + b = omega arith in
    let below : b < 2 * D = omega arith in
    sym (ap (λ x. x / (2 * D)) split ∙ div-mul-add q (2 * D) b below)

written_split : (n : ℕ) (bs : List ℕ) → written_after n bs ≡ n * 10 ^ length bs + written_after 0 bs
written_split n [] = omega arith
written_split n (b ∷ bs) =
    let first = written_split (n * 10 + (b - 48)) bs in
    let second = written_split (0 * 10 + (b - 48)) bs in
    rw pow-suc (omega (arith, first, second))

-- what digits write has at most as many digits
pub written_lt : (bs : List ℕ) → AreDigits bs → written_after 0 bs < 10 ^ length bs
written_lt [] d = omega arith
written_lt (b ∷ bs) d =
    let digit : b - 48 ≤ 9 = grind (arith, nat_tests, d.0) in
    let scaled : (b - 48) * 10 ^ length bs ≤ 9 * 10 ^ length bs = mul-le-mul_right (10 ^ length bs) digit in
    let split = written_split (0 + (b - 48)) bs in
    let others = written_lt bs d.1 in
    rw pow-suc (omega (arith, split, scaled, others))

record Near (u S v D : ℕ) : Type 0 where
  low : S * D ≤ v * (u * 10)
  high : v * (u * 10) < S * D + D

-- after the last unit nothing is added
fraction-zero : (ds : List ℕ) → fraction_from 0 ds ≡ 0
fraction-zero [] = refl
fraction-zero (b ∷ ds) = let others = fraction-zero ds in omega (arith, others)

near_last : (c P v w : ℕ) → v ≡ c * P + w → w < P → Near 1 c v (P * 10)
near_last c P v w e h = record { low = omega arith; high = omega arith }

near_step : (c u S P v w : ℕ) → v ≡ c * P + w → Near u S w P → Near (u * 10) (c * (u * 10) + S) v (P * 10)
near_step c u S P v w e h =
    let scaled : v * u ≡ (c * P + w) * u = ap (λ x. x * u) e in
    let low = h.low in
    let high = h.high in
    record { low = omega arith; high = omega arith }

fraction_near : (k : ℕ) (ds : List ℕ) → AreDigits ds → Near (10 ^ k) (fraction_from (10 ^ k) ds) (written_after 0 ds) (10 ^ length ds)
fraction_near k [] d = record { low = omega arith; high = omega arith }
fraction_near zero (b ∷ ds) d =
    let P : ℕ → ℕ → Type 0 = λ c D. Near 1 c (written_after (0 + (b - 48)) ds) D in
    let none = fraction-zero ds in
    let sum : b - 48 ≡ (b - 48) * 1 + fraction_from 0 ds = omega arith in
    let split : written_after (0 + (b - 48)) ds ≡ (b - 48) * 10 ^ length ds + written_after 0 ds = omega (arith, written_split (0 + (b - 48)) ds) in
    subst (λ c. P c (10 ^ suc (length ds))) sum
    (subst (P (b - 48)) (sym (pow-suc 10 (length ds)))
    (near_last (b - 48) (10 ^ length ds) _ (written_after 0 ds) split (written_lt ds d.1)))
fraction_near (suc k) (b ∷ ds) d =
    let split : written_after (0 + (b - 48)) ds ≡ (b - 48) * 10 ^ length ds + written_after 0 ds = omega (arith, written_split (0 + (b - 48)) ds) in
    let step = near_step (b - 48) (10 ^ k) _ (10 ^ length ds) _ (written_after 0 ds) split (fraction_near k ds d.1) in
    let unit : 10 ^ k * 10 / 10 ≡ 10 ^ k = mul-div_cancel (10 ^ k) (omega arith) in
    rw (pow-suc, pow-suc, unit) step

-- the millionths of a fraction are the nearest ones to it
pub fraction_is : (ds : List ℕ) → AreDigits ds → (fraction_from 1000000 ds + 5) / 10 ≡ nearest (written_after 0 ds * 1000000) (10 ^ length ds)
fraction_is ds d =
    let near : Near 1000000 (fraction_from 1000000 ds) (written_after 0 ds) (10 ^ length ds) = fraction_near 6 ds d in
    let low = near.low in
    let high = near.high in
    let some = written_lt ds d in
    round_final (fraction_from 1000000 ds) (written_after 0 ds) (10 ^ length ds) (omega arith) (omega arith) (omega arith)
