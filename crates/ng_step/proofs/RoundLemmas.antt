-- Rounding to whole steps.
use Rattle.std.proofs.Common.{arith, ℕ, zero, suc, ◌+◌, ◌*◌, ◌/◌, ◌^◌, ◌<◌, ◌≤◌, ◌≡◌, refl, ℤ, pos, negsuc, neg_ℤ, ◌-ℤ◌, ◌*ℤ◌, to_z, of_z, ap, ◌∙◌}
use mir.Syntax.{w64}
use Rattle.std.proofs.lemmas.Int.{ints, to_z-of_z}
use Rattle.std.proofs.lemmas.Nat.{div_below, div-mul-add, mul-lt, mul-le}
use Rattle.std.proofs.Common.{rules}
use mir.Val.{SFits}
use Rattle.ng_num.specs.Rounding.{nearest}
use Rattle.std.specs.Prelude.{unsigned_abs, ◌<ℤ◌, ◌≤ℤ◌}
use Rattle.ng_num.specs.Range.{greatest}
use Rattle.ng_step.specs.Line.{in_steps}

-- a rounded size fits
pub steps_small : (n s : ℕ) → 0 < s → n ≤ greatest → (2 * n + s) / (2 * s) < 2 ^ 45
steps_small n s some h = div_below (2 * n + s) (2 * s) (2 ^ 45) (omega arith) (omega arith)

pub in_steps_below : (z : ℤ) (s n q : ℕ) → z <ℤ pos 0 → n ≡ unsigned_abs z → q ≡ (2 * n + s) / (2 * s) → q < 2 ^ 45
    → to_z w64 (of_z w64 (pos 0 -ℤ to_z w64 q)) ≡ in_steps z s
unfolding in_steps
in_steps_below (pos m) s n q below is eq small = absurd (omega (arith, ints))
in_steps_below (negsuc m) s n q below is eq small = let e : q ≡ (2 * suc m + s) / (2 * s) = rw (← is) eq in rw (← e) (omega (arith, ints))

pub in_steps_above : (z : ℤ) (s n q : ℕ) → pos 0 ≤ℤ z → n ≡ unsigned_abs z → q ≡ (2 * n + s) / (2 * s) → q < 2 ^ 45 → to_z w64 q ≡ in_steps z s
unfolding in_steps
in_steps_above (pos m) s n q above is eq small = let e : q ≡ (2 * m + s) / (2 * s) = rw (← is) eq in rw (← e) (omega (arith, ints))
in_steps_above (negsuc m) s n q above is eq small = absurd (omega (arith, ints))

pub neg_scaled : (m s : ℕ) → neg_ℤ (pos m) *ℤ pos s ≡ neg_ℤ (pos (m * s))
neg_scaled zero s = grind (arith, ints)
neg_scaled (suc m) s = refl

nearest_is : (n s : ℕ) → 0 < s → (nearest n s * (2 * s) ≤ 2 * n + s) × (2 * n < nearest n s * (2 * s) + s)
nearest_is n s some = (omega arith, omega arith)

-- rounding moves a coordinate by at most half a step
pub rounded_near : (z : ℤ) (s : ℕ) → 0 < s → 2 * unsigned_abs (in_steps z s *ℤ pos s -ℤ z) ≤ s
unfolding in_steps
rounded_near (pos n) s some = let e = nearest_is n s some in omega (arith, ints)
rounded_near (negsuc n) s some = let e = nearest_is (suc n) s some in simp neg_scaled (omega (arith, ints))

-- a product of machine integers is the product
pub product_same : (q p z : ℤ) (s : ℕ) → q ≡ in_steps z s → unsigned_abs q < 2 ^ 45 → 0 < s → s ≤ 1_000_000 → unsigned_abs z ≤ greatest
    → p ≡ to_z w64 (of_z w64 q) *ℤ to_z w64 s → (p ≡ in_steps z s *ℤ pos s) × (unsigned_abs p < 2 ^ 44) × (2 * unsigned_abs (p -ℤ z) ≤ s)
product_same q p z s is small some most range e =
    let fits_q : SFits w64 q = search (rules, ints) in
    let step : to_z w64 s ≡ pos s = omega (arith, ints) in
    let same : p ≡ in_steps z s *ℤ pos s = (simp (to_z-of_z, step) at e) ∙ ap (λ x. x *ℤ pos s) is in
    let near = rounded_near z s some in
    rw same (refl, omega (arith, ints), near)

pub square_small : (n : ℕ) → n < 2 ^ 45 → n * n < 2 ^ 90
square_small n h = mul-lt n n (2 ^ 45) (2 ^ 45) h h

pub stored : (p : ℤ) → unsigned_abs p < 2 ^ 62 → to_z w64 (of_z w64 p) ≡ p
stored p h = omega (arith, ints)

pub stored_near : (p z : ℤ) (s : ℕ) → unsigned_abs p < 2 ^ 44 → 2 * unsigned_abs (p -ℤ z) ≤ s → 2 * unsigned_abs (to_z w64 (of_z w64 p) -ℤ z) ≤ s
stored_near p z s small h = let same = stored p (omega arith) in rw same h

exact_div : (k s : ℕ) → 0 < s → (k * s) / s ≡ k
exact_div k s some = let e : k * s ≡ k * s + 0 = omega arith in rw e (div-mul-add k s 0 some)

product_some : (k s : ℕ) → 0 < s → 0 < suc k * s
product_some k s some = let p : 1 * 1 ≤ suc k * s = mul-le 1 1 (suc k) s (omega arith) some in omega arith

-- the whole steps of a length
pub whole_above : (z n : ℤ) (s q : ℕ) → 0 < s → z ≡ n *ℤ pos s → q ≡ unsigned_abs z / s → pos 0 ≤ℤ z → pos q ≡ n
whole_above z (pos k) s q some is eq above =
    let size : unsigned_abs z ≡ k * s = ap unsigned_abs is in
    ap pos (eq ∙ ap (λ x. x / s) size ∙ exact_div k s some)
whole_above z (negsuc k) s q some is eq above =
    let negative : z ≡ neg_ℤ (pos (suc k * s)) = is in
    let size = product_some k s some in
    absurd (omega (arith, ints))

pub whole_below : (z n : ℤ) (s q : ℕ) → 0 < s → z ≡ n *ℤ pos s → q ≡ unsigned_abs z / s → z <ℤ pos 0 → neg_ℤ (pos q) ≡ n
whole_below z (pos k) s q some is eq below =
    let positive : z ≡ pos (k * s) = is in
    absurd (omega (arith, ints))
whole_below z (negsuc k) s q some is eq below =
    let negative : z ≡ neg_ℤ (pos (suc k * s)) = is in
    let size : unsigned_abs z ≡ suc k * s = omega (arith, ints) in
    ap (λ x. neg_ℤ (pos x)) (eq ∙ ap (λ x. x / s) size ∙ exact_div (suc k) s some)

pub div_small : (u s : ℕ) → 0 < s → u < 2 ^ 60 → u / s < 2 ^ 60
div_small u s some h =
    let more : u * 1 ≤ u * s = mul-le u 1 u s (omega arith) some in
    let wide : 2 ^ 60 * 1 ≤ 2 ^ 60 * s = mul-le (2 ^ 60) 1 (2 ^ 60) s (omega arith) some in
    div_below u s (2 ^ 60) some (omega arith)

pub below_stored : (q : ℕ) → q < 2 ^ 60 → to_z w64 (of_z w64 (pos 0 -ℤ to_z w64 q)) ≡ neg_ℤ (pos q)
below_stored q h = omega (arith, ints)

pub above_stored : (q : ℕ) → q < 2 ^ 60 → to_z w64 q ≡ pos q
above_stored q h = omega (arith, ints)
