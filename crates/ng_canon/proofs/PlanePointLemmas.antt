-- Points relative to a centre.
use Rattle.std.proofs.Common.{◌∙◌, ◌<◌, ◌^◌, ◌≤◌, arith, ◌≡◌, refl, ℤ, ◌+ℤ◌, ◌-ℤ◌, ◌*ℤ◌, unsigned_abs, to_z, of_z}
use mir.Syntax.{w64, w128}
use Rattle.std.proofs.lemmas.Int.{ints, unsigned_abs-mul, fits_signed_from_abs}
use Rattle.std.proofs.Math.Nat.{mul-le-mul}
use Rattle.std.specs.Prelude.{FitsSigned}
use Rattle.ng_num.specs.Range.{IsCount}
use Rattle.ng_num.specs.declared.point.Point.{Point}
use Rattle.ng_canon.specs.declared.segment.Arc.{Arc}
use Rattle.ng_canon.specs.declared.plane_point.PlanePoint.{PlanePoint}
use Rattle.ng_canon.specs.Plane.{pick_a, pick_b, from_centre, AreBelowInSize, cross, dot}

-- a difference of machine integers is the difference
stored_difference : (p c : ℤ) → IsCount p → IsCount c → to_z w64 (of_z w64 (to_z w64 (of_z w64 p) -ℤ to_z w64 (of_z w64 c))) ≡ p -ℤ c
stored_difference p c h k = omega (arith, ints)

abbrev stored_point : ℤ → ℤ → ℤ → ℤ → PlanePoint
stored_point p c q d = record {
  a = to_z w64 (of_z w64 (to_z w64 (of_z w64 p) -ℤ to_z w64 (of_z w64 c)));
  b =
      to_z w64 (of_z w64 (to_z w64 (of_z w64 q) -ℤ to_z w64 (of_z w64 d)));
}

pub from_centre_is : (arc : Arc) (at : Point) (n m k l p q : ℤ) → IsCount p → IsCount arc.centre_a → IsCount q → IsCount arc.centre_b
    → n ≡ p → m ≡ arc.centre_a → k ≡ q → l ≡ arc.centre_b → p ≡ pick_a arc.plane at.x at.y at.z → q ≡ pick_b arc.plane at.x at.y at.z
    → stored_point n m k l ≡ from_centre arc at
from_centre_is arc at n m k l p q hp hc hq hd en em ek el ep eq =
    let a = stored_difference p arc.centre_a hp hc in
    let b = stored_difference q arc.centre_b hq hd in
    rw (en, em, ek, el, a, b, ep, eq) refl

-- ---- products

stored_wide : (x : ℤ) → unsigned_abs x ≤ 2 ^ 102 → to_z w128 (of_z w128 x) ≡ x
stored_wide x h = omega (arith, ints)

-- a length as a machine integer is the length
pub stored : (x : ℤ) → unsigned_abs x < 2 ^ 50 → to_z w64 (of_z w64 x) ≡ x
stored x h = omega (arith, ints)

-- a length in a wide machine integer is the length
widened : (x : ℤ) → unsigned_abs x < 2 ^ 50 → to_z w128 (of_z w128 (to_z w64 (of_z w64 x))) ≡ x
widened x h = rw (stored x h) (stored_wide x (omega (arith, h)))

product_size : (p q : ℤ) → unsigned_abs p < 2 ^ 50 → unsigned_abs q < 2 ^ 50 → unsigned_abs (p *ℤ q) ≤ 2 ^ 100
product_size p q h k =
    let first : unsigned_abs p ≤ 2 ^ 50 = omega arith in
    let second : unsigned_abs q ≤ 2 ^ 50 = omega arith in
    omega (arith, unsigned_abs-mul p q, mul-le-mul first second)

-- the wide product of two lengths is their product, and fits
pub wide_product : (p q : ℤ) → unsigned_abs p < 2 ^ 50 → unsigned_abs q < 2 ^ 50
    → to_z w128 (of_z w128 (to_z w128 (of_z w128 (to_z w64 (of_z w64 p))) *ℤ to_z w128 (of_z w128 (to_z w64 (of_z w64 q))))) ≡ p *ℤ q
wide_product p q h k = rw (widened p h, widened q k) (stored_wide (p *ℤ q) (omega (arith, product_size p q h k)))

pub wide_product_size : (p q : ℤ) → unsigned_abs p < 2 ^ 50 → unsigned_abs q < 2 ^ 50
    → unsigned_abs (to_z w128 (of_z w128 (to_z w128 (of_z w128 (to_z w64 (of_z w64 p))) *ℤ to_z w128 (of_z w128 (to_z w64 (of_z w64 q)))))) ≤ 2 ^ 100
wide_product_size p q h k = rw (wide_product p q h k) (product_size p q h k)

pub wide_product_fits : (p q : ℤ) → unsigned_abs p < 2 ^ 50 → unsigned_abs q < 2 ^ 50
    → FitsSigned w128 (to_z w128 (of_z w128 (to_z w64 (of_z w64 p))) *ℤ to_z w128 (of_z w128 (to_z w64 (of_z w64 q))))
wide_product_fits p q h k = rw (widened p h, widened q k) (fits_signed_from_abs w128 (p *ℤ q) (omega (arith, product_size p q h k)))

stored_product : (p q x : ℤ) → unsigned_abs p < 2 ^ 50 → unsigned_abs q < 2 ^ 50 → x ≡ to_z w64 (of_z w64 p) *ℤ to_z w64 (of_z w64 q) → x ≡ p *ℤ q
stored_product p q x hp hq e = e ∙ rw (stored p hp, stored q hq) refl

pub stored_cross : (p q : PlanePoint) (x y : ℤ) → AreBelowInSize p (2 ^ 50) → AreBelowInSize q (2 ^ 50)
    → x ≡ to_z w64 (of_z w64 p.a) *ℤ to_z w64 (of_z w64 q.b)
    → y ≡ to_z w64 (of_z w64 p.b) *ℤ to_z w64 (of_z w64 q.a)
    → unsigned_abs x ≤ 2 ^ 100 → unsigned_abs y ≤ 2 ^ 100 → to_z w128 (of_z w128 (to_z w128 (of_z w128 x) -ℤ to_z w128 (of_z w128 y))) ≡ cross p q
stored_cross p q x y hp hq ex ey hx hy =
    let first = stored_wide x (omega arith) in
    let second = stored_wide y (omega arith) in
    let whole : to_z w128 (of_z w128 (x -ℤ y)) ≡ x -ℤ y = stored_wide (x -ℤ y) (omega (arith, ints)) in
    rw (first, second, whole, stored_product p.a q.b x hp.a hq.b ex, stored_product p.b q.a y hp.b hq.a ey) refl

pub stored_dot : (p q : PlanePoint) (x y : ℤ) → AreBelowInSize p (2 ^ 50) → AreBelowInSize q (2 ^ 50)
    → x ≡ to_z w64 (of_z w64 p.a) *ℤ to_z w64 (of_z w64 q.a)
    → y ≡ to_z w64 (of_z w64 p.b) *ℤ to_z w64 (of_z w64 q.b)
    → unsigned_abs x ≤ 2 ^ 100 → unsigned_abs y ≤ 2 ^ 100 → to_z w128 (of_z w128 (to_z w128 (of_z w128 x) +ℤ to_z w128 (of_z w128 y))) ≡ dot p q
stored_dot p q x y hp hq ex ey hx hy =
    let first = stored_wide x (omega arith) in
    let second = stored_wide y (omega arith) in
    let whole : to_z w128 (of_z w128 (x +ℤ y)) ≡ x +ℤ y = stored_wide (x +ℤ y) (omega (arith, ints)) in
    rw (first, second, whole, stored_product p.a q.a x hp.a hq.a ex, stored_product p.b q.b y hp.b hq.b ey) refl
