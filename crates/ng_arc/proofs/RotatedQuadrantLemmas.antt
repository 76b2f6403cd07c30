-- An arc passes the direction at which a quadrant begins exactly if it enters the quadrant.
use Rattle.std.proofs.Common.{arith, ℕ, zero, suc, ◌<◌, ◌≡◌, ◌∙◌, refl, sym, ap, ℤ, pos, negsuc, neg_ℤ, ◌*ℤ◌}
use Rattle.std.proofs.lemmas.Int.{ints}
use Rattle.std.proofs.Math.IntN.{*ℤ_comm, neg_ℤ-neg_ℤ, negsuc-*ℤ-pos, pos-*ℤ-negsuc, negsuc-*ℤ-negsuc, zero-*ℤ}
use Rattle.ng_canon.specs.declared.plane.ArcDirection.{ArcDirection}
use Rattle.ng_canon.specs.declared.plane.ArcDirection.TheVariants.{Clockwise, Counterclockwise}
use Rattle.ng_canon.specs.declared.plane_point.PlanePoint.{PlanePoint}
use Rattle.ng_canon.specs.declared.quadrant.Quadrant.{Quadrant}
use Rattle.ng_canon.specs.declared.quadrant.Quadrant.TheVariants.{First, Second, Third, Fourth}
use Rattle.ng_canon.specs.Plane.{cross, dot, mirror}
use Rattle.ng_arc.specs.Extremes.{sweep_by, is_sweep_within, is_passed}
use Rattle.ng_canon.specs.Quadrant.{quadrant}

-- ---- products with a sign

pub neg_times : (x y : ℤ) → neg_ℤ x *ℤ y ≡ neg_ℤ (x *ℤ y)
neg_times (pos zero) y = simp zero-*ℤ
neg_times (pos (suc n)) (pos m) = negsuc-*ℤ-pos n m
neg_times (pos (suc n)) (negsuc m) = negsuc-*ℤ-negsuc n m ∙ simp (pos-*ℤ-negsuc, neg_ℤ-neg_ℤ)
neg_times (negsuc n) (pos m) = simp (negsuc-*ℤ-pos, neg_ℤ-neg_ℤ)
neg_times (negsuc n) (negsuc m) = simp (negsuc-*ℤ-negsuc, pos-*ℤ-negsuc)

pub times_neg : (x y : ℤ) → x *ℤ neg_ℤ y ≡ neg_ℤ (x *ℤ y)
times_neg x y = *ℤ_comm x (neg_ℤ y) ∙ neg_times y x ∙ ap neg_ℤ (*ℤ_comm y x)

-- ---- an arc seen from the other side

abbrev flip : PlanePoint → PlanePoint
flip p = record { a = p.a; b = neg_ℤ p.b }

cross-flip-flip : (p q : PlanePoint) → cross (flip p) (flip q) ≡ cross q p
cross-flip-flip p q = rw (times_neg p.a q.b, neg_times p.b q.a, *ℤ_comm p.a q.b, *ℤ_comm p.b q.a) (omega (arith, ints))

dot-flip-flip : (p q : PlanePoint) → dot (flip p) (flip q) ≡ dot p q
dot-flip-flip p q = rw (times_neg (neg_ℤ p.b) q.b, neg_times p.b q.b) (omega (arith, ints))

cross-flip : (p q : PlanePoint) → cross (flip p) q ≡ cross (flip q) p
cross-flip p q = rw (neg_times p.b q.a, neg_times q.b p.a, *ℤ_comm p.a q.b, *ℤ_comm p.b q.a) (omega (arith, ints))

cross-flip-right : (p q : PlanePoint) → cross p (flip q) ≡ cross q (flip p)
cross-flip-right p q = rw (times_neg p.a q.b, times_neg q.a p.b, *ℤ_comm p.a q.b, *ℤ_comm p.b q.a) (omega (arith, ints))

dot-flip : (p q : PlanePoint) → dot p (flip q) ≡ dot (flip p) q
dot-flip p q = rw (times_neg p.b q.b, neg_times p.b q.b) refl

within_same : (x x' y y' z z' u u' v v' : ℤ) → x ≡ x' → y ≡ y' → z ≡ z' → u ≡ u' → v ≡ v'
    → is_sweep_within (sweep_by x y) (sweep_by z u) v ≡ is_sweep_within (sweep_by x' y') (sweep_by z' u') v'
within_same x x' y y' z z' u u' v v' ex ey ez eu ev = rw (ex, ey, ez, eu, ev) refl

pub passed_mirrored : (turn : ArcDirection) (s e d : PlanePoint)
    → is_passed turn s e (mirror turn d) ≡ is_passed Counterclockwise (mirror turn s) (mirror turn e) d
unfolding is_passed
passed_mirrored Counterclockwise s e d = refl
passed_mirrored Clockwise s e d =
    within_same _ _ _ _ _ _ _ _ _ _ (sym (cross-flip-flip s e)) (sym (dot-flip-flip s e)) (cross-flip d s) (dot-flip s d) (cross-flip-right e d)

-- ---- an arc turned until it begins in the first quadrant

abbrev pub turned : Quadrant → PlanePoint → PlanePoint
turned First p = p
turned Second p = record { a = p.b; b = neg_ℤ p.a }
turned Third p = record { a = neg_ℤ p.a; b = neg_ℤ p.b }
turned Fourth p = record { a = neg_ℤ p.b; b = p.a }

pub cross-turned : (q : Quadrant) (p r : PlanePoint) → cross (turned q p) (turned q r) ≡ cross p r
cross-turned First p r = refl
cross-turned Second p r = rw (times_neg p.b r.a, neg_times p.a r.b) (omega (arith, ints))
cross-turned Third p r = rw (times_neg (neg_ℤ p.a) r.b, neg_times p.a r.b, times_neg (neg_ℤ p.b) r.a, neg_times p.b r.a) (omega (arith, ints))
cross-turned Fourth p r = rw (neg_times p.b r.a, times_neg p.a r.b) (omega (arith, ints))

pub dot-turned : (q : Quadrant) (p r : PlanePoint) → dot (turned q p) (turned q r) ≡ dot p r
dot-turned First p r = refl
dot-turned Second p r = rw (times_neg (neg_ℤ p.a) r.a, neg_times p.a r.a) (omega (arith, ints))
dot-turned Third p r = rw (times_neg (neg_ℤ p.a) r.a, neg_times p.a r.a, times_neg (neg_ℤ p.b) r.b, neg_times p.b r.b) (omega (arith, ints))
dot-turned Fourth p r = rw (times_neg (neg_ℤ p.b) r.b, neg_times p.b r.b) (omega (arith, ints))

pub passed-turned : (q : Quadrant) (s e d : PlanePoint) → is_passed Counterclockwise (turned q s) (turned q e) (turned q d) ≡ is_passed Counterclockwise s e d
unfolding is_passed
passed-turned q s e d =
    within_same _ _ _ _ _ _ _ _ _ _ (cross-turned q s e) (dot-turned q s e) (cross-turned q s d) (dot-turned q s d) (cross-turned q d e)

-- the point of a quadrant with these two sizes
abbrev pub point_of_quadrant : Quadrant → ℕ → ℕ → PlanePoint
point_of_quadrant First i o = record { a = pos i; b = pos o }
point_of_quadrant Second i o = record { a = neg_ℤ (pos o); b = pos i }
point_of_quadrant Third i o = record { a = neg_ℤ (pos i); b = neg_ℤ (pos o) }
point_of_quadrant Fourth i o = record { a = pos o; b = neg_ℤ (pos i) }

spot_same : (a a' b b' : ℤ) → a ≡ a' → b ≡ b' → let p : PlanePoint = record { a = a; b = b } in let q : PlanePoint = record { a = a'; b = b' } in p ≡ q
spot_same a a' b b' e f = cc

-- the position of a quadrant relative to another
abbrev pub relative : Quadrant → Quadrant → Quadrant
relative First First = First
relative First Second = Second
relative First Third = Third
relative First Fourth = Fourth
relative Second First = Fourth
relative Second Second = First
relative Second Third = Second
relative Second Fourth = Third
relative Third First = Third
relative Third Second = Fourth
relative Third Third = First
relative Third Fourth = Second
relative Fourth First = Second
relative Fourth Second = Third
relative Fourth Third = Fourth
relative Fourth Fourth = First

pub turned-place : (q r : Quadrant) (i o : ℕ) → turned q (point_of_quadrant r i o) ≡ point_of_quadrant (relative q r) i o
turned-place First First i o = spot_same _ _ _ _ (omega (arith, ints)) (omega (arith, ints))
turned-place First Second i o = spot_same _ _ _ _ (omega (arith, ints)) (omega (arith, ints))
turned-place First Third i o = spot_same _ _ _ _ (omega (arith, ints)) (omega (arith, ints))
turned-place First Fourth i o = spot_same _ _ _ _ (omega (arith, ints)) (omega (arith, ints))
turned-place Second First i o = spot_same _ _ _ _ (omega (arith, ints)) (omega (arith, ints))
turned-place Second Second i o = spot_same _ _ _ _ (omega (arith, ints)) (omega (arith, ints))
turned-place Second Third i o = spot_same _ _ _ _ (omega (arith, ints)) (omega (arith, ints))
turned-place Second Fourth i o = spot_same _ _ _ _ (omega (arith, ints)) (omega (arith, ints))
turned-place Third First i o = spot_same _ _ _ _ (omega (arith, ints)) (omega (arith, ints))
turned-place Third Second i o = spot_same _ _ _ _ (omega (arith, ints)) (omega (arith, ints))
turned-place Third Third i o = spot_same _ _ _ _ (omega (arith, ints)) (omega (arith, ints))
turned-place Third Fourth i o = spot_same _ _ _ _ (omega (arith, ints)) (omega (arith, ints))
turned-place Fourth First i o = spot_same _ _ _ _ (omega (arith, ints)) (omega (arith, ints))
turned-place Fourth Second i o = spot_same _ _ _ _ (omega (arith, ints)) (omega (arith, ints))
turned-place Fourth Third i o = spot_same _ _ _ _ (omega (arith, ints)) (omega (arith, ints))
turned-place Fourth Fourth i o = spot_same _ _ _ _ (omega (arith, ints)) (omega (arith, ints))

pub quadrant-place : (q : Quadrant) (i o : ℕ) → 0 < i → quadrant (point_of_quadrant q i o) ≡ q
unfolding quadrant
quadrant-place First zero o h = absurd (omega arith)
quadrant-place First (suc i) o h = grind (arith, ints)
quadrant-place Second zero o h = absurd (omega arith)
quadrant-place Second (suc i) zero h = grind (arith, ints)
quadrant-place Second (suc i) (suc o) h = grind (arith, ints)
quadrant-place Third zero o h = absurd (omega arith)
quadrant-place Third (suc i) zero h = grind (arith, ints)
quadrant-place Third (suc i) (suc o) h = grind (arith, ints)
quadrant-place Fourth zero o h = absurd (omega arith)
quadrant-place Fourth (suc i) zero h = grind (arith, ints)
quadrant-place Fourth (suc i) (suc o) h = grind (arith, ints)
