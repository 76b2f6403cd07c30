-- A step from a point of a quadrant, in the rotated frame.
use Rattle.std.proofs.Common.{arith, ℕ, zero, suc, ◌+◌, ◌*◌, ◌<◌, ◌≤◌, ◌≡◌, refl, ℤ, pos, negsuc, neg_ℤ, ◌-ℤ◌, ◌*ℤ◌, true, false}
use Rattle.std.proofs.lemmas.Int.{ints}
use Rattle.std.specs.Prelude.{int_lt, unsigned_abs}
use Rattle.ng_canon.specs.declared.quadrant.Quadrant.{Quadrant}
use Rattle.ng_canon.specs.declared.quadrant.Quadrant.TheVariants.{First, Second, Third, Fourth}
use Rattle.ng_canon.specs.Quadrant.{quadrant_after, quadrant, same_quadrant}
use Rattle.ng_step.specs.Arcs.{inward, outward, excess, step_at, moved, next_spot, larger}
use Rattle.ng_step.specs.declared.circle.Circle.{Circle}
use Rattle.ng_canon.specs.declared.plane_point.PlanePoint.{PlanePoint}
use Rattle.ng_step.specs.Turned.{point_of_quadrant, in_step, out_step, norm}

pub quadrant-place : (q : Quadrant) (i o : ℕ) → 0 < i → quadrant (point_of_quadrant q i o) ≡ q
unfolding quadrant
quadrant-place First zero o h = absurd (omega arith)
quadrant-place First (suc i) o h = grind (arith, ints)
quadrant-place Second zero o h = absurd (omega arith)
quadrant-place Second (suc i) zero h = grind (arith, ints)
quadrant-place Second (suc i) (suc o) h = grind (arith, ints)
quadrant-place Third zero o h = absurd (omega arith)
quadrant-place Third (suc i) zero h = grind (arith, ints)
quadrant-place Third (suc i) (suc o) h = grind (arith, ints)
quadrant-place Fourth zero o h = absurd (omega arith)
quadrant-place Fourth (suc i) zero h = grind (arith, ints)
quadrant-place Fourth (suc i) (suc o) h = grind (arith, ints)

spot_same : (a a' b b' : ℤ) → a ≡ a' → b ≡ b' → let p : PlanePoint = record { a = a; b = b } in let q : PlanePoint = record { a = a'; b = b' } in p ≡ q
spot_same a a' b b' e f = cc

square_neg : (n : ℕ) → neg_ℤ (pos n) *ℤ neg_ℤ (pos n) ≡ pos (n * n)
square_neg zero = refl
square_neg (suc n) = refl

square_pos : (n : ℕ) → pos n *ℤ pos n ≡ pos (n * n)
square_pos n = refl

pub excess-place : (c : Circle) (q : Quadrant) (i o : ℕ) → excess c (point_of_quadrant q i o) ≡ pos (norm i o) -ℤ pos c.square
unfolding excess
excess-place c First i o = refl
excess-place c Second i o = rw (square_neg o) (omega (arith, ints))
excess-place c Third i o = rw (square_neg i, square_neg o) (omega (arith, ints))
excess-place c Fourth i o = rw (square_neg i) (omega (arith, ints))

pub moved_inward : (c : Circle) (q : Quadrant) (j o : ℕ) → moved c (inward q) (point_of_quadrant q (in_step c q + j) o) ≡ point_of_quadrant q j o
moved_inward c First j o = spot_same _ _ _ _ (omega (arith, ints)) refl
moved_inward c Second j o = spot_same _ _ _ _ refl (omega (arith, ints))
moved_inward c Third j o = spot_same _ _ _ _ (omega (arith, ints)) refl
moved_inward c Fourth j o = spot_same _ _ _ _ refl (omega (arith, ints))

pub moved_crossing : (c : Circle) (q : Quadrant) (i o j : ℕ) → i + j ≡ in_step c q
    → moved c (inward q) (point_of_quadrant q i o) ≡ point_of_quadrant (quadrant_after q) o j
moved_crossing c First i o j e = spot_same _ _ _ _ (omega (arith, ints)) refl
moved_crossing c Second i o j e = spot_same _ _ _ _ refl (omega (arith, ints))
moved_crossing c Third i o j e = spot_same _ _ _ _ (omega (arith, ints)) refl
moved_crossing c Fourth i o j e = spot_same _ _ _ _ refl (omega (arith, ints))

pub moved_outward : (c : Circle) (q : Quadrant) (i o : ℕ) → moved c (outward q) (point_of_quadrant q i o) ≡ point_of_quadrant q i (o + out_step c q)
moved_outward c First i o = spot_same _ _ _ _ refl (omega (arith, ints))
moved_outward c Second i o = spot_same _ _ _ _ (omega (arith, ints)) refl
moved_outward c Third i o = spot_same _ _ _ _ refl (omega (arith, ints))
moved_outward c Fourth i o = spot_same _ _ _ _ (omega (arith, ints)) refl

outside_test : (m n : ℕ) → n < m → int_lt (pos 0) (pos m -ℤ pos n) ≡ true
outside_test m n h = grind (arith, ints)

inside_test : (m n : ℕ) → m ≤ n → int_lt (pos 0) (pos m -ℤ pos n) ≡ false
inside_test m n h = grind (arith, ints)

pub step_outside : (c : Circle) (q : Quadrant) (i o : ℕ) → 0 < i → c.square < norm i o → step_at c (point_of_quadrant q i o) ≡ inward q
unfolding step_at
step_outside c q i o some h = rw (excess-place c q i o, outside_test (norm i o) c.square h, quadrant-place q i o some) refl

pub step_inside : (c : Circle) (q : Quadrant) (i o : ℕ) → 0 < i → norm i o ≤ c.square → step_at c (point_of_quadrant q i o) ≡ outward q
unfolding step_at
step_inside c q i o some h = rw (excess-place c q i o, inside_test (norm i o) c.square h, quadrant-place q i o some) refl

pub next_outside : (c : Circle) (q : Quadrant) (i o : ℕ) → 0 < i → c.square < norm i o
    → next_spot c (point_of_quadrant q i o) ≡ moved c (inward q) (point_of_quadrant q i o)
unfolding next_spot step_at
next_outside c q i o some h = rw (excess-place c q i o, outside_test (norm i o) c.square h, quadrant-place q i o some) refl

pub next_inside : (c : Circle) (q : Quadrant) (i o : ℕ) → 0 < i → norm i o ≤ c.square
    → next_spot c (point_of_quadrant q i o) ≡ moved c (outward q) (point_of_quadrant q i o)
unfolding next_spot step_at
next_inside c q i o some h = rw (excess-place c q i o, inside_test (norm i o) c.square h, quadrant-place q i o some) refl

pub in_step_le : (c : Circle) (q : Quadrant) → in_step c q ≤ larger c
in_step_le c First = omega arith
in_step_le c Second = omega arith
in_step_le c Third = omega arith
in_step_le c Fourth = omega arith

pub same_quadrant-self : (q : Quadrant) → same_quadrant q q ≡ true
same_quadrant-self First = refl
same_quadrant-self Second = refl
same_quadrant-self Third = refl
same_quadrant-self Fourth = refl

pub same_quadrant-quadrant_after : (q : Quadrant) → same_quadrant q (quadrant_after q) ≡ false
same_quadrant-quadrant_after First = refl
same_quadrant-quadrant_after Second = refl
same_quadrant-quadrant_after Third = refl
same_quadrant-quadrant_after Fourth = refl

-- each point except the centre has its place
pub record Placed (p : PlanePoint) : Type 0 where
  pub q : Quadrant
  pub i : ℕ
  pub o : ℕ
  pub some : 0 < i
  pub is : p ≡ point_of_quadrant q i o

pub placed : (a b : ℤ) → 0 < unsigned_abs a + unsigned_abs b → Placed (record { a = a; b = b })
placed (pos zero) (pos zero) h = absurd (omega arith)
placed (pos (suc a)) (pos b) h = record { q = First; i = suc a; o = b; some = omega arith; is = refl }
placed (pos zero) (pos (suc b)) h = record { q = Second; i = suc b; o = zero; some = omega arith; is = refl }
placed (negsuc a) (pos (suc b)) h = record { q = Second; i = suc b; o = suc a; some = omega arith; is = refl }
placed (negsuc a) (pos zero) h = record { q = Third; i = suc a; o = zero; some = omega arith; is = refl }
placed (negsuc a) (negsuc b) h = record { q = Third; i = suc a; o = suc b; some = omega arith; is = refl }
placed (pos a) (negsuc b) h = record { q = Fourth; i = suc b; o = a; some = omega arith; is = refl }
