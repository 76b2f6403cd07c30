-- The rule of an arc in any quadrant (own), with a point given by the coordinate that inward steps decrease and the one
-- that outward steps increase.
use Rattle.std.specs.Prelude.{◌≡◌, ℕ, ◌+◌, ◌-◌, ◌*◌, ◌^◌, ◌<◌, ◌≤◌, pos, neg_ℤ, ◌+ℤ◌, ◌-ℤ◌}
use Rattle.ng_canon.specs.declared.quadrant.Quadrant.{Quadrant}
use Rattle.ng_canon.specs.declared.quadrant.Quadrant.TheVariants.{First, Second, Third, Fourth}
use Rattle.ng_canon.specs.Quadrant.{quadrant_after}
use Rattle.ng_step.specs.Arcs.{inward, outward, larger, HasSteps, step_at, next_spot}
use Rattle.ng_canon.specs.declared.item.AxisStep.TheVariants.{Still}
use Rattle.ng_step.specs.declared.steps.AxisSteps.{AxisSteps}
use Rattle.ng_step.specs.Frame.{pulse_with}
use Rattle.ng_step.specs.declared.walk.ArcWalk.{ArcWalk}
use Rattle.ng_step.specs.declared.circle.Circle.{Circle}
use Rattle.ng_canon.specs.declared.plane_point.PlanePoint.{PlanePoint}

-- the point of a quadrant with these two sizes
abbrev pub point_of_quadrant : Quadrant → ℕ → ℕ → PlanePoint
point_of_quadrant First i o = record { a = pos i; b = pos o }
point_of_quadrant Second i o = record { a = neg_ℤ (pos o); b = pos i }
point_of_quadrant Third i o = record { a = neg_ℤ (pos i); b = neg_ℤ (pos o) }
point_of_quadrant Fourth i o = record { a = pos o; b = neg_ℤ (pos i) }

abbrev pub in_step : Circle → Quadrant → ℕ
in_step c First = c.step_a
in_step c Second = c.step_b
in_step c Third = c.step_a
in_step c Fourth = c.step_b

abbrev pub out_step : Circle → Quadrant → ℕ
out_step c q = in_step c (quadrant_after q)

-- the square of a point's distance from the centre
abbrev pub norm : ℕ → ℕ → ℕ
norm i o = i * i + o * o

-- the invariant of every point
pub record Sound (square radius s k i o : ℕ) : Type 0 where
  pub some : 0 < i
  pub inner : i ≤ k
  pub outer : o ≤ k

-- the numbers of a circle, and a bound for every coordinate
pub record Bounded (square radius s k : ℕ) : Type 0 where
  pub large : 4 * (s * s) ≤ square
  pub within : square ≤ radius * radius
  pub fits : radius + s ≤ k

-- a bound for every radius
abbrev pub farthest : ℕ
farthest = 2 ^ 47

-- a bound for every coordinate of a walk
abbrev pub beyond : ℕ
beyond = 2 ^ 48

abbrev pub spot_of : ArcWalk → PlanePoint
spot_of w = point_of_quadrant w.quadrant w.inner w.outer

-- the differences are those of the point
pub record Walks (w : ArcWalk) : Type 0 where
  pub has : HasSteps w.circle
  pub bounded : Bounded w.circle.square farthest (larger w.circle) beyond
  pub sound : Sound w.circle.square farthest (larger w.circle) beyond w.inner w.outer
  pub inner_step : w.inner_step ≡ in_step w.circle w.quadrant
  pub outer_step : w.outer_step ≡ out_step w.circle w.quadrant
  pub inward_made : w.inward_made ≡ pulse_with w.frame (inward w.quadrant) Still
  pub outward_made : w.outward_made ≡ pulse_with w.frame (outward w.quadrant) Still
  pub inner_second : w.inner_second ≡ pos (2 * (w.inner_step * w.inner_step))
  pub outer_second : w.outer_second ≡ pos (2 * (w.outer_step * w.outer_step))
  pub excess : w.excess ≡ pos (norm w.inner w.outer) -ℤ pos w.circle.square
  pub inward : w.inward ≡ pos (w.inner_step * w.inner_step) -ℤ pos (2 * (w.inner * w.inner_step))
  pub outward : w.outward ≡ pos (w.outer_step * w.outer_step) +ℤ pos (2 * (w.outer * w.outer_step))

-- how far a point still has to go in its quadrant
abbrev pub distance_left : ℕ → ℕ → ℕ → ℕ
distance_left k i o = i + (k - o)

-- how far it still has to go in all; each step makes it smaller
abbrev pub budget : ℕ → ℕ → ℕ → ℕ → ℕ
budget k left i o = left * (2 * k + 1) + distance_left k i o

-- a walk has made a step by the rule
pub record ArcStepSpec (w w' : ArcWalk) (made : AxisSteps) : Type 0 where
  pub walks : Walks w'
  pub frame : w'.frame ≡ w.frame
  pub step : made ≡ pulse_with w.frame (step_at w.circle (spot_of w)) Still
  pub spot : spot_of w' ≡ next_spot w.circle (spot_of w)
  pub circle : w'.circle ≡ w.circle

-- a point relative to a quadrant, as its inner and its outer coordinate
abbrev pub turned : Quadrant → PlanePoint → PlanePoint
turned First p = p
turned Second p = record { a = p.b; b = neg_ℤ p.a }
turned Third p = record { a = neg_ℤ p.a; b = neg_ℤ p.b }
turned Fourth p = record { a = neg_ℤ p.b; b = p.a }
