-- Many steps of an arc at once, from one point to another (own).
use Rattle.std.specs.Prelude.{◌≡◌, ℕ, ◌+◌, ◌<◌, ◌≤◌, ℤ, pos, ◌+ℤ◌, ◌-ℤ◌, ◌*ℤ◌, false, List, length, drop}
use Rattle.ng_step.specs.declared.circle.Circle.{Circle}
use Rattle.ng_canon.specs.declared.quadrant.Quadrant.{Quadrant}
use Rattle.ng_canon.specs.declared.plane_point.PlanePoint.{PlanePoint}
use Rattle.ng_step.specs.declared.quadrant.PlaneStep.{PlaneStep}
use Rattle.ng_step.specs.declared.sweep.QuadrantSweep.{QuadrantSweep}
use Rattle.ng_step.specs.declared.sweep.QuadrantEnd.{QuadrantEnd}
use Rattle.ng_step.specs.declared.sweep.SweepSteps.{SweepSteps}
use Rattle.ng_step.specs.declared.walk.ArcWalk.{ArcWalk}
use Rattle.ng_step.specs.Arcs.{larger, stops, IsArc, net_a, net_b}
use Rattle.ng_step.specs.Turned.{point_of_quadrant, turned, Sound, farthest, beyond, budget}
use Rattle.ng_step.specs.Private.Sweeps.{IsFirstPast}

-- where the remaining steps lead
abbrev pub reach_a : Circle → PlanePoint → List PlaneStep → ℤ
reach_a c p ms = p.a +ℤ net_a ms *ℤ pos c.step_a

abbrev pub reach_b : Circle → PlanePoint → List PlaneStep → ℤ
reach_b c p ms = p.b +ℤ net_b ms *ℤ pos c.step_b

-- every arc from the first point makes n steps to the second, and goes on from there
pub record Leads (c : Circle) (e : PlanePoint) (q : Quadrant) (i o left : ℕ) (q' : Quadrant) (i' o' left' n : ℕ) : Type 0 where
  pub sound : Sound c.square farthest (larger c) beyond i' o'
  pub rest : (ms : List PlaneStep) → IsArc c e left (point_of_quadrant q i o) ms → (n ≤ length ms) × IsArc c e left' (point_of_quadrant q' i' o') (drop n ms)
  pub net : (ms : List PlaneStep) → IsArc c e left (point_of_quadrant q i o) ms
      → (reach_a c (point_of_quadrant q' i' o') (drop n ms) ≡ reach_a c (point_of_quadrant q i o) ms)
      × (reach_b c (point_of_quadrant q' i' o') (drop n ms) ≡ reach_b c (point_of_quadrant q i o) ms)
  pub bound : n + budget beyond left' i' o' ≤ budget beyond left i o

abbrev pub WalkLeads : PlanePoint → ArcWalk → ℕ → ArcWalk → ℕ → ℕ → Type 0
WalkLeads e w left w' left' n = Leads w.circle e w.quadrant w.inner w.outer left w'.quadrant w'.inner w'.outer left' n

-- every arc from the first point makes n steps and ends at the second
pub record EndsArc (c : Circle) (e : PlanePoint) (q : Quadrant) (i o left : ℕ) (last : PlanePoint) (n : ℕ) : Type 0 where
  pub steps : (ms : List PlaneStep) → IsArc c e left (point_of_quadrant q i o) ms → n ≡ length ms
  pub net : (ms : List PlaneStep) → IsArc c e left (point_of_quadrant q i o) ms
      → (last.a -ℤ (point_of_quadrant q i o).a ≡ net_a ms *ℤ pos c.step_a) × (last.b -ℤ (point_of_quadrant q i o).b ≡ net_b ms *ℤ pos c.step_b)
  pub bound : n ≤ budget beyond left i o

-- the walk is where the sweep begins
pub record PassesFrom (w : ArcWalk) (p : QuadrantSweep) : Type 0 where
  pub square : p.square ≡ w.circle.square
  pub inner : p.inner ≡ w.inner
  pub outer : p.outer ≡ w.outer
  pub inner_step : p.inner_step ≡ w.inner_step
  pub outer_step : p.outer_step ≡ w.outer_step

-- the arc stops at no point of the quadrant, down to this coordinate and out to that one
abbrev pub NeverStopsUntil : PlanePoint → ℕ → ArcWalk → ℕ → ℕ → Type 0
NeverStopsUntil e left w x y = (i o : ℕ) → x ≤ i → i ≤ w.inner → w.outer ≤ o → o ≤ y → stops e left (point_of_quadrant w.quadrant i o) ≡ false

-- nor anywhere later in the quadrant
abbrev pub NeverStops : PlanePoint → ArcWalk → Type 0
NeverStops e w = (i o : ℕ) → 0 < i → i ≤ w.inner → w.outer ≤ o → stops e 1 (point_of_quadrant w.quadrant i o) ≡ false

-- an end in coordinates of the quadrant
abbrev pub IsAhead : Quadrant → PlanePoint → QuadrantEnd → Type 0
IsAhead q e ahead = turned q e ≡ (let there : PlanePoint = record { a = pos ahead.inner; b = pos ahead.outer } in there)

-- the first point of the quadrant at which the arc stops
pub record StopsAt (e : PlanePoint) (w : ArcWalk) (p : QuadrantSweep) (way : SweepSteps) : Type 0 where
  pub ahead : QuadrantEnd
  pub is_ahead : IsAhead w.quadrant e ahead
  pub first : IsFirstPast p ahead way
