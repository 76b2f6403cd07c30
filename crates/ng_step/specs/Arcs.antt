-- The points of an arc, as offsets from its centre in nanometres (own).
use Rattle.std.specs.Prelude.{◌≡◌, ℕ, zero, suc, ◌+◌, ◌-◌, ◌*◌, ◌%◌, ◌<◌, ◌≤◌, max, ℤ, pos, negsuc, ◌+ℤ◌, ◌-ℤ◌}
use Rattle.std.specs.Prelude.{◌*ℤ◌, int_lt, int_le, unsigned_abs, Bool, true, false, ◌&&◌, ◌||◌, ◌==◌}
use Rattle.std.specs.Prelude.{if◌then◌else◌, IsTrue, List, [], ◌∷◌, All}
use Rattle.ng_canon.specs.Plane.{cross}
use Rattle.ng_canon.specs.Quadrant.{quadrant, same_quadrant, quadrant_after, quadrant_changes}
use Rattle.ng_canon.specs.declared.quadrant.Quadrant.{Quadrant}
use Rattle.ng_canon.specs.declared.quadrant.Quadrant.TheVariants.{First, Second, Third, Fourth}
use Rattle.ng_step.specs.declared.circle.Circle.{Circle}
use Rattle.ng_canon.specs.declared.plane_point.PlanePoint.{PlanePoint}
use Rattle.ng_step.specs.declared.quadrant.PlaneStep.{PlaneStep}
use Rattle.ng_step.specs.declared.quadrant.PlaneStep.TheVariants.{AddA, SubA, AddB, SubB}

-- the larger step
abbrev pub larger : Circle → ℕ
larger c = max c.step_a c.step_b

abbrev pub inward : Quadrant → PlaneStep
inward First = SubA
inward Second = SubB
inward Third = AddA
inward Fourth = AddB

abbrev pub outward : Quadrant → PlaneStep
outward First = AddB
outward Second = SubA
outward Third = SubB
outward Fourth = AddA

-- how far a point is outside the circle, in squares
unfoldable pub excess : Circle → PlanePoint → ℤ
excess c p = p.a *ℤ p.a +ℤ p.b *ℤ p.b -ℤ pos c.square

-- the step from a point
unfoldable pub step_at : Circle → PlanePoint → PlaneStep
step_at c p = if int_lt (pos 0) (excess c p) then inward (quadrant p) else outward (quadrant p)

abbrev pub moved : Circle → PlaneStep → PlanePoint → PlanePoint
moved c AddA p = record { a = p.a +ℤ pos c.step_a; b = p.b }
moved c SubA p = record { a = p.a -ℤ pos c.step_a; b = p.b }
moved c AddB p = record { a = p.a; b = p.b +ℤ pos c.step_b }
moved c SubB p = record { a = p.a; b = p.b -ℤ pos c.step_b }

-- the point after this one
unfoldable pub next_spot : Circle → PlanePoint → PlanePoint
next_spot c p = moved c (step_at c p) p

-- the number of quadrants still to be walked in, including the current one, after a step from p
unfoldable pub left_after : Circle → ℕ → PlanePoint → ℕ
left_after c left p = if same_quadrant (quadrant p) (quadrant (next_spot c p)) then left else left - 1

-- the stopping rule: after the last quadrant, or in it and not before the end
unfoldable pub stops : PlanePoint → ℕ → PlanePoint → Bool
stops e left p = left == 0 || (left == 1 && int_le (cross p e) (pos 0))

-- the number of quadrants to walk in from p, which the start s is rounded to: one more than the changes from there; 0
-- if that would be negative
unfoldable pub quadrants_to_walk : PlanePoint → PlanePoint → PlanePoint → ℕ
quadrants_to_walk s e p =
    if same_quadrant (quadrant_after (quadrant p)) (quadrant s) then quadrant_changes s e + 2
    else if same_quadrant (quadrant p) (quadrant_after (quadrant s)) then quadrant_changes s e
    else quadrant_changes s e + 1

-- these are the arc's steps from p: each follows the rule, and the first point that stops is the end
abbrev pub IsArc : Circle → PlanePoint → ℕ → PlanePoint → List PlaneStep → Type 0
IsArc c e left p [] = IsTrue (stops e left p)
IsArc c e left p (m ∷ ms) = (stops e left p ≡ false) × (m ≡ step_at c p) × IsArc c e (left_after c left p) (next_spot c p) ms

-- the arc's steps, at most `fuel` of them
abbrev pub plane_steps_within : ℕ → Circle → PlanePoint → ℕ → PlanePoint → List PlaneStep
plane_steps_within zero c e left p = []
plane_steps_within (suc fuel) c e left p = if stops e left p then [] else (step_at c p ∷ plane_steps_within fuel c e (left_after c left p) (next_spot c p))

-- the points that the steps reach, the first one included
abbrev pub spots : Circle → PlanePoint → List PlaneStep → List PlanePoint
spots c p [] = p ∷ []
spots c p (m ∷ ms) = p ∷ spots c (moved c m p) ms

-- both coordinates are at most w in absolute value
abbrev pub IsAtMostInSize : ℕ → PlanePoint → Type 0
IsAtMostInSize w p = (unsigned_abs p.a ≤ w) × (unsigned_abs p.b ≤ w)

-- steps of the arc from p leave the circle by no more than this
abbrev pub IsNearCircle : Circle → PlanePoint → List PlaneStep → Type 0
IsNearCircle c p ms = (w : ℕ) → All (IsAtMostInSize w) (spots c p ms)
    → All (λ x. unsigned_abs (excess c x) ≤ 2 * (larger c * w) + larger c * larger c + unsigned_abs (excess c p)) (spots c p ms)

-- each axis has a step
pub record HasSteps (c : Circle) : Type 0 where
  pub a : 0 < c.step_a
  pub b : 0 < c.step_b

-- the radius is at least twice the larger step, and at most this
pub record IsLargeArc (c : Circle) (radius : ℕ) : Type 0 where
  pub has : HasSteps c
  pub large : 4 * (larger c * larger c) ≤ c.square
  pub within : c.square ≤ radius * radius

-- no coordinate of the arc's points exceeds this, for a start of that size
abbrev pub reach : ℕ → Circle → PlanePoint → ℕ
reach radius c p = radius + larger c + unsigned_abs p.a + unsigned_abs p.b

-- more steps than the arc has
abbrev pub most_steps : ℕ → Circle → ℕ → PlanePoint → ℕ
most_steps radius c left p = left * (2 * reach radius c p + 1) + 2 * reach radius c p

-- the arc's steps: `start` and `e` are its programmed start and end, p is the rounded start
unfoldable pub plane_steps : Circle → PlanePoint → PlanePoint → ℕ → PlanePoint → List PlaneStep
plane_steps c start e left p = plane_steps_within (most_steps (unsigned_abs start.a + unsigned_abs start.b) c left p) c e left p

-- how far a step goes along axis a, in steps
abbrev pub along_a : PlaneStep → ℤ
along_a AddA = pos 1
along_a SubA = negsuc 0
along_a AddB = pos 0
along_a SubB = pos 0

abbrev pub along_b : PlaneStep → ℤ
along_b AddA = pos 0
along_b SubA = pos 0
along_b AddB = pos 1
along_b SubB = negsuc 0

-- how far all of them go along axis a
abbrev pub net_a : List PlaneStep → ℤ
net_a [] = pos 0
net_a (m ∷ ms) = along_a m +ℤ net_a ms

abbrev pub net_b : List PlaneStep → ℤ
net_b [] = pos 0
net_b (m ∷ ms) = along_b m +ℤ net_b ms
