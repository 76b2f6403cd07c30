-- How large the numbers of an arc are (own).
use Rattle.std.specs.Prelude.{ℕ, ◌≡◌, ◌+◌, ◌*◌, ◌^◌, ◌<◌, ◌≤◌, ◌-ℤ◌, unsigned_abs}
use Rattle.ng_step.specs.declared.centred.CentredArc.{CentredArc}
use Rattle.ng_canon.specs.Plane.{AreBelowInSize}
use Rattle.ng_step.specs.declared.steps.Distances.{Distances}
use Rattle.ng_step.specs.Arcs.{larger, HasSteps, IsLargeArc}
use Rattle.ng_step.specs.Turned.{beyond}

pub record AreSized (d : Distances) (most : ℕ) : Type 0 where
  pub x : unsigned_abs d.x < most
  pub y : unsigned_abs d.y < most
  pub z : unsigned_abs d.z < most

-- an arc between machine points, on axes within the limits
pub record IsSized (c : CentredArc) : Type 0 where
  pub has : HasSteps c.circle
  pub step : larger c.circle ≤ 1_000_000
  pub square : c.circle.square ≡ unsigned_abs c.start.a * unsigned_abs c.start.a + unsigned_abs c.start.b * unsigned_abs c.start.b
  pub start : AreBelowInSize c.start (2 ^ 45)
  pub end : AreBelowInSize c.end (2 ^ 45)
  pub from_a : 2 * unsigned_abs (c.from.a -ℤ c.start.a) ≤ larger c.circle
  pub from_b : 2 * unsigned_abs (c.from.b -ℤ c.start.b) ≤ larger c.circle

-- an arc that can be walked: not a small one
pub record IsWalkable (c : CentredArc) : Type 0 where
  pub arc : IsLargeArc c.circle (unsigned_abs c.start.a + unsigned_abs c.start.b)
  pub start : AreBelowInSize c.start (2 ^ 45)
  pub step : larger c.circle ≤ 1_000_000
  pub end : AreBelowInSize c.end (2 ^ 45)
  pub some : 0 < unsigned_abs c.from.a + unsigned_abs c.from.b
  pub from_a : unsigned_abs c.from.a ≤ beyond
  pub from_b : unsigned_abs c.from.b ≤ beyond
