-- The axes of an arc's plane, and points of it (NISTIR 6556, 3.5.3, 3.5.6).
use Rattle.std.specs.Prelude.{ℕ, ◌+◌, ◌*◌, ◌<◌, ℤ, ◌+ℤ◌, ◌-ℤ◌, ◌*ℤ◌, neg_ℤ, unsigned_abs}
use Rattle.ng_num.specs.declared.point.Point.{Point}
use Rattle.ng_canon.specs.declared.plane.ArcDirection.{ArcDirection}
use Rattle.ng_canon.specs.declared.plane.ArcDirection.TheVariants.{Clockwise, Counterclockwise}
use Rattle.ng_canon.specs.declared.plane.Plane.{Plane}
use Rattle.ng_canon.specs.declared.plane.Plane.TheVariants.{Xy, Xz, Yz}
use Rattle.ng_canon.specs.declared.plane_point.PlanePoint.{PlanePoint}
use Rattle.ng_canon.specs.declared.segment.Arc.{Arc}

-- of three values for X, Y and Z: the one for the plane's axis a
abbrev pub pick_a : {A : Type 0} → Plane → A → A → A → A
pick_a Xy x y z = x
pick_a Xz x y z = z
pick_a Yz x y z = y

-- the one for its axis b
abbrev pub pick_b : {A : Type 0} → Plane → A → A → A → A
pick_b Xy x y z = y
pick_b Xz x y z = x
pick_b Yz x y z = z

-- a point relative to an arc's centre, in the arc's plane
abbrev pub from_centre : Arc → Point → PlanePoint
from_centre arc p = record {
  a = pick_a arc.plane p.x p.y p.z -ℤ arc.centre_a;
  b = pick_b arc.plane p.x p.y p.z -ℤ arc.centre_b;
}

-- the square of its distance from the centre
abbrev pub square_of : PlanePoint → ℕ
square_of p = unsigned_abs p.a * unsigned_abs p.a + unsigned_abs p.b * unsigned_abs p.b

-- both coordinates are below this in absolute value
pub record AreBelowInSize (p : PlanePoint) (most : ℕ) : Type 0 where
  pub a : unsigned_abs p.a < most
  pub b : unsigned_abs p.b < most

abbrev pub cross : PlanePoint → PlanePoint → ℤ
cross p q = p.a *ℤ q.b -ℤ p.b *ℤ q.a

abbrev pub dot : PlanePoint → PlanePoint → ℤ
dot p q = p.a *ℤ q.a +ℤ p.b *ℤ q.b

-- a clockwise arc is a counterclockwise one with b negated
abbrev pub mirror : ArcDirection → PlanePoint → PlanePoint
mirror Counterclockwise p = p
mirror Clockwise p = record { a = p.a; b = neg_ℤ p.b }
