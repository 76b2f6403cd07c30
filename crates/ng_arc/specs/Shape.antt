-- An arc before it has a pace (NISTIR 6556, 3.5.3).
use Rattle.std.specs.Prelude.{◌-ℤ◌}
use Rattle.ng_num.specs.declared.point.Point.{Point}
use Rattle.ng_canon.specs.declared.pace.Pace.{Pace}
use Rattle.ng_canon.specs.declared.plane_point.PlanePoint.{PlanePoint}
use Rattle.ng_canon.specs.declared.segment.Arc.{Arc}
use Rattle.ng_canon.specs.Plane.{pick_a, pick_b}
use Rattle.ng_arc.specs.declared.shape.ArcShape.{ArcShape}

-- a point relative to the centre, in the plane
abbrev pub from_centre : ArcShape → Point → PlanePoint
from_centre shape p = record {
  a = pick_a shape.plane p.x p.y p.z -ℤ shape.centre_a;
  b = pick_b shape.plane p.x p.y p.z -ℤ shape.centre_b;
}

abbrev pub arc_at : ArcShape → Pace → Arc
arc_at shape pace = record {
  plane = shape.plane;
  turn = shape.turn;
  start = shape.start;
  end = shape.end;
  centre_a = shape.centre_a;
  centre_b = shape.centre_b;
  pace = pace;
}
