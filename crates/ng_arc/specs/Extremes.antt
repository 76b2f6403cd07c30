-- Which extremes of its circle an arc passes, and whether they are inside the travel (own). An extreme is a point of
-- the circle that is farthest along an axis of the plane. How far an arc turns is found from products of the offsets
-- from its centre.
use Rattle.std.specs.Prelude.{ℕ, ◌*◌, nat_le, nat_lt, ◌==◌, ℤ, pos, negsuc, ◌-ℤ◌, int_lt, int_le, unsigned_abs, Bool, not, ◌&&◌, ◌||◌, if◌then◌else◌}
use Rattle.ng_canon.specs.declared.geometry.Axis.{Axis}
use Rattle.ng_canon.specs.declared.geometry.Geometry.{Geometry}
use Rattle.ng_canon.specs.declared.plane.ArcDirection.{ArcDirection}
use Rattle.ng_canon.specs.declared.plane.ArcDirection.TheVariants.{Clockwise, Counterclockwise}
use Rattle.ng_canon.specs.declared.segment.Arc.{Arc}
use Rattle.ng_canon.specs.declared.plane_point.PlanePoint.{PlanePoint}
use Rattle.ng_canon.specs.Plane.{pick_a, pick_b, from_centre, square_of, cross, dot}

-- above 0 if the turn from p to q is less than half a turn, below 0 if it is more, 0 for half a turn and a whole one
abbrev pub lead : ArcDirection → PlanePoint → PlanePoint → ℤ
lead Counterclockwise p q = cross p q
lead Clockwise p q = cross q p

-- the size of the turn: 1 less than half a turn, 2 half a turn, 3 more than half a turn, 4 a whole turn
abbrev pub sweep_by : ℤ → ℤ → ℕ
sweep_by lead dot = if int_lt (pos 0) lead then 1 else if int_lt lead (pos 0) then 3 else if int_lt dot (pos 0) then 2 else 4

abbrev pub sweep : ArcDirection → PlanePoint → PlanePoint → ℕ
sweep turn p q = sweep_by (lead turn p q) (dot p q)

-- of two turns from one point the second is no larger than the first: the first is a whole turn, or has the larger
-- sweep, or has the same sweep and its end is at or after the end of the second
abbrev pub is_sweep_within : ℕ → ℕ → ℤ → Bool
is_sweep_within whole part rest = (whole == 4) || (nat_lt part whole || ((part == whole) && int_le (pos 0) rest))

-- an arc from s to e passes the direction d: it reaches d after s and no later than e
unfoldable pub is_passed : ArcDirection → PlanePoint → PlanePoint → PlanePoint → Bool
is_passed turn s e d = is_sweep_within (sweep turn s e) (sweep turn s d) (lead turn d e)

-- a circle reaches no farther from its centre than this: its radius, whose square is given, is no longer
abbrev pub is_within : ℕ → ℤ → Bool
is_within square reach = int_le (pos 0) reach && nat_le square (unsigned_abs reach * unsigned_abs reach)

-- the extreme in a direction isn't passed, or is inside the travel, which reaches this far from the centre
abbrev pub is_inside : Arc → PlanePoint → ℤ → Bool
is_inside arc d reach = not (is_passed arc.turn (from_centre arc arc.start) (from_centre arc arc.end) d) || is_within (square_of
    (from_centre arc arc.start)) reach

abbrev pub axis_a : Arc → Geometry → Axis
axis_a arc g = pick_a arc.plane g.x g.y g.z

abbrev pub axis_b : Arc → Geometry → Axis
axis_b arc g = pick_b arc.plane g.x g.y g.z

-- no extreme that the arc passes is outside the travel
abbrev pub extremes_inside : Arc → Geometry → Bool
extremes_inside arc g =
    is_inside arc (record { a = pos 1; b = pos 0 }) ((axis_a arc g).high -ℤ arc.centre_a)
    && is_inside arc (record { a = pos 0; b = pos 1 }) ((axis_b arc g).high -ℤ arc.centre_b)
    && is_inside arc (record { a = negsuc 0; b = pos 0 }) (arc.centre_a -ℤ (axis_a arc g).low)
    && is_inside arc (record { a = pos 0; b = negsuc 0 }) (arc.centre_b -ℤ (axis_b arc g).low)
