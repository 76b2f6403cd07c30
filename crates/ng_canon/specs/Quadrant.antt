-- The quadrants around a centre (own), counterclockwise.
use Rattle.std.specs.Prelude.{ℕ, ◌+◌, ◌-◌, ◌%◌, pos, int_lt, int_le, Bool, true, false, ◌&&◌, if◌then◌else◌}
use Rattle.ng_canon.specs.declared.plane.ArcDirection.{ArcDirection}
use Rattle.ng_canon.specs.declared.plane.ArcDirection.TheVariants.{Clockwise, Counterclockwise}
use Rattle.ng_canon.specs.declared.plane_point.PlanePoint.{PlanePoint}
use Rattle.ng_canon.specs.declared.quadrant.Quadrant.{Quadrant}
use Rattle.ng_canon.specs.declared.quadrant.Quadrant.TheVariants.{First, Second, Third, Fourth}
use Rattle.ng_canon.specs.Plane.{cross}

-- the first quadrant has a > 0 and b >= 0, the second a <= 0 and b > 0, and so on
unfoldable pub quadrant : PlanePoint → Quadrant
quadrant p =
    if int_lt (pos 0) p.a && int_le (pos 0) p.b then First
    else if int_le p.a (pos 0) && int_lt (pos 0) p.b then Second
    else if int_lt p.a (pos 0) && int_le p.b (pos 0) then Third
    else Fourth

abbrev pub quadrant_number : Quadrant → ℕ
quadrant_number First = 0
quadrant_number Second = 1
quadrant_number Third = 2
quadrant_number Fourth = 3

-- the next quadrant
abbrev pub quadrant_after : Quadrant → Quadrant
quadrant_after First = Second
quadrant_after Second = Third
quadrant_after Third = Fourth
quadrant_after Fourth = First

abbrev pub same_quadrant : Quadrant → Quadrant → Bool
same_quadrant First First = true
same_quadrant Second Second = true
same_quadrant Third Third = true
same_quadrant Fourth Fourth = true
same_quadrant _ _ = false

-- the quadrant with the same start, seen with b negated if the arc is clockwise
abbrev pub mirror_quadrant : ArcDirection → Quadrant → Quadrant
mirror_quadrant Counterclockwise q = q
mirror_quadrant Clockwise First = First
mirror_quadrant Clockwise Second = Fourth
mirror_quadrant Clockwise Third = Third
mirror_quadrant Clockwise Fourth = Second

-- how often an arc enters another quadrant; if start and end are in the same quadrant: not at all if the end is ahead,
-- else four times
abbrev pub quadrant_changes : PlanePoint → PlanePoint → ℕ
quadrant_changes s e =
    if same_quadrant (quadrant s) (quadrant e) then (if int_lt (pos 0) (cross s e) then 0 else 4)
    else (quadrant_number (quadrant e) + 4 - quadrant_number (quadrant s)) % 4
