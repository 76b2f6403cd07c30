-- The extreme coordinates of a cycle: those of its first and its last hole, Z, and the height of the first move in X
-- and Y.
use Rattle.std.specs.Prelude.{Bool, not, ◌&&◌, ◌||◌, ℤ, int_lt}
use Rattle.std.specs.Int.{int_max}
use Rattle.ng_canon.specs.Geometry.{is_on}
use Rattle.ng_canon.specs.declared.geometry.Geometry.{Geometry}
use Rattle.ng_cycles.specs.declared.drill.Drill.{Drill}
use Rattle.ng_cycles.specs.Strokes.{coordinate}

abbrev pub top_of : Drill → ℤ
top_of d = int_max d.start.z d.r

abbrev pub rises_inside : Geometry → Drill → Bool
rises_inside g d = not (int_lt d.start.z d.r) || (is_on g.x d.start.x && is_on g.y d.start.y)

abbrev pub extremes_inside : Geometry → Drill → Bool
extremes_inside g d =
    (is_on g.x (coordinate d.x 1) && is_on g.x (coordinate d.x d.repeats))
    && ((is_on g.y (coordinate d.y 1) && is_on g.y (coordinate d.y d.repeats))
    && (is_on g.z d.z && (is_on g.z (top_of d) && rises_inside g d)))
