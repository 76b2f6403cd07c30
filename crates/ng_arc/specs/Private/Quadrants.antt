-- The quadrants that an arc enters, counterclockwise (own).
use Rattle.std.specs.Prelude.{ℕ, ◌+◌, ◌-◌, ◌%◌, nat_lt, ◌==◌, pos, negsuc, Bool, if◌then◌else◌}
use Rattle.ng_canon.specs.declared.plane_point.PlanePoint.{PlanePoint}
use Rattle.ng_canon.specs.declared.quadrant.Quadrant.{Quadrant}
use Rattle.ng_canon.specs.declared.quadrant.Quadrant.TheVariants.{First, Second, Third, Fourth}
use Rattle.ng_arc.specs.declared.span.ArcSpan.{ArcSpan}
use Rattle.ng_canon.specs.Plane.{cross, dot}
use Rattle.ng_canon.specs.Quadrant.{quadrant_number, mirror_quadrant, quadrant_changes}
use Rattle.ng_arc.specs.Extremes.{sweep_by}

-- the direction at which a quadrant begins
abbrev pub direction : Quadrant → PlanePoint
direction First = record { a = pos 1; b = pos 0 }
direction Second = record { a = pos 0; b = pos 1 }
direction Third = record { a = negsuc 0; b = pos 0 }
direction Fourth = record { a = pos 0; b = negsuc 0 }

-- how often an arc enters another quadrant; if the end is in the same direction from the centre as the start, it is a
-- full turn
unfoldable pub changes : PlanePoint → PlanePoint → ℕ
changes s e =
    if sweep_by (cross s e) (dot s e) == 4 then 4
    else quadrant_changes s e

-- the arc enters a quadrant
abbrev pub is_entered : ℕ → ℕ → ℕ → Bool
is_entered from changes to = nat_lt ((to + 7 - from) % 4) changes

unfoldable pub passes_toward : ArcSpan → Quadrant → Bool
passes_toward p q = is_entered (quadrant_number p.from) p.changes (quadrant_number (mirror_quadrant p.turn q))
