-- Which arcs are valid (NISTIR 6556, 3.5.3.2; tolerance and numbers own): the causes of their faults, in the order in
-- which they are checked.
use Rattle.std.specs.Prelude.{ℕ, ℤ, unsigned_abs, nat_le, ◌==◌, Bool, not, ◌&&◌, ◌||◌, List, [], ◌∷◌, Result}
use Rattle.std.specs.Option.{is_some}
use Rattle.ng_num.specs.Range.{greatest}
use Rattle.ng_num.specs.declared.fault.Fault.{Fault}
use Rattle.ng_num.specs.declared.fault.Fault.TheVariants.{OutOfRange, NoEnd, NoCentre, RadiiDiffer, ZeroRadius}
use Rattle.ng_num.specs.declared.unit.Unit.{Unit as LengthUnit}
use Rattle.ng_num.specs.declared.unit.Unit.TheVariants.{Inches, Millimetres}
use Rattle.ng_arc.specs.declared.shape.ArcShape.{ArcShape}
use Rattle.ng_arc.specs.declared.asked.AskedArc.{AskedArc}
use Rattle.ng_canon.specs.Plane.{pick_a, pick_b, square_of}
use Rattle.ng_arc.specs.Shape.{from_centre}
use Rattle.ng_arc.specs.Radii.{are_alike}
use Rattle.ng_arc.specs.Asked.{centre_a, centre_b, shape_of}
use Rattle.ng_num.specs.Causes.{first_fault, unless}

-- a number of nanometres that is a length
abbrev pub is_length : ℤ → Bool
is_length nm = nat_le (unsigned_abs nm) greatest

-- E3: a coordinate of the centre isn't a length
abbrev pub is_centre_beyond : AskedArc → Bool
is_centre_beyond asked = not (is_length (centre_a asked) && is_length (centre_b asked))

-- C1: no end coordinate in the plane
abbrev pub has_no_end : AskedArc → Bool
has_no_end asked = not (pick_a asked.plane asked.named.x asked.named.y asked.named.z || pick_b asked.plane asked.named.x asked.named.y asked.named.z)

-- C2: no centre offset in the plane
abbrev pub has_no_centre : AskedArc → Bool
has_no_centre asked =
    not (is_some (pick_a asked.plane asked.offsets.i asked.offsets.j asked.offsets.k) || is_some
    (pick_b asked.plane asked.offsets.i asked.offsets.j asked.offsets.k))

-- how much the radii may differ, in nanometres: two thousandths of a millimetre, or two ten-thousandths of an inch
abbrev pub tolerance : LengthUnit → ℕ
tolerance Inches = 5_080
tolerance Millimetres = 2_000

-- the squares of the distances of start and end from the centre
abbrev pub start_square : ArcShape → ℕ
start_square shape = square_of (from_centre shape shape.start)

abbrev pub end_square : ArcShape → ℕ
end_square shape = square_of (from_centre shape shape.end)

-- C3: the radii of start and end differ by more than the tolerance
abbrev pub have_radii_differing : LengthUnit → ArcShape → Bool
have_radii_differing unit shape = not (are_alike (start_square shape) (end_square shape) (tolerance unit))

-- C4: the start or the end is the centre
abbrev pub has_zero_radius : ArcShape → Bool
has_zero_radius shape = (start_square shape == 0) || (end_square shape == 0)

abbrev pub arc_causes : AskedArc → ArcShape → List (Bool × Fault)
arc_causes asked shape =
    (has_no_end asked, NoEnd)
    ∷ ((has_no_centre asked, NoCentre)
    ∷ ((have_radii_differing asked.unit shape, RadiiDiffer)
    ∷ ((has_zero_radius shape, ZeroRadius)
    ∷ [])))

abbrev pub causes : AskedArc → List (Bool × Fault)
causes asked = (is_centre_beyond asked, OutOfRange) ∷ arc_causes asked (shape_of asked)

abbrev pub checked : AskedArc → Result ArcShape Fault
checked asked = unless (first_fault (causes asked)) (shape_of asked)
