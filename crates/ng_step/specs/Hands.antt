-- The items of a segment (own), from the first to the last.
use Rattle.std.specs.Prelude.{ℕ, ◌+◌, ◌*◌, max, nat_lt, Bool, if◌then◌else◌, ℤ, pos, negsuc, ◌-ℤ◌, ◌*ℤ◌, unsigned_abs, List, [], ◌∷◌, ◌++◌, length, map}
use Rattle.ng_num.specs.declared.point.Point.{Point}
use Rattle.ng_canon.specs.declared.geometry.Geometry.{Geometry}
use Rattle.ng_canon.specs.declared.pace.Pace.{Pace}
use Rattle.ng_canon.specs.declared.plane.Plane.{Plane}
use Rattle.ng_canon.specs.declared.segment.Arc.{Arc}
use Rattle.ng_canon.specs.declared.segment.Segment.{Segment}
use Rattle.ng_canon.specs.declared.segment.Segment.TheVariants.{Line as LineSegment, Arc as ArcSegment, Dwell as DwellSegment, Switch as SwitchSegment}
use Rattle.ng_canon.specs.declared.item.Item.{Item}
use Rattle.ng_canon.specs.declared.item.Item.TheVariants.{Pulse as PulseItem, Dwell as DwellItem, Switch as SwitchItem}
use Rattle.ng_step.specs.declared.circle.Circle.{Circle}
use Rattle.ng_canon.specs.declared.plane_point.PlanePoint.{PlanePoint}
use Rattle.ng_step.specs.declared.quadrant.PlaneStep.{PlaneStep}
use Rattle.ng_step.specs.declared.frame.Frame.{Frame}
use Rattle.ng_step.specs.declared.steps.AxisSteps.{AxisSteps}
use Rattle.ng_step.specs.declared.steps.Distances.{Distances}
use Rattle.ng_step.specs.declared.centred.CentredArc.{CentredArc}
use Rattle.ng_canon.specs.Plane.{pick_a, pick_b}
use Rattle.ng_step.specs.Frame.{of_third, at_x, at_y, at_z, mirrored}
use Rattle.ng_step.specs.Arcs.{larger, plane_steps, quadrants_to_walk, net_a, net_b}
use Rattle.ng_step.specs.Line.{in_steps, largest, line_pulses}
use Rattle.ng_step.specs.Arc.{arc_pulses}
use Rattle.ng_step.specs.Periods.{root_up, pulse_us}

-- a pulse with a period
abbrev pub pulse_item : ℕ → AxisSteps → Item
pulse_item us p = PulseItem (record { x = p.x; y = p.y; z = p.z; period_us = us })

-- the steps of each axis from one machine point to another, each point rounded to whole steps
abbrev pub distances : Geometry → Point → Point → Distances
distances g p q = record {
  x = in_steps q.x g.x.step_nm -ℤ in_steps p.x g.x.step_nm;
  y = in_steps q.y g.y.step_nm -ℤ in_steps p.y g.y.step_nm;
  z = in_steps q.z g.z.step_nm -ℤ in_steps p.z g.z.step_nm;
}

-- ---- a line

-- the square of the distance between two points, in nanometres
abbrev pub square_between : Point → Point → ℕ
square_between p q =
    unsigned_abs (q.x -ℤ p.x) * unsigned_abs (q.x -ℤ p.x) + unsigned_abs (q.y -ℤ p.y) * unsigned_abs (q.y -ℤ p.y) +
    unsigned_abs (q.z -ℤ p.z) * unsigned_abs (q.z -ℤ p.z)

unfoldable pub line_items : Geometry → Pace → Point → Point → List Item
line_items g pace p q =
    map (pulse_item (pulse_us g pace (root_up (square_between p q)) (largest (distances g p q)))) (line_pulses (distances g p q))

-- ---- an arc

-- a point of the arc's plane as an offset from its centre
abbrev pub from_centre : Arc → ℤ → ℤ → PlanePoint
from_centre arc a b = record { a = a -ℤ arc.centre_a; b = mirrored arc.turn (b -ℤ arc.centre_b) }

abbrev pub programmed : Arc → Point → PlanePoint
programmed arc p = from_centre arc (pick_a arc.plane p.x p.y p.z) (pick_b arc.plane p.x p.y p.z)

-- a coordinate rounded to whole steps, in nanometres
abbrev pub rounded : ℤ → ℕ → ℤ
rounded z s = in_steps z s *ℤ pos s

abbrev pub step_a : Geometry → Plane → ℕ
step_a g plane = pick_a plane g.x.step_nm g.y.step_nm g.z.step_nm

abbrev pub step_b : Geometry → Plane → ℕ
step_b g plane = pick_b plane g.x.step_nm g.y.step_nm g.z.step_nm

abbrev pub rounded_start : Arc → ℕ → ℕ → PlanePoint
rounded_start arc step_a step_b =
    from_centre arc (rounded (pick_a arc.plane arc.start.x arc.start.y arc.start.z) step_a)
    (rounded (pick_b arc.plane arc.start.x arc.start.y arc.start.z) step_b)

abbrev pub circle : Geometry → Plane → PlanePoint → Circle
circle g plane s = record {
  step_a = step_a g plane;
  step_b = step_b g plane;
  square = unsigned_abs s.a * unsigned_abs s.a + unsigned_abs s.b * unsigned_abs s.b;
}

-- an arc relative to its centre
unfoldable pub centred : Geometry → Arc → CentredArc
centred g arc = record {
  frame = record { plane = arc.plane; turn = arc.turn };
  circle = circle g arc.plane (programmed arc arc.start);
  start = programmed arc arc.start;
  end = programmed arc arc.end;
  from = rounded_start arc (step_a g arc.plane) (step_b g arc.plane);
}

-- the radius is below twice the larger step: the arc is a line
abbrev pub is_small : Circle → Bool
is_small c = nat_lt c.square (4 * (larger c * larger c))

-- its steps in its plane
unfoldable pub arc_path : CentredArc → List PlaneStep
arc_path c = plane_steps c.circle c.start c.end (quadrants_to_walk c.start c.end c.from) c.from

-- the steps of the third axis
abbrev pub across : Frame → Distances → ℤ
across frame d = of_third frame.plane d.x d.y d.z

-- what is left of the distances after the steps of the arc and of the third axis
abbrev pub closing_after : Frame → Distances → ℤ → ℤ → Distances
closing_after frame d net_a net_b =
    let a = pick_a frame.plane d.x d.y d.z -ℤ net_a in
    let b = pick_b frame.plane d.x d.y d.z -ℤ mirrored frame.turn net_b in
    record { x = at_x frame.plane a b (pos 0); y = at_y frame.plane a b (pos 0); z = at_z frame.plane a b (pos 0) }

abbrev pub closing : Frame → Distances → List PlaneStep → Distances
closing frame d ms = closing_after frame d (net_a ms) (net_b ms)

-- the pulses of an arc, including those of its closing line
abbrev pub arc_total : Frame → Distances → List PlaneStep → ℕ
arc_total frame d ms = max (length ms) (unsigned_abs (across frame d)) + largest (closing frame d ms)

-- the items for these steps in the plane: the arc's pulses with the third axis, then a line to the rounded end
abbrev pub items_over : Geometry → Pace → Frame → ℕ → Distances → List PlaneStep → List Item
items_over g pace frame step d ms =
    map (pulse_item (pulse_us g pace (arc_total frame d ms * step) (arc_total frame d ms)))
    (arc_pulses frame ms (across frame d) ++ line_pulses (closing frame d ms))

unfoldable pub large_arc_items : Geometry → Pace → CentredArc → Distances → List Item
large_arc_items g pace c d = items_over g pace c.frame (larger c.circle) d (arc_path c)

unfoldable pub arc_items : Geometry → Arc → List Item
arc_items g arc =
    if is_small (centred g arc).circle then line_items g arc.pace arc.start arc.end
    else large_arc_items g arc.pace (centred g arc) (distances g arc.start arc.end)

-- ---- a segment

-- the microseconds of a time in millionths of a second; 0 for a negative time, which no block has
abbrev pub dwell_us : ℤ → ℕ
dwell_us (pos n) = n
dwell_us (negsuc n) = 0

abbrev pub hand : Segment → Geometry → List Item
hand (LineSegment l) g = line_items g l.pace l.start l.end
hand (ArcSegment arc) g = arc_items g arc
hand (DwellSegment time) g = DwellItem (dwell_us time) ∷ []
hand (SwitchSegment outputs) g = SwitchItem outputs ∷ []
