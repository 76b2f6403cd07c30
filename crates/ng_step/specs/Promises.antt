-- What holds of every segment's items (own).
use Rattle.std.specs.Prelude.{◌≡◌, ℕ, ◌+◌, ◌*◌, ◌<◌, ◌≤◌, max, take, ℤ, pos, negsuc, ◌+ℤ◌, ◌-ℤ◌, ◌*ℤ◌, unsigned_abs}
use Rattle.std.specs.Prelude.{true, false, List, [], ◌∷◌, All, length, slice_get, Some}
use Rattle.ng_num.specs.declared.point.Point.{Point}
use Rattle.ng_canon.specs.Geometry.{is_inside}
use Rattle.ng_canon.specs.declared.geometry.Geometry.{Geometry}
use Rattle.ng_canon.specs.declared.segment.Arc.{Arc}
use Rattle.ng_canon.specs.declared.segment.Segment.{Segment}
use Rattle.ng_canon.specs.declared.segment.Segment.TheVariants.{Line as LineSegment, Arc as ArcSegment, Dwell as DwellSegment, Switch as SwitchSegment}
use Rattle.ng_canon.specs.declared.item.AxisStep.{AxisStep}
use Rattle.ng_canon.specs.declared.item.AxisStep.TheVariants.{Backward, Still, Forward}
use Rattle.ng_canon.specs.declared.item.Item.{Item}
use Rattle.ng_canon.specs.declared.item.Item.TheVariants.{Pulse as PulseItem, Dwell as DwellItem, Switch as SwitchItem}
use Rattle.ng_step.specs.declared.steps.Distances.{Distances}
use Rattle.ng_step.specs.declared.centred.CentredArc.{CentredArc}
use Rattle.ng_canon.specs.declared.plane_point.PlanePoint.{PlanePoint}
use Rattle.ng_canon.specs.Plane.{pick_a, pick_b}
use Rattle.ng_step.specs.Frame.{of_third}
use Rattle.ng_step.specs.Arcs.{IsArc, IsNearCircle, IsAtMostInSize, spots, excess, larger, quadrants_to_walk, most_steps}
use Rattle.ng_step.specs.Line.{in_steps, made, point_on_line, largest, IsByHalfIn}
use Rattle.ng_step.specs.Hands.{hand, distances, from_centre, step_a, step_b, across, centred, is_small, arc_path}

-- a machine point in whole steps
abbrev pub point_in_steps : Geometry → Point → Distances
point_in_steps g p = record { x = in_steps p.x g.x.step_nm; y = in_steps p.y g.y.step_nm; z = in_steps p.z g.z.step_nm }

-- the machine's position after pulse k of n on a line, in steps
abbrev pub on_line : ℕ → Distances → Distances → ℕ → Distances
on_line n p q k = record { x = point_on_line n p.x q.x k; y = point_on_line n p.y q.y k; z = point_on_line n p.z q.z k }

-- what a step adds to a coordinate, in steps
abbrev pub step_value : AxisStep → ℤ
step_value Backward = negsuc 0
step_value Still = pos 0
step_value Forward = pos 1

-- the machine's position after an item
abbrev pub moved_by : Item → Distances → Distances
moved_by (PulseItem p) at = record { x = at.x +ℤ step_value p.x; y = at.y +ℤ step_value p.y; z = at.z +ℤ step_value p.z }
moved_by (DwellItem us) at = at
moved_by (SwitchItem outputs) at = at

-- the machine's position after all items
abbrev pub stands_after : List Item → Distances → Distances
stands_after [] at = at
stands_after (i ∷ is) at = stands_after is (moved_by i at)

-- the positions on the way, both ends included
abbrev pub stands_at : List Item → Distances → List Distances
stands_at [] at = at ∷ []
stands_at (i ∷ is) at = at ∷ stands_at is (moved_by i at)

-- the items lead from the rounded start to the rounded end
abbrev pub LeadsTo : Geometry → List Item → Point → Point → Type 0
LeadsTo g items start end = stands_after items (point_in_steps g start) ≡ point_in_steps g end

abbrev pub EndsOnItsEnd : Segment → Geometry → Type 0
EndsOnItsEnd (LineSegment l) g = LeadsTo g (hand (LineSegment l) g) l.start l.end
EndsOnItsEnd (ArcSegment arc) g = LeadsTo g (hand (ArcSegment arc) g) arc.start arc.end
EndsOnItsEnd (DwellSegment time) g = Unit {0}
EndsOnItsEnd (SwitchSegment outputs) g = Unit {0}

-- after pulse k each axis has made the steps of the closed formula
abbrev pub FollowsLine : Geometry → List Item → Point → Point → Type 0
FollowsLine g items p q = (k : ℕ) → 0 < largest (distances g p q) → k ≤ largest (distances g p q)
    → stands_after (take k items) (point_in_steps g p) ≡ on_line (largest (distances g p q)) (point_in_steps g p) (point_in_steps g q) k

-- lines do so, and small arcs
abbrev pub FollowsItsLine : Segment → Geometry → Type 0
FollowsItsLine (LineSegment l) g = FollowsLine g (hand (LineSegment l) g) l.start l.end
FollowsItsLine (ArcSegment arc) g = is_small (centred g arc).circle ≡ true → FollowsLine g (hand (ArcSegment arc) g) arc.start arc.end
FollowsItsLine (DwellSegment time) g = Unit {0}
FollowsItsLine (SwitchSegment outputs) g = Unit {0}

-- a point is within the travel, extended by half a step at each end
pub record IsInsideByHalf (g : Geometry) (at : Distances) : Type 0 where
  pub x : IsByHalfIn g.x.low g.x.high g.x.step_nm at.x
  pub y : IsByHalfIn g.y.low g.y.high g.y.step_nm at.y
  pub z : IsByHalfIn g.z.low g.z.high g.z.step_nm at.z

-- between points of the travel, the machine leaves it by at most half a step
abbrev pub StaysInTravel : Geometry → List Item → Point → Point → Type 0
StaysInTravel g items p q = is_inside g p ≡ true → is_inside g q ≡ true → All (IsInsideByHalf g) (stands_at items (point_in_steps g p))

-- on a line, and on a small arc
abbrev pub StaysInside : Segment → Geometry → Type 0
StaysInside (LineSegment l) g = StaysInTravel g (hand (LineSegment l) g) l.start l.end
StaysInside (ArcSegment arc) g = is_small (centred g arc).circle ≡ true → StaysInTravel g (hand (ArcSegment arc) g) arc.start arc.end
StaysInside (DwellSegment time) g = Unit {0}
StaysInside (SwitchSegment outputs) g = Unit {0}

-- the steps in the plane follow the rule up to the first point at which it stops, stay near the circle, and come to an
-- end
pub record IsTrueArc (c : CentredArc) : Type 0 where
  pub rule : IsArc c.circle c.end (quadrants_to_walk c.start c.end c.from) c.from (arc_path c)
  pub near : IsNearCircle c.circle c.from (arc_path c)
  pub few : length (arc_path c) ≤ most_steps (unsigned_abs c.start.a + unsigned_abs c.start.b) c.circle (quadrants_to_walk c.start c.end c.from) c.from

-- an arc that isn't small is a true arc
abbrev pub KeepsToItsCircle : Segment → Geometry → Type 0
KeepsToItsCircle (LineSegment l) g = Unit {0}
KeepsToItsCircle (ArcSegment arc) g = is_small (centred g arc).circle ≡ false → IsTrueArc (centred g arc)
KeepsToItsCircle (DwellSegment time) g = Unit {0}
KeepsToItsCircle (SwitchSegment outputs) g = Unit {0}

-- ---- the machine's position on an arc

-- a machine point in steps, as an offset from the arc's centre in nanometres
abbrev pub offset_of : Geometry → Arc → Distances → PlanePoint
offset_of g arc at = from_centre arc (pick_a arc.plane at.x at.y at.z *ℤ pos (step_a g arc.plane)) (pick_b arc.plane at.x at.y at.z *ℤ pos (step_b g arc.plane))

-- the machine's position after the first k items
abbrev pub position_after : Geometry → Arc → List Item → ℕ → Distances
position_after g arc items k = stands_after (take k items) (point_in_steps g arc.start)

-- the number of pulses before the closing line: the larger of the numbers of steps of the arc and of the third axis
abbrev pub round_total : Geometry → Arc → ℕ
round_total g arc = max (length (arc_path (centred g arc))) (unsigned_abs (across (centred g arc).frame (distances g arc.start arc.end)))

-- the steps between two points
abbrev pub steps_between : Distances → Distances → Distances
steps_between p q = record { x = q.x -ℤ p.x; y = q.y -ℤ p.y; z = q.z -ℤ p.z }

-- the pulses of the closing line
abbrev pub closing_total : Geometry → Arc → List Item → ℕ
closing_total g arc items = largest (steps_between (position_after g arc items (round_total g arc)) (point_in_steps g arc.end))

-- The machine follows the arc's path, and then a line from its end to the rounded end.
pub record FollowsPath (g : Geometry) (arc : Arc) (items : List Item) : Type 0 where
  -- after pulse k the machine is at the point of the path that the arc steps made so far lead to
  pub path : (k : ℕ) → 0 < round_total g arc → k ≤ round_total g arc
      → slice_get (spots (centred g arc).circle (centred g arc).from (arc_path (centred g arc)))
      (made (round_total g arc) (length (arc_path (centred g arc))) k)
      ≡ Some (offset_of g arc (position_after g arc items k))
  -- and the third axis is where a line's formula says
  pub third : (k : ℕ) → 0 < round_total g arc → k ≤ round_total g arc
      → of_third arc.plane (position_after g arc items k).x (position_after g arc items k).y (position_after g arc items k).z
      ≡ point_on_line (round_total g arc) (of_third arc.plane (point_in_steps g arc.start).x (point_in_steps g arc.start).y (point_in_steps g arc.start).z)
      (of_third arc.plane (point_in_steps g arc.end).x (point_in_steps g arc.end).y (point_in_steps g arc.end).z) k
  -- each position up to there is near the circle, given the largest coordinate w among them
  pub near : (w : ℕ) → ((k : ℕ) → k ≤ round_total g arc → IsAtMostInSize w (offset_of g arc (position_after g arc items k))) → (k : ℕ) → k ≤ round_total g arc
      → unsigned_abs (excess (centred g arc).circle (offset_of g arc (position_after g arc items k)))
      ≤ 2 * (larger (centred g arc).circle * w) + larger (centred g arc).circle * larger (centred g arc).circle +
      unsigned_abs (excess (centred g arc).circle (centred g arc).from)
  -- then the machine follows the closing line
  pub closing : (k : ℕ) → 0 < closing_total g arc items → k ≤ closing_total g arc items
      → position_after g arc items (round_total g arc + k) ≡ on_line (closing_total g arc items)
      (position_after g arc items (round_total g arc)) (point_in_steps g arc.end) k

-- an arc that isn't small follows its path
abbrev pub FollowsItsPath : Segment → Geometry → Type 0
FollowsItsPath (LineSegment l) g = Unit {0}
FollowsItsPath (ArcSegment arc) g = is_small (centred g arc).circle ≡ false → FollowsPath g arc (hand (ArcSegment arc) g)
FollowsItsPath (DwellSegment time) g = Unit {0}
FollowsItsPath (SwitchSegment outputs) g = Unit {0}
