-- What holds of every segment's items.
use Rattle.std.proofs.Common.{take, arith, ℕ, zero, suc, ◌+◌, ◌-◌, ◌*◌, ◌<◌, ◌≤◌, ◌≡◌, inl, inr, refl, sym, ap, ◌∙◌}
use Rattle.std.proofs.Common.{subst, ℤ, ◌+ℤ◌, ◌-ℤ◌, Bool, true, false, List, [], map}
use Rattle.std.proofs.lemmas.Int.{ints}
use Rattle.std.proofs.lemmas.Bool.{cases_lt}
use Rattle.std.proofs.lemmas.Bool.Decides.{nat_tests}
use Rattle.std.proofs.lemmas.List.Elements.{All-nil, All-cons}
use Rattle.std.specs.Prelude.{unsigned_abs, int_le, nat_lt, ◌≤ℤ◌, ◌&&◌, All, if◌then◌else◌}
use Rattle.ng_num.specs.declared.point.Point.{Point}
use Rattle.ng_canon.specs.Geometry.{is_on, is_inside}
use Rattle.ng_canon.specs.declared.geometry.Axis.{Axis}
use Rattle.ng_canon.specs.declared.geometry.Geometry.{Geometry}
use Rattle.ng_canon.specs.declared.pace.Pace.{Pace}
use Rattle.ng_canon.specs.declared.plane.Plane.{Plane}
use Rattle.ng_canon.specs.declared.plane.Plane.TheVariants.{Xy, Xz, Yz}
use Rattle.ng_canon.specs.declared.plane.ArcDirection.{ArcDirection}
use Rattle.ng_canon.specs.declared.plane.ArcDirection.TheVariants.{Clockwise, Counterclockwise}
use Rattle.ng_canon.specs.declared.segment.Arc.{Arc}
use Rattle.ng_canon.specs.declared.segment.Segment.{Segment}
use Rattle.ng_canon.specs.declared.segment.Segment.TheVariants.{Line as LineSegment, Arc as ArcSegment, Dwell as DwellSegment, Switch as SwitchSegment}
use Rattle.ng_canon.specs.declared.item.Item.{Item}
use Rattle.ng_step.specs.declared.steps.Distances.{Distances}
use Rattle.ng_step.specs.declared.centred.CentredArc.{CentredArc}
use Rattle.ng_step.specs.Arcs.{larger, HasSteps, IsLargeArc, quadrants_to_walk, plane_steps}
use Rattle.ng_step.specs.Frame.{mirrored}
use Rattle.ng_step.specs.Line.{in_steps, point_on_line, line_from, largest, line_pulses, IsByHalfIn}
use Rattle.ng_step.specs.Hands.{pulse_item, distances, line_items, centred, is_small, arc_path, large_arc_items, arc_items, step_a, step_b}
use Rattle.ng_step.specs.Promises.{stands_after, on_line, FollowsLine, FollowsItsLine, StaysInTravel}
use Rattle.ng_step.specs.Promises.{point_in_steps, stands_at, LeadsTo, EndsOnItsEnd, IsInsideByHalf, StaysInside}
use Rattle.ng_step.specs.Promises.{IsTrueArc, KeepsToItsCircle}
use Rattle.ng_step.proofs.LineStepLemmas.{in_steps_near, line_inside}
use Rattle.ng_step.proofs.RoundLemmas.{rounded_near}
use Rattle.ng_step.proofs.LineLengthLemmas.{limits}
use Rattle.ng_step.proofs.StartLemmas.{start_some}
use Rattle.ng_step.proofs.ArcLemmas.{is_arc, is_near_circle, length-plane_steps_within, larger_some}
use Rattle.ng_step.proofs.HandLemmas.{line_none}
use Rattle.ng_step.proofs.SegmentEndLemmas.{moved, distances_same, line_leads, over_leads, rest_of, line_point, line_moves}
use Rattle.ng_step.proofs.SegmentEndLemmas.{line_point_none, AreAtMost, at_most_largest}

-- ---- the end

pub start_moved : (g : Geometry) (p q : Point) → moved (point_in_steps g p) (distances g p q) ≡ point_in_steps g q
start_moved g p q = distances_same _ _ _ _ _ _ (rest_of _ _) (rest_of _ _) (rest_of _ _)

line_ends : (g : Geometry) (pace : Pace) (p q : Point) → LeadsTo g (line_items g pace p q) p q
unfolding line_items
line_ends g pace p q = line_leads _ (point_in_steps g p) (distances g p q) ∙ start_moved g p q

large_ends : (g : Geometry) (pace : Pace) (c : CentredArc) (p q : Point) → LeadsTo g (large_arc_items g pace c (distances g p q)) p q
unfolding large_arc_items
large_ends g pace c p q = over_leads _ c.frame (distances g p q) (arc_path c) (point_in_steps g p) ∙ start_moved g p q

arc_ends : (g : Geometry) (arc : Arc) → LeadsTo g (arc_items g arc) arc.start arc.end
unfolding arc_items
arc_ends g arc = either (is_small (centred g arc).circle)
  where
    either : (small : Bool)
        → LeadsTo g (if small then line_items g arc.pace arc.start arc.end else large_arc_items g arc.pace
        (centred g arc) (distances g arc.start arc.end)) arc.start arc.end
    either true = line_ends g arc.pace arc.start arc.end
    either false = large_ends g arc.pace (centred g arc) arc.start arc.end

pub ends : (s : Segment) (g : Geometry) → EndsOnItsEnd s g
ends (LineSegment l) g = line_ends g l.pace l.start l.end
ends (ArcSegment arc) g = arc_ends g arc
ends (DwellSegment time) g = tt
ends (SwitchSegment outputs) g = tt

-- ---- the points of a line

first_stands : (us n : ℕ) (p d : Distances) (left j : ℕ) → 0 < n → AreAtMost d n → left ≤ n → j ≤ left
    → stands_after (take j (map (pulse_item us) (line_from n d left))) (line_point n p d (n - left)) ≡ line_point n p d (n - left + j)
first_stands us n p d zero zero some most small le = let e : n - 0 ≡ n - 0 + 0 = omega arith in ap (line_point n p d) e
first_stands us n p d zero (suc j) some most small le = absurd (omega arith)
first_stands us n p d (suc left) zero some most small le = let e : n - suc left ≡ n - suc left + 0 = omega arith in ap (line_point n p d) e
first_stands us n p d (suc left) (suc j) some most small le =
    let e : n - suc left + 1 ≡ n - left = omega arith in
    let e' : n - left + j ≡ n - suc left + suc j = omega arith in
    let step = line_moves us n (n - suc left) p d some most ∙ ap (line_point n p d) e in
    ap (stands_after (take j (map (pulse_item us) (line_from n d left)))) step
    ∙ first_stands us n p d left j some most (omega arith) (omega arith) ∙ ap (line_point n p d) e'

pub line_goes : (us : ℕ) (p d : Distances) (k : ℕ) → 0 < largest d → k ≤ largest d
    → stands_after (take k (map (pulse_item us) (line_pulses d))) p ≡ line_point (largest d) p d k
unfolding line_pulses
line_goes us p d k some le =
    let n = largest d in
    let e : n - n + k ≡ k = omega arith in
    ap (stands_after (take k (map (pulse_item us) (line_from n d n)))) (sym (line_point_none n p d some))
    ∙ first_stands us n p d n k some (at_most_largest d) (omega arith) le
    ∙ ap (line_point n p d) e

pulses_follow : (g : Geometry) (us : ℕ) (p q : Point) (k : ℕ) → 0 < largest (distances g p q) → k ≤ largest (distances g p q)
    → stands_after (take k (map (pulse_item us) (line_pulses (distances g p q)))) (point_in_steps g p) ≡ on_line
    (largest (distances g p q)) (point_in_steps g p) (point_in_steps g q) k
pulses_follow g us p q k some le =
    let n = largest (distances g p q) in
    line_goes us (point_in_steps g p) (distances g p q) k some le
    ∙ distances_same _ _ _ _ _ _ (ap (λ z. point_on_line n (in_steps p.x g.x.step_nm) z k) (rest_of _ _))
    (ap (λ z. point_on_line n (in_steps p.y g.y.step_nm) z k) (rest_of _ _))
    (ap (λ z. point_on_line n (in_steps p.z g.z.step_nm) z k) (rest_of _ _))

line_follows : (g : Geometry) (pace : Pace) (p q : Point) (k : ℕ) → 0 < largest (distances g p q) → k ≤ largest (distances g p q)
    → stands_after (take k (line_items g pace p q)) (point_in_steps g p) ≡ on_line (largest (distances g p q)) (point_in_steps g p) (point_in_steps g q) k
unfolding line_items
line_follows g pace p q k some le = pulses_follow g _ p q k some le

-- a small arc's items are those of a line
small_items : (g : Geometry) (arc : Arc) → is_small (centred g arc).circle ≡ true → line_items g arc.pace arc.start arc.end ≡ arc_items g arc
unfolding arc_items
small_items g arc small = rw small refl

pub follows : (s : Segment) (g : Geometry) → FollowsItsLine s g
follows (LineSegment l) g = λ k some le. line_follows g l.pace l.start l.end k some le
follows (ArcSegment arc) g = λ small. subst (λ (items : List Item). FollowsLine g items arc.start arc.end)
    (small_items g arc small) (λ k some le. line_follows g arc.pace arc.start arc.end k some le)
follows (DwellSegment time) g = tt
follows (SwitchSegment outputs) g = tt

-- ---- the travel

both : (a b : Bool) → (a && b) ≡ true → (a ≡ true) × (b ≡ true)
both true b h = (refl, h)
both false b h = absurd (cc)

at_most : (x y : ℤ) → int_le x y ≡ true → x ≤ℤ y
at_most x y h = grind (arith, ints)

within : (axis : Axis) (z : ℤ) → is_on axis z ≡ true → (axis.low ≤ℤ z) × (z ≤ℤ axis.high)
within axis z h = let parts = both _ _ h in (at_most _ _ parts.0, at_most _ _ parts.1)

-- a coordinate between the ends of a line
axis_inside : (axis : Axis) (n k : ℕ) (p q : ℤ) → 0 < axis.step_nm → 0 < n → k ≤ n → is_on axis p ≡ true → is_on axis q ≡ true
    → IsByHalfIn axis.low axis.high axis.step_nm
    (point_on_line n (in_steps p axis.step_nm)
    (in_steps p axis.step_nm +ℤ (in_steps q axis.step_nm -ℤ in_steps p axis.step_nm)) k)
axis_inside axis n k p q step some le hp hq =
    let first = within axis p hp in
    let last = within axis q hq in
    let e : in_steps p axis.step_nm +ℤ (in_steps q axis.step_nm -ℤ in_steps p axis.step_nm) ≡ in_steps q axis.step_nm = rest_of _ _ in
    subst (λ (z : ℤ). IsByHalfIn axis.low axis.high axis.step_nm (point_on_line n (in_steps p axis.step_nm) z k)) (sym e)
    (line_inside n k axis.step_nm p q axis.low axis.high step some le first.0 last.0 first.1 last.1)

-- a point on the way
point_inside : (g : Geometry) (n k : ℕ) (p q : Point) → 0 < n → k ≤ n → is_inside g p ≡ true → is_inside g q ≡ true
    → IsInsideByHalf g (line_point n (point_in_steps g p) (distances g p q) k)
point_inside g n k p q some le hp hq =
    let l = limits g in
    let p_xy = both (is_on g.x p.x && is_on g.y p.y) (is_on g.z p.z) hp in
    let q_xy = both (is_on g.x q.x && is_on g.y q.y) (is_on g.z q.z) hq in
    let p_x = both (is_on g.x p.x) (is_on g.y p.y) p_xy.0 in
    let q_x = both (is_on g.x q.x) (is_on g.y q.y) q_xy.0 in
    record {
      x = axis_inside g.x n k p.x q.x l.x.0 some le p_x.0 q_x.0;
      y = axis_inside g.y n k p.y q.y l.y.0 some le p_x.1 q_x.1;
      z = axis_inside g.z n k p.z q.z l.z.0 some le p_xy.1 q_xy.1;
    }

start_inside : (g : Geometry) (p : Point) → is_inside g p ≡ true → IsInsideByHalf g (point_in_steps g p)
start_inside g p hp =
    let l = limits g in
    let p_xy = both (is_on g.x p.x && is_on g.y p.y) (is_on g.z p.z) hp in
    let p_x = both (is_on g.x p.x) (is_on g.y p.y) p_xy.0 in
    let x = within g.x p.x p_x.0 in
    let y = within g.y p.y p_x.1 in
    let z = within g.z p.z p_xy.1 in
    record {
      x = in_steps_near p.x g.x.low g.x.high g.x.step_nm l.x.0 x.0 x.1;
      y =
          in_steps_near p.y g.y.low g.y.high g.y.step_nm l.y.0 y.0 y.1;
      z = in_steps_near p.z g.z.low g.z.high
          g.z.step_nm l.z.0 z.0 z.1;
    }

all_inside : (g : Geometry) (us n : ℕ) (p d : Distances) (left : ℕ) → 0 < n → AreAtMost d n → left ≤ n
    → ((k : ℕ) → k ≤ n → IsInsideByHalf g (line_point n p d k))
    → All (IsInsideByHalf g) (stands_at (map (pulse_item us) (line_from n d left)) (line_point n p d (n - left)))
all_inside g us n p d zero some most small inside = All-cons (IsInsideByHalf g) _ [] (inside (n - 0) (omega arith)) (All-nil (IsInsideByHalf g))
all_inside g us n p d (suc left) some most small inside =
    let e : n - suc left + 1 ≡ n - left = omega arith in
    let step = line_moves us n (n - suc left) p d some most ∙ ap (line_point n p d) e in
    All-cons (IsInsideByHalf g) _ _ (inside (n - suc left) (omega arith))
    (subst (λ (x : Distances). All (IsInsideByHalf g) (stands_at (map (pulse_item us) (line_from n d left)) x))
    (sym step) (all_inside g us n p d left some most (omega arith) inside))

pulses_inside : (g : Geometry) (us : ℕ) (p q : Point) → 0 < largest (distances g p q) → is_inside g p ≡ true → is_inside g q ≡ true
    → All (IsInsideByHalf g) (stands_at (map (pulse_item us) (line_pulses (distances g p q))) (point_in_steps g p))
unfolding line_pulses
pulses_inside g us p q some hp hq =
    let n = largest (distances g p q) in
    subst (λ (x : Distances).
    All (IsInsideByHalf g) (stands_at (map (pulse_item us) (line_from n (distances g p q) n)) x))
    (line_point_none n (point_in_steps g p) (distances g p q) some)
    (all_inside g us n (point_in_steps g p) (distances g p q) n some (at_most_largest (distances g p q))
    (omega arith) (λ k le. point_inside g n k p q some le hp hq))

none_inside : (g : Geometry) (us : ℕ) (d at : Distances) → largest d ≡ 0 → IsInsideByHalf g at
    → All (IsInsideByHalf g) (stands_at (map (pulse_item us) (line_pulses d)) at)
none_inside g us d at none inside =
    subst (λ ps. All (IsInsideByHalf g) (stands_at (map (pulse_item us) ps) at)) (sym (line_none d none))
    (All-cons (IsInsideByHalf g) at [] inside (All-nil (IsInsideByHalf g)))

line_stays : (g : Geometry) (pace : Pace) (p q : Point) → is_inside g p ≡ true → is_inside g q ≡ true
    → All (IsInsideByHalf g) (stands_at (line_items g pace p q) (point_in_steps g p))
unfolding line_items
line_stays g pace p q hp hq = elim (cases_lt 0 (largest (distances g p q))) [
  | inl some ↦ pulses_inside g _ p q some hp hq
  | inr none ↦ none_inside g _ (distances g p q) (point_in_steps g p) (omega arith) (start_inside g p hp)
]

pub stays : (s : Segment) (g : Geometry) → StaysInside s g
stays (LineSegment l) g = λ hp hq. line_stays g l.pace l.start l.end hp hq
stays (ArcSegment arc) g = λ small. subst (λ (items : List Item). StaysInTravel g items arc.start arc.end)
    (small_items g arc small) (λ hp hq. line_stays g arc.pace arc.start arc.end hp hq)
stays (DwellSegment time) g = tt
stays (SwitchSegment outputs) g = tt

-- ---- the circle

true_of : (c : CentredArc) → IsLargeArc c.circle (unsigned_abs c.start.a + unsigned_abs c.start.b)
    → 0 < unsigned_abs c.from.a + unsigned_abs c.from.b → IsTrueArc c
unfolding arc_path plane_steps
true_of c large some =
    let rule = is_arc c.circle c.end (unsigned_abs c.start.a + unsigned_abs c.start.b) (quadrants_to_walk c.start c.end c.from) c.from large some in
    record {
      rule = rule;
      near = is_near_circle c.circle c.end (unsigned_abs c.start.a + unsigned_abs c.start.b) (quadrants_to_walk c.start c.end c.from) c.from _ large some rule;
      few = length-plane_steps_within _ c.circle c.end (quadrants_to_walk c.start c.end c.from) c.from;
    }

a_some : (g : Geometry) (plane : Plane) → 0 < step_a g plane
a_some g Xy = (limits g).x.0
a_some g Xz = (limits g).z.0
a_some g Yz = (limits g).y.0

b_some : (g : Geometry) (plane : Plane) → 0 < step_b g plane
b_some g Xy = (limits g).y.0
b_some g Xz = (limits g).x.0
b_some g Yz = (limits g).z.0

near_a : (u z c : ℤ) (s m : ℕ) → 2 * unsigned_abs (u -ℤ z) ≤ s → s ≤ m → 2 * unsigned_abs ((u -ℤ c) -ℤ (z -ℤ c)) ≤ m
near_a u z c s m h le = omega (arith, ints)

near_b : (turn : ArcDirection) (u z c : ℤ) (s m : ℕ) → 2 * unsigned_abs (u -ℤ z) ≤ s → s ≤ m
    → 2 * unsigned_abs (mirrored turn (u -ℤ c) -ℤ mirrored turn (z -ℤ c)) ≤ m
near_b Counterclockwise u z c s m h le = omega (arith, ints)
near_b Clockwise u z c s m h le = omega (arith, ints)

far : (n m : ℕ) → nat_lt n m ≡ false → m ≤ n
far n m h = grind (arith, nat_tests)

pub true_arc : (g : Geometry) (arc : Arc) → is_small (centred g arc).circle ≡ false → IsTrueArc (centred g arc)
unfolding centred
true_arc g arc large =
    let c = centred g arc in
    let has : HasSteps c.circle = record { a = a_some g arc.plane; b = b_some g arc.plane } in
    let big : 4 * (larger c.circle * larger c.circle) ≤ c.circle.square = far c.circle.square (4 * (larger c.circle * larger c.circle)) large in
    true_of c (record { has = has; large = big; within = omega arith })
    (start_some c.start c.from (larger c.circle) (larger_some c.circle has) big
    (near_a _ _ arc.centre_a (step_a g arc.plane) _ (rounded_near _ _ (a_some g arc.plane)) (omega arith))
    (near_b arc.turn _ _ arc.centre_b (step_b g arc.plane) _ (rounded_near _ _ (b_some g arc.plane)) (omega arith)))

pub keeps : (s : Segment) (g : Geometry) → KeepsToItsCircle s g
keeps (LineSegment l) g = tt
keeps (ArcSegment arc) g = true_arc g arc
keeps (DwellSegment time) g = tt
keeps (SwitchSegment outputs) g = tt
