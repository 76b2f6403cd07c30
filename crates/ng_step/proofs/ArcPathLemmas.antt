-- The machine's position on an arc is a point of its path.
use Rattle.std.proofs.Common.{arith, ℕ, zero, suc, ◌+◌, ◌*◌, ◌<◌, ◌≤◌, ◌≡◌, inl, inr, refl, sym, ap, ◌∙◌, subst, ℤ}
use Rattle.std.proofs.Common.{pos, ◌+ℤ◌, ◌-ℤ◌, ◌*ℤ◌, false, max, List, [], ◌∷◌, ◌++◌, map, length, take, get_or}
use Rattle.std.proofs.Common.{Some}
use Rattle.std.proofs.lemmas.Int.{ints}
use Rattle.std.proofs.lemmas.Bool.{cases_lt}
use Rattle.std.proofs.lemmas.List.{map-append}
use Rattle.std.proofs.lemmas.List.Elements.{All-from_get_or, All-get_or}
use Rattle.std.proofs.lemmas.Option.{get_or_from_slice_get, slice_get_within}
use Rattle.std.specs.Prelude.{unsigned_abs, int_le, slice_get}
use Rattle.ng_canon.specs.declared.geometry.Geometry.{Geometry}
use Rattle.ng_canon.specs.declared.plane.Plane.{Plane}
use Rattle.ng_canon.specs.declared.plane.Plane.TheVariants.{Xy, Xz, Yz}
use Rattle.ng_canon.specs.declared.segment.Arc.{Arc}
use Rattle.ng_canon.specs.declared.segment.Segment.{Segment}
use Rattle.ng_canon.specs.declared.segment.Segment.TheVariants.{Line as LineSegment, Arc as ArcSegment, Dwell as DwellSegment, Switch as SwitchSegment}
use Rattle.ng_num.specs.declared.point.Point.{Point}
use Rattle.ng_step.specs.declared.circle.Circle.{Circle}
use Rattle.ng_step.specs.declared.frame.Frame.{Frame}
use Rattle.ng_step.specs.declared.steps.Distances.{Distances}
use Rattle.ng_canon.specs.declared.item.Item.{Item}
use Rattle.ng_canon.specs.declared.plane_point.PlanePoint.{PlanePoint}
use Rattle.ng_step.specs.declared.quadrant.PlaneStep.{PlaneStep}
use Rattle.ng_step.specs.Arcs.{moved as stepped, spots, excess, larger, IsAtMostInSize, IsNearCircle}
use Rattle.ng_canon.specs.Plane.{pick_a, pick_b}
use Rattle.ng_step.specs.Line.{made, point_on_line, in_steps, largest, line_pulses}
use Rattle.ng_step.specs.Arc.{arc_pulses}
use Rattle.ng_step.specs.Hands.{pulse_item, rounded, distances, across, closing, centred, is_small, arc_path, arc_items, large_arc_items}
use Rattle.ng_step.specs.Promises.{stands_after, offset_of, point_in_steps, on_line, position_after, round_total, steps_between, FollowsPath, FollowsItsPath}
use Rattle.ng_step.proofs.LineStepLemmas.{made_none, made_all, made_more}
use Rattle.ng_step.proofs.SegmentEndLemmas.{moved, rest_of, distances_same, line_leads, over_leads, stands_after-append}
use Rattle.ng_step.proofs.PromiseLemmas.{line_goes, true_arc, start_moved}
use Rattle.ng_step.proofs.ArcPointLemmas.{third_of, length-interleaved, then_items, goes_round}

-- ---- each point of the path is reached

pub record Reaches (n count j last : ℕ) : Type 0 where
  pub k : ℕ
  pub within : k ≤ last
  pub is : made n count k ≡ j

reaches : (n count j last : ℕ) → 0 < n → count ≤ n → j ≤ made n count last → Reaches n count j last
reaches n count j zero some le h = record { k = 0; within = omega arith; is = (let none = made_none n count some in omega arith) }
reaches n count j (suc last) some le h =
    let e : last + 1 ≡ suc last = omega arith in
    let more = rw e at (made_more n count last some le) in
    elim (cases_lt (made n count last) j) [
      | inl over ↦ record { k = suc last; within = omega arith; is = omega arith }
      | inr here ↦ (let before = reaches n count j last some le here in record { k = before.k; within = omega (arith, before.within); is = before.is })
    ]

length-spots : (c : Circle) (p : PlanePoint) (ms : List PlaneStep) → length (spots c p ms) ≡ length ms + 1
length-spots c p [] = refl
length-spots c p (m ∷ ms) = let e = length-spots c (stepped c m p) ms in omega arith

abbrev NearBy : Circle → ℕ → ℕ → PlanePoint → Type 0
NearBy c w f0 x = unsigned_abs (excess c x) ≤ 2 * (larger c * w) + larger c * larger c + f0

-- what is near at each point of the path is near at the machine's position
near_at : (c : Circle) (p : PlanePoint) (ms : List PlaneStep) (n : ℕ) (at : ℕ → PlanePoint) → 0 < n → length ms ≤ n
    → ((k : ℕ) → k ≤ n → slice_get (spots c p ms) (made n (length ms) k) ≡ Some (at k))
    → IsNearCircle c p ms → (w : ℕ) → ((k : ℕ) → k ≤ n → IsAtMostInSize w (at k)) → (k : ℕ) → k ≤ n → NearBy c w (unsigned_abs (excess c p)) (at k)
near_at c p ms n at some le stands near w within k most =
    let path = spots c p ms in
    let each : (i : ℕ) → i < length path → IsAtMostInSize w (get_or path i p) = λ i less.
    (let size = length-spots c p ms in
    let all = made_all n (length ms) some in
    let r = reaches n (length ms) i n some le (omega arith) in
    let found = get_or_from_slice_get path (made n (length ms) r.k) (at r.k) p (stands r.k r.within) in
    let same : at r.k ≡ get_or path i p = sym found ∙ ap (λ j. get_or path j p) r.is in
    subst (λ (x : PlanePoint). IsAtMostInSize w x) same (within r.k r.within)) in
    let bounds = near w (All-from_get_or (IsAtMostInSize w) path p each) in
    let here = stands k most in
    let inside = slice_get_within path (made n (length ms) k) (at k) here in
    subst (λ (x : PlanePoint). NearBy c w (unsigned_abs (excess c p)) x) (get_or_from_slice_get path (made n (length ms) k) (at k) p here)
    (All-get_or (NearBy c w (unsigned_abs (excess c p))) path (made n (length ms) k) p inside bounds)

-- ---- the whole arc

start_scaled_a : (plane : Plane) (x y z : ℤ) (sx sy sz : ℕ)
    → pick_a plane (in_steps x sx) (in_steps y sy) (in_steps z sz) *ℤ pos (pick_a plane sx sy sz) ≡ rounded
    (pick_a plane x y z) (pick_a plane sx sy sz)
start_scaled_a Xy x y z sx sy sz = refl
start_scaled_a Xz x y z sx sy sz = refl
start_scaled_a Yz x y z sx sy sz = refl

start_scaled_b : (plane : Plane) (x y z : ℤ) (sx sy sz : ℕ)
    → pick_b plane (in_steps x sx) (in_steps y sy) (in_steps z sz) *ℤ pos (pick_b plane sx sy sz) ≡ rounded
    (pick_b plane x y z) (pick_b plane sx sy sz)
start_scaled_b Xy x y z sx sy sz = refl
start_scaled_b Xz x y z sx sy sz = refl
start_scaled_b Yz x y z sx sy sz = refl

start_is : (g : Geometry) (arc : Arc) → offset_of g arc (point_in_steps g arc.start) ≡ (centred g arc).from
unfolding centred
start_is g arc = rw (
  start_scaled_a arc.plane arc.start.x arc.start.y arc.start.z g.x.step_nm g.y.step_nm
      g.z.step_nm,
  start_scaled_b arc.plane arc.start.x arc.start.y arc.start.z g.x.step_nm g.y.step_nm g.z.step_nm,
)
    refl

third_ends : (plane : Plane) (g : Geometry) (p q : Point) → third_of plane (point_in_steps g p) +ℤ third_of plane
    (distances g p q) ≡ third_of plane (point_in_steps g q)
third_ends Xy g p q = rest_of _ _
third_ends Xz g p q = rest_of _ _
third_ends Yz g p q = rest_of _ _

-- the items of an arc without and with its closing line, for any period
abbrev large_list : Geometry → Arc → ℕ → List Item
large_list g arc us =
    map (pulse_item us) (arc_pulses (centred g arc).frame (arc_path (centred g arc)) (across (centred g arc).frame (distances g arc.start arc.end))
    ++ line_pulses (closing (centred g arc).frame (distances g arc.start arc.end) (arc_path (centred g arc))))

large_goes : (g : Geometry) (arc : Arc) (us k : ℕ) → 0 < round_total g arc → k ≤ round_total g arc
    → (slice_get (spots (centred g arc).circle (centred g arc).from (arc_path (centred g arc)))
    (made (round_total g arc) (length (arc_path (centred g arc))) k) ≡ Some
    (offset_of g arc (position_after g arc (large_list g arc us) k)))
    × (third_of arc.plane (position_after g arc (large_list g arc us) k) ≡ point_on_line (round_total g arc)
    (third_of arc.plane (point_in_steps g arc.start)) (third_of arc.plane (point_in_steps g arc.end)) k)
unfolding centred
large_goes g arc us k some le =
    let ms = arc_path (centred g arc) in
    let d = distances g arc.start arc.end in
    let both = goes_round g arc us (centred g arc).circle.square (across (centred g arc).frame d) ms
    (point_in_steps g arc.start) (line_pulses (closing (centred g arc).frame d ms)) k some le in (
      ap (λ (x : PlanePoint). slice_get (spots (centred g arc).circle x ms) (made (round_total g arc) (length ms) k)) (sym (start_is g arc)) ∙ both.0,
      both.1 ∙ ap (λ z. point_on_line (round_total g arc) (third_of arc.plane (point_in_steps g arc.start)) z k) (third_ends arc.plane g arc.start arc.end),
    )

stands_none : (g : Geometry) (arc : Arc) (items : List Item) (k : ℕ) → k ≡ 0 → position_after g arc items k ≡ point_in_steps g arc.start
stands_none g arc items k none = rw none refl

near_start : (c : Circle) (w : ℕ) (x y : PlanePoint) → y ≡ x → NearBy c w (unsigned_abs (excess c x)) y
near_start c w x y is = rw is (omega arith)

-- the items for steps in the plane, with the closing line
abbrev over_list : ℕ → Frame → Distances → List PlaneStep → List Item
over_list us frame d ms = map (pulse_item us) (arc_pulses frame ms (across frame d) ++ line_pulses (closing frame d ms))

abbrev over_total : Frame → Distances → List PlaneStep → ℕ
over_total frame d ms = max (length ms) (unsigned_abs (across frame d))

-- after the arc's pulses
abbrev after_arc : ℕ → Frame → Distances → List PlaneStep → Distances → Distances
after_arc us frame d ms p = stands_after (map (pulse_item us) (arc_pulses frame ms (across frame d))) p

over_length : (frame : Frame) (d : Distances) (ms : List PlaneStep) → length (arc_pulses frame ms (across frame d)) ≡ over_total frame d ms
over_length frame d ms = length-interleaved frame (over_total frame d ms) (length ms)
    (int_le (pos 0) (across frame d)) (unsigned_abs (across frame d)) ms (over_total frame d ms)

at_total : (us : ℕ) (frame : Frame) (d : Distances) (ms : List PlaneStep) (p : Distances)
    → stands_after (take (over_total frame d ms) (over_list us frame d ms)) p ≡ after_arc us frame d ms p
at_total us frame d ms p =
    let e : over_total frame d ms ≡ over_total frame d ms + 0 = omega arith in
    ap (λ k. stands_after (take k (over_list us frame d ms)) p) e
    ∙ then_items us (arc_pulses frame ms (across frame d)) (line_pulses (closing frame d ms))
    (over_total frame d ms) 0 p (over_length frame d ms)

closes : (us : ℕ) (frame : Frame) (d : Distances) (ms : List PlaneStep) (p q : Distances) → moved p d ≡ q
    → moved (after_arc us frame d ms p) (closing frame d ms) ≡ q
closes us frame d ms p q to =
    sym (line_leads us (after_arc us frame d ms p) (closing frame d ms))
    ∙ sym (stands_after-append (map (pulse_item us) (arc_pulses frame ms (across frame d))) (map (pulse_item us) (line_pulses (closing frame d ms))) p)
    ∙ sym (ap (λ (is : List Item). stands_after is p) (map-append (pulse_item us) (arc_pulses frame ms (across frame d)) (line_pulses (closing frame d ms))))
    ∙ over_leads us frame d ms p ∙ to

rest_is : (p d q : ℤ) → p +ℤ d ≡ q → q -ℤ p ≡ d
rest_is p d q h = omega (arith, ints)

-- a line over the distances from one point to another
line_between : (us k : ℕ) (p d q : Distances) → moved p d ≡ q → 0 < largest (steps_between p q) → k ≤ largest (steps_between p q)
    → stands_after (take k (map (pulse_item us) (line_pulses d))) p ≡ on_line (largest (steps_between p q)) p q k
line_between us k p d q to some le =
    let to_x : p.x +ℤ d.x ≡ q.x = ap (λ (r : Distances). r.x) to in
    let to_y : p.y +ℤ d.y ≡ q.y = ap (λ (r : Distances). r.y) to in
    let to_z : p.z +ℤ d.z ≡ q.z = ap (λ (r : Distances). r.z) to in
    let is : steps_between p q ≡ d = distances_same _ _ _ d.x d.y d.z (rest_is p.x d.x q.x to_x) (rest_is p.y d.y q.y to_y) (rest_is p.z d.z q.z to_z) in
    let n_is : largest (steps_between p q) ≡ largest d = ap largest is in
    line_goes us p d k (rw n_is at some) (rw n_is at le)
    ∙ ap (λ (r : Distances). on_line (largest d) p r k) to
    ∙ ap (λ n. on_line n p q k) (sym n_is)

closing_line : (us : ℕ) (frame : Frame) (d : Distances) (ms : List PlaneStep) (p q s : Distances) (k : ℕ)
    → moved p d ≡ q → s ≡ stands_after (take (over_total frame d ms) (over_list us frame d ms)) p
    → 0 < largest (steps_between s q) → k ≤ largest (steps_between s q)
    → stands_after (take (over_total frame d ms + k) (over_list us frame d ms)) p ≡ on_line
    (largest (steps_between s q)) s q k
closing_line us frame d ms p q s k to at some le =
    let is : s ≡ after_arc us frame d ms p = at ∙ at_total us frame d ms p in
    then_items us (arc_pulses frame ms (across frame d)) (line_pulses (closing frame d ms)) (over_total frame d ms) k p (over_length frame d ms)
    ∙ ap (stands_after (take k (map (pulse_item us) (line_pulses (closing frame d ms))))) (sym is)
    ∙ line_between us k s (closing frame d ms) q (ap (λ (r : Distances). moved r (closing frame d ms)) is ∙ closes us frame d ms p q to) some le

follows_large : (g : Geometry) (arc : Arc) (us : ℕ) → IsNearCircle (centred g arc).circle (centred g arc).from
    (arc_path (centred g arc)) → FollowsPath g arc (large_list g arc us)
follows_large g arc us near = record {
  path = λ k some le. (large_goes g arc us k some le).0;
  third = λ k some le. (large_goes g arc us k some le).1;
  near = λ w within k le. elim (cases_lt 0 (round_total g arc)) [
    | inl some ↦ near_at (centred g arc).circle (centred g arc).from (arc_path (centred g arc)) (round_total g arc)
        (λ j. offset_of g arc (position_after g arc (large_list g arc us) j)) some (omega arith)
        (λ j most. (large_goes g arc us j some most).0) near w within k le
    | inr none ↦ near_start (centred g arc).circle w (centred g arc).from _
        (ap (offset_of g arc) (stands_none g arc (large_list g arc us) k (omega arith)) ∙ start_is g arc)
  ];
  closing = λ k some le.
      closing_line us (centred g arc).frame (distances g arc.start arc.end) (arc_path (centred g arc))
      (point_in_steps g arc.start) (point_in_steps g arc.end) _ k (start_moved g arc.start arc.end) refl some
      le;
}

large_is : (g : Geometry) (arc : Arc) → is_small (centred g arc).circle ≡ false → FollowsPath g arc (arc_items g arc)
unfolding arc_items large_arc_items
large_is g arc large = rw large (follows_large g arc _ ((true_arc g arc large).near))

pub follows_path : (s : Segment) (g : Geometry) → FollowsItsPath s g
follows_path (LineSegment l) g = tt
follows_path (ArcSegment arc) g = λ large. large_is g arc large
follows_path (DwellSegment time) g = tt
follows_path (SwitchSegment outputs) g = tt
