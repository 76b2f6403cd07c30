-- Where an arc stops, found without walking it.
use Rattle.std.proofs.Common.{arith, ℕ, zero, suc, ◌+◌, ◌-◌, ◌*◌, ◌^◌, ◌<◌, ◌≤◌, ◌≡◌, ◌⊎◌, inl, inr, refl, sym, ap}
use Rattle.std.proofs.Common.{◌∙◌, ℤ, pos, negsuc, neg_ℤ, ◌+ℤ◌, ◌-ℤ◌, ◌*ℤ◌, List, [], length, drop, length-drop}
use Rattle.std.proofs.Common.{true, false}
use Rattle.std.proofs.lemmas.Int.{ints}
use Rattle.std.proofs.lemmas.Nat.{mul-le}
use Rattle.std.proofs.lemmas.Bool.{cases_lt}
use Rattle.std.proofs.lemmas.Bool.Decides.{nat_tests}
use Rattle.std.specs.Prelude.{int_le, unsigned_abs}
use Rattle.ng_step.specs.declared.circle.Circle.{Circle}
use Rattle.ng_canon.specs.declared.quadrant.Quadrant.{Quadrant}
use Rattle.ng_canon.specs.declared.plane_point.PlanePoint.{PlanePoint}
use Rattle.ng_step.specs.declared.quadrant.PlaneStep.{PlaneStep}
use Rattle.ng_step.specs.declared.sweep.QuadrantSweep.{QuadrantSweep}
use Rattle.ng_step.specs.declared.sweep.QuadrantEnd.{QuadrantEnd}
use Rattle.ng_step.specs.declared.sweep.SweepSteps.{SweepSteps}
use Rattle.ng_step.specs.declared.walk.ArcWalk.{ArcWalk}
use Rattle.ng_canon.specs.Plane.{cross}
use Rattle.ng_step.specs.Arcs.{larger, stops, IsArc, HasSteps, net_a, net_b}
use Rattle.ng_step.specs.Turned.{spot_of, Walks, point_of_quadrant, turned, in_step, out_step, Bounded, farthest, beyond, budget}
use Rattle.ng_step.specs.Private.Sweeps.{inner_at, outer_at, ComesInward, ComesOutward}
use Rattle.ng_step.specs.Private.Leaps.{reach_a, reach_b, Leads, WalkLeads, EndsArc, PassesFrom, NeverStopsUntil, IsAhead, StopsAt}
use Rattle.ng_step.proofs.WalkLemmas.{cross-place}
use Rattle.ng_step.proofs.ArcStepCountLemmas.{arc_all, drop_all, none_left}
use Rattle.ng_step.proofs.LeapLemmas.{less_one, leads_none, leads_then, outward_leads, inward_leads, way_leads}

-- ---- the end of an arc

stops_last : (e p : PlanePoint) → stops e 1 p ≡ int_le (cross p e) (pos 0)
unfolding stops
stops_last e p = refl

-- before the last quadrant it doesn't stop
pub goes_on_before : (e p : PlanePoint) (left : ℕ) → 1 < left → stops e left p ≡ false
unfolding stops
goes_on_before e p zero h = absurd (omega arith)
goes_on_before e p (suc zero) h = absurd (omega arith)
goes_on_before e p (suc (suc left)) h = grind (arith, nat_tests)

-- after the last quadrant it has stopped
pub stops_after_last : (e p : PlanePoint) → stops e 0 p ≡ true
unfolding stops
stops_after_last e p = refl

crossed : (q : Quadrant) (e : PlanePoint) (a : QuadrantEnd) (x y : ℕ) → IsAhead q e a
    → cross (point_of_quadrant q x y) e ≡ pos (x * a.outer) -ℤ pos (y * a.inner)
crossed q e a x y is = sym (cross-place q x y e) ∙ ap (λ (t : PlanePoint). pos x *ℤ t.b -ℤ pos y *ℤ t.a) is

stops_past : (q : Quadrant) (e : PlanePoint) (a : QuadrantEnd) (x y : ℕ) → IsAhead q e a → x * a.outer ≤ y * a.inner
    → stops e 1 (point_of_quadrant q x y) ≡ true
stops_past q e a x y is past = stops_last e (point_of_quadrant q x y) ∙ ap (λ z. int_le z (pos 0)) (crossed q e a x y is) ∙ low (x * a.outer) (y * a.inner) past
  where
    low : (m n : ℕ) → m ≤ n → int_le (pos m -ℤ pos n) (pos 0) ≡ true
    low m n h = grind (arith, ints)

goes_on_to : (q : Quadrant) (e : PlanePoint) (a : QuadrantEnd) (x y : ℕ) → IsAhead q e a → y * a.inner < x * a.outer
    → stops e 1 (point_of_quadrant q x y) ≡ false
goes_on_to q e a x y is before = stops_last e (point_of_quadrant q x y)
    ∙ ap (λ z. int_le z (pos 0)) (crossed q e a x y is) ∙ high (x * a.outer) (y * a.inner) before
  where
    high : (m n : ℕ) → n < m → int_le (pos m -ℤ pos n) (pos 0) ≡ false
    high m n h = grind (arith, ints)

-- a point that isn't past the end is before it
pub before_of : (q : Quadrant) (e : PlanePoint) (a : QuadrantEnd) (x y : ℕ) → IsAhead q e a
    → stops e 1 (point_of_quadrant q x y) ≡ false → y * a.inner < x * a.outer
before_of q e a x y is going = elim (cases_lt (y * a.inner) (x * a.outer)) [
  | inl before ↦ before
  | inr past ↦ absurd (cc (stops_past q e a x y is past, going))
]

-- it stops at no point up to one before the end
pub goes_on_up_to : (e : PlanePoint) (w : ArcWalk) (a : QuadrantEnd) (x y : ℕ) → IsAhead w.quadrant e a → y * a.inner < x * a.outer → NeverStopsUntil e 1 w x y
goes_on_up_to e w a x y is before = λ i o low high near far.
    let inner = mul-le x a.outer i a.outer low (omega arith) in
    let outer = mul-le o a.inner y a.inner far (omega arith) in
    goes_on_to w.quadrant e a i o is (omega arith)

sum_false : (m n : ℕ) → 0 < m + n → int_le (pos m -ℤ neg_ℤ (pos n)) (pos 0) ≡ false
sum_false m n h = grind (arith, ints)

sum_some : (m n : ℕ) → int_le (pos m -ℤ neg_ℤ (pos n)) (pos 0) ≡ false → 0 < m + n
sum_some m n h = grind (arith, ints)

apart_false : (m n : ℕ) → m < n → int_le (neg_ℤ (pos m) -ℤ neg_ℤ (pos n)) (pos 0) ≡ false
apart_false m n h = grind (arith, ints)

apart_some : (m n : ℕ) → int_le (neg_ℤ (pos m) -ℤ neg_ℤ (pos n)) (pos 0) ≡ false → m < n
apart_some m n h = grind (arith, ints)

not_past_axis : (a : ℕ) → int_le (pos (suc a)) (pos 0) ≡ true → ⊥
not_past_axis a h = grind (arith, ints)

still_some : (i o x y b s : ℕ) → 0 < i * b + o * s → 0 < x → o ≤ y → 0 < x * b + y * s
still_some i o x y zero s h some far = let more = mul-le o s y s far (omega arith) in omega arith
still_some i o x y (suc b) s h some far = let product : 1 * 1 ≤ x * suc b = mul-le 1 1 x (suc b) some (omega arith) in omega arith

level_false : (m n : ℕ) → n ≡ 0 → 0 < m → int_le (pos m -ℤ pos n) (pos 0) ≡ false
level_false m n none h = grind (arith, ints)

level_some : (m n : ℕ) → n ≡ 0 → int_le (pos m -ℤ pos n) (pos 0) ≡ false → 0 < m
level_some m n none h = grind (arith, ints)

level_past_axis : (m n : ℕ) → n ≡ 0 → int_le (neg_ℤ (pos m) -ℤ pos n) (pos 0) ≡ false → ⊥
level_past_axis m n none h = grind (arith, ints)

later_level : (tb : ℤ) (i o x y : ℕ) → int_le (pos i *ℤ tb -ℤ pos o *ℤ pos zero) (pos 0) ≡ false → 0 < x
    → int_le (pos x *ℤ tb -ℤ pos y *ℤ pos zero) (pos 0) ≡ false
later_level (pos zero) i o x y going some = let h = level_some (i * 0) (o * 0) (omega arith) going in absurd (omega arith)
later_level (pos (suc b)) i o x y going some = let product : 1 * 1 ≤ x * suc b =
    mul-le 1 1 x (suc b) some (omega arith) in level_false (x * suc b) (y * 0) (omega arith) (omega arith)
later_level (negsuc b) i o x y going some = absurd (level_past_axis (i * suc b) (o * 0) (omega arith) going)

-- an end after the quadrant's axis is never reached
pub never : (q : Quadrant) (i o x y : ℕ) (e : PlanePoint) (ta tb : ℤ) → (turned q e).a ≡ ta → (turned q e).b ≡ tb
    → int_le ta (pos 0) ≡ true → stops e 1 (point_of_quadrant q i o) ≡ false
    → 0 < x → x ≤ i → o ≤ y → stops e 1 (point_of_quadrant q x y) ≡ false
never q i o x y e ta tb ea eb past_axis going some low far =
    let here = cross_at i o in
    let there = cross_at x y in
    stops_last e (point_of_quadrant q x y) ∙ ap (λ z. int_le z (pos 0)) there
    ∙ later ta tb i o x y past_axis (sym (ap (λ z. int_le z (pos 0)) here)
    ∙ sym (stops_last e (point_of_quadrant q i o)) ∙ going) some low far
  where
    cross_at : (m n : ℕ) → cross (point_of_quadrant q m n) e ≡ pos m *ℤ tb -ℤ pos n *ℤ ta
    cross_at m n = sym (cross-place q m n e) ∙ rw (ea, eb) refl

    later : (ta tb : ℤ) (i o x y : ℕ) → int_le ta (pos 0) ≡ true → int_le (pos i *ℤ tb -ℤ pos o *ℤ ta) (pos 0) ≡ false → 0 < x → x ≤ i → o ≤ y
        → int_le (pos x *ℤ tb -ℤ pos y *ℤ ta) (pos 0) ≡ false
    later (pos zero) tb i o x y past_axis going some low far = later_level tb i o x y going some
    later (pos (suc a)) tb i o x y past_axis going some low far = absurd (not_past_axis a past_axis)
    later (negsuc a) (pos b) i o x y past_axis going some low far =
        sum_false (x * b) (y * suc a) (still_some i o x y b (suc a) (sum_some (i * b) (o * suc a) going) some far)
    later (negsuc a) (negsuc b) i o x y past_axis going some low far =
        let one = mul-le x (suc b) i (suc b) low (omega arith) in
        let two = mul-le o (suc a) y (suc a) far (omega arith) in
        let before = apart_some (i * suc b) (o * suc a) going in
        apart_false (x * suc b) (y * suc a) (omega arith)

-- an arc that stops here has no more steps
pub ends_here : (c : Circle) (e : PlanePoint) (q : Quadrant) (i o left : ℕ) (q' : Quadrant) (i' o' left' n : ℕ)
    → Leads c e q i o left q' i' o' left' n → stops e left' (point_of_quadrant q' i' o') ≡ true
    → EndsArc c e q i o left (point_of_quadrant q' i' o') n
ends_here c e q i o left q' i' o' left' n h stop = record {
  steps = λ ms arc. all ms arc;
  net = λ ms arc.
      let none : drop n ms ≡ [] = drop_all n ms (all ms arc) in
      let nets = h.net ms arc in (
        none_left (point_of_quadrant q' i' o').a (point_of_quadrant q i o).a (net_a ms) c.step_a
            (ap (reach_a c (point_of_quadrant q' i' o')) (sym none) ∙ nets.0),
        none_left (point_of_quadrant q' i' o').b (point_of_quadrant q i o).b (net_b ms) c.step_b
            (ap (reach_b c (point_of_quadrant q' i' o')) (sym none) ∙ nets.1),
      );
  bound = omega (arith, h.bound);
}
  where
    all : (ms : List PlaneStep) → IsArc c e left (point_of_quadrant q i o) ms → n ≡ length ms
    all ms arc = let rest = h.rest ms arc in arc_all c e left' (point_of_quadrant q' i' o') ms n stop rest.0 rest.1

-- some steps, and then those up to the end
pub ends_then : (c : Circle) (e : PlanePoint) (q : Quadrant) (i o left : ℕ) (q' : Quadrant) (i' o' left' n : ℕ)
    (last : PlanePoint) (m : ℕ) → Leads c e q i o left q' i' o' left' n → EndsArc c e q' i' o' left' last m
    → EndsArc c e q i o left last (n + m)
ends_then c e q i o left q' i' o' left' n last m h k = record {
  steps = λ ms arc. (let rest = h.rest ms arc in omega (arith, k.steps (drop n ms) rest.1, length-drop n ms, rest.0));
  net = λ ms arc.
      let rest = h.rest ms arc in
      let nets = h.net ms arc in
      let more = k.net (drop n ms) rest.1 in (
        joined last.a (point_of_quadrant q' i' o').a (point_of_quadrant q i o).a _ _ more.0 nets.0,
        joined last.b (point_of_quadrant q' i' o').b (point_of_quadrant q i o).b _ _ more.1 nets.1,
      );
  bound = omega (arith, h.bound, k.bound);
}
  where
    joined : (l p o m n : ℤ) → l -ℤ p ≡ m → p +ℤ m ≡ o +ℤ n → l -ℤ o ≡ n
    joined l p o m n f g = omega (arith, ints)

-- to the first point past the end
pub walk_stops : (w : ArcWalk) (p : QuadrantSweep) (way : SweepSteps) (e : PlanePoint) → Walks w → PassesFrom w p → StopsAt e w p way
    → Leads w.circle e w.quadrant w.inner w.outer 1 w.quadrant (inner_at p way.inward) (outer_at p way.outward) 1 (way.inward + way.outward)
walk_stops w p way e h from s = comes s.first.comes
  where
    a : QuadrantEnd
    a = s.ahead

    step : p.inner_step ≡ in_step w.circle w.quadrant
    step = from.inner_step ∙ h.inner_step

    out : p.outer_step ≡ out_step w.circle w.quadrant
    out = from.outer_step ∙ h.outer_step

    comes : ComesInward p s.ahead way.inward way.outward ⊎ ComesOutward p s.ahead way.inward way.outward
        → Leads w.circle e w.quadrant w.inner w.outer 1 w.quadrant (inner_at p way.inward) (outer_at p way.outward) 1 (way.inward + way.outward)
    comes (inl down) =
        let x = inner_at p (way.inward - 1) in
        let y = outer_at p way.outward in
        let first = way_leads w.circle e h.has h.bounded w.quadrant 1 w.inner w.outer p (way.inward - 1) way.outward
        from.square from.inner from.outer step out down.on
        (goes_on_up_to e w s.ahead x y s.is_ahead down.before) h.sound in
        let some = down.some in
        let split = less_one way.inward p.inner_step some in
        let inside = s.first.inside in
        let is : x ≡ in_step w.circle w.quadrant + inner_at p way.inward = omega arith in
        let then = inward_leads w.circle e h.has h.bounded w.quadrant x y (inner_at p way.inward) 1 is (omega arith)
        (goes_on_to w.quadrant e s.ahead x y s.is_ahead down.before) (rw (← from.square) down.outside)
        first.sound in
        let all = leads_then w.circle e h.has h.bounded w.quadrant w.inner w.outer 1 w.quadrant x y 1
        (way.inward - 1 + way.outward) w.quadrant (inner_at p way.inward) y 1 1 first then in
        let count : way.inward - 1 + way.outward + 1 ≡ way.inward + way.outward = omega arith in
        rw count at all
    comes (inr outward) =
        let x = inner_at p way.inward in
        let y = outer_at p (way.outward - 1) in
        let first = way_leads w.circle e h.has h.bounded w.quadrant 1 w.inner w.outer p way.inward (way.outward - 1)
        from.square from.inner from.outer step out outward.on
        (goes_on_up_to e w s.ahead x y s.is_ahead outward.before) h.sound in
        let some = outward.some in
        let split = less_one way.outward p.outer_step some in
        let then = outward_leads w.circle e h.has h.bounded w.quadrant x y 1
        (goes_on_to w.quadrant e s.ahead x y s.is_ahead outward.before) (rw (← from.square) outward.within)
        first.sound in
        let all = leads_then w.circle e h.has h.bounded w.quadrant w.inner w.outer 1 w.quadrant x y 1
        (way.inward + (way.outward - 1)) w.quadrant x (y + out_step w.circle w.quadrant) 1 1 first then in
        let count : way.inward + (way.outward - 1) + 1 ≡ way.inward + way.outward = omega arith in
        let to : y + out_step w.circle w.quadrant ≡ outer_at p way.outward = omega arith in
        rw (count, to) at all

-- a walk after a number of steps, with the number of quadrants left
pub record Reached (e : PlanePoint) (first : ArcWalk) (quadrants : ℕ) (w : ArcWalk) (left n : ℕ) : Type 0 where
  pub walks : Walks w
  pub circle : w.circle ≡ first.circle
  pub leads : WalkLeads e first quadrants w left n

pub reached_none : (e : PlanePoint) (w : ArcWalk) (quadrants : ℕ) → Walks w → Reached e w quadrants w quadrants 0
reached_none e w quadrants h = record { walks = h; circle = refl; leads = leads_none w.circle e h.has h.bounded w.quadrant w.inner w.outer quadrants h.sound }

pub reached_more : (e : PlanePoint) (first : ArcWalk) (quadrants : ℕ) (w w' : ArcWalk) (left left' n m : ℕ)
    → Reached e first quadrants w left n → Walks w' → w'.circle ≡ w.circle → WalkLeads e w left w' left' m
    → Reached e first quadrants w' left' (n + m)
reached_more e first quadrants w w' left left' n m h walks circle leads =
    let all = h.walks in
    let has : HasSteps first.circle = rw (← h.circle) all.has in
    let bounded : Bounded first.circle.square farthest (larger first.circle) beyond = rw (← h.circle) all.bounded in
    record {
      walks = walks;
      circle = circle ∙ h.circle;
      leads = leads_then first.circle e has bounded first.quadrant first.inner first.outer quadrants w.quadrant
          w.inner w.outer left n w'.quadrant w'.inner w'.outer left' m h.leads (rw (← h.circle) leads);
    }

pub reached_end : (e : PlanePoint) (first : ArcWalk) (quadrants : ℕ) (w : ArcWalk) (left n : ℕ) (last : PlanePoint)
    (m : ℕ) → Reached e first quadrants w left n → EndsArc w.circle e w.quadrant w.inner w.outer left last m
    → EndsArc first.circle e first.quadrant first.inner first.outer quadrants last (n + m)
reached_end e first quadrants w left n last m h ends =
    ends_then first.circle e first.quadrant first.inner first.outer quadrants w.quadrant w.inner w.outer left n last m h.leads (rw (← h.circle) ends)

-- ---- in the code's terms

not_ahead : (m n : ℕ) → int_le (neg_ℤ (pos m) -ℤ pos n) (pos 0) ≡ false → ⊥
not_ahead m n h = grind (arith, ints)

not_below : (a : ℕ) → int_le (negsuc a) (pos 0) ≡ false → ⊥
not_below a h = grind (arith, ints)

ahead_of : (ta tb : ℤ) (i o : ℕ) → int_le ta (pos 0) ≡ false → int_le (pos i *ℤ tb -ℤ pos o *ℤ ta) (pos 0) ≡ false
    → (ta ≡ pos (unsigned_abs ta)) × (tb ≡ pos (unsigned_abs tb))
ahead_of (pos a) (pos b) i o some going = (refl, refl)
ahead_of (pos a) (negsuc b) i o some going = absurd (not_ahead (i * suc b) (o * a) going)
ahead_of (negsuc a) tb i o some going = absurd (not_below a some)

-- an end is ahead if the arc is before it, and it isn't after the axis
pub ahead_is : (q : Quadrant) (i o : ℕ) (e t : PlanePoint) (m n : ℕ) → t ≡ turned q e → int_le t.a (pos 0) ≡ false
    → stops e 1 (point_of_quadrant q i o) ≡ false → m ≡ unsigned_abs t.a → n ≡ unsigned_abs t.b
    → turned q e ≡ (let there : PlanePoint = record { a = pos m; b = pos n } in there)
ahead_is q i o e t m n is some going em en =
    let crossing : cross (point_of_quadrant q i o) e ≡ pos i *ℤ t.b -ℤ pos o *ℤ t.a = sym (cross-place q i o e)
    ∙ ap (λ (s : PlanePoint). pos i *ℤ s.b -ℤ pos o *ℤ s.a) (sym is) in
    let sizes = ahead_of t.a t.b i o some (sym (ap (λ z. int_le z (pos 0)) crossing) ∙ sym (stops_last e (point_of_quadrant q i o)) ∙ going) in
    sym is ∙ same t.a t.b m n sizes.0 sizes.1 em en
  where
    same : (a b : ℤ) (m n : ℕ) → a ≡ pos (unsigned_abs a) → b ≡ pos (unsigned_abs b) → m ≡ unsigned_abs a → n ≡ unsigned_abs b
        → let p : PlanePoint = record { a = a; b = b } in let r : PlanePoint = record { a = pos m; b = pos n } in p ≡ r
    same a b m n f g h k = rw (h, k, ← f, ← g) refl

-- an arc that goes on in the last quadrant has one quadrant left
pub last_left : (e p : PlanePoint) (left : ℕ) → left ≤ 1 → stops e left p ≡ false → left ≡ 1
unfolding stops
last_left e p zero few going = absurd (cc)
last_left e p (suc zero) few going = refl
last_left e p (suc (suc left)) few going = absurd (omega arith)

pub stop_ends : (w w' : ArcWalk) (p : QuadrantSweep) (way : SweepSteps) (e : PlanePoint) (left n : ℕ) → Walks w
    → PassesFrom w p → StopsAt e w p way → left ≡ 1 → w'.quadrant ≡ w.quadrant → w'.inner ≡ inner_at p way.inward
    → w'.outer ≡ outer_at p way.outward → n ≡ way.inward + way.outward → EndsArc w.circle e w.quadrant w.inner w.outer left (spot_of w') n
stop_ends w w' p way e left n h from s one eq ei eo en =
    rw (one, eq, ei, eo, en) (ends_here w.circle e w.quadrant w.inner w.outer 1 w.quadrant (inner_at p way.inward)
    (outer_at p way.outward) 1 (way.inward + way.outward) (walk_stops w p way e h from s)
    (stops_past w.quadrant e s.ahead (inner_at p way.inward) (outer_at p way.outward) s.is_ahead s.first.past))

pub across_ends : (w w' : ArcWalk) (e : PlanePoint) (left n : ℕ) → left ≡ 1 → WalkLeads e w left w' (left - 1) n
    → EndsArc w.circle e w.quadrant w.inner w.outer left (spot_of w') n
across_ends w w' e left n one leads =
    let none : left - 1 ≡ 0 = omega arith in
    ends_here w.circle e w.quadrant w.inner w.outer left w'.quadrant w'.inner w'.outer (left - 1) n leads (rw none (stops_after_last e (spot_of w')))

pub stands_ends : (w : ArcWalk) (e : PlanePoint) (left : ℕ) → Walks w → stops e left (spot_of w) ≡ true
    → EndsArc w.circle e w.quadrant w.inner w.outer left (spot_of w) 0
stands_ends w e left h stop = ends_here w.circle e w.quadrant w.inner w.outer left w.quadrant w.inner w.outer left 0
    (leads_none w.circle e h.has h.bounded w.quadrant w.inner w.outer left h.sound) stop

-- a bound for the number of an arc's steps
pub few_steps : (w : ArcWalk) (quadrants : ℕ) → Walks w → quadrants ≤ 6 → budget beyond quadrants w.inner w.outer < 2 ^ 52
few_steps w quadrants h few =
    let inner = h.sound in
    let product = mul-le quadrants (2 * beyond + 1) 6 (2 * beyond + 1) few (omega arith) in
    omega (arith, inner.inner, inner.outer)
