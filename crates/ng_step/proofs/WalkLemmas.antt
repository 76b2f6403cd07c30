-- The differences that a walk keeps are those of its next point.
use Rattle.std.proofs.Common.{arith, ℕ, zero, suc, ◌+◌, ◌-◌, ◌*◌, ◌^◌, ◌<◌, ◌≤◌, ◌≡◌, refl, sym, ap, ◌∙◌, subst, ℤ, pos, negsuc, neg_ℤ, ◌+ℤ◌, ◌-ℤ◌, ◌*ℤ◌}
use Rattle.std.proofs.Common.{to_z, of_z}
use mir.Syntax.{w128}
use Rattle.std.proofs.lemmas.Int.{ints}
use Rattle.std.proofs.lemmas.Nat.{mul-le}
use Rattle.std.specs.Prelude.{unsigned_abs, ◌≤ℤ◌, ◌<ℤ◌, int_le}
use Rattle.ng_canon.specs.declared.quadrant.Quadrant.{Quadrant}
use Rattle.ng_canon.specs.declared.quadrant.Quadrant.TheVariants.{First, Second, Third, Fourth}
use Rattle.ng_step.specs.declared.circle.Circle.{Circle}
use Rattle.ng_canon.specs.declared.plane_point.PlanePoint.{PlanePoint}
use Rattle.ng_step.specs.declared.walk.ArcWalk.{ArcWalk}
use Rattle.ng_step.specs.declared.quadrant.PlaneStep.{PlaneStep}
use Rattle.ng_canon.specs.Plane.{cross}
use Rattle.ng_canon.specs.Quadrant.{quadrant_after}
use Rattle.ng_step.specs.Arcs.{inward, outward, larger, moved}
use Rattle.ng_step.specs.Turned.{turned, point_of_quadrant, in_step, out_step, norm, Sound, Walks, ArcStepSpec, farthest, beyond}
use Rattle.ng_step.proofs.TurnLemmas.{sound_outward, sound_inward, sound_crossing}
use Rattle.ng_step.proofs.QuadrantStepLemmas.{moved_inward, moved_crossing, moved_outward, next_outside, next_inside, step_outside, step_inside, in_step_le}
use Rattle.ng_canon.specs.declared.item.AxisStep.TheVariants.{Still}
use Rattle.ng_step.specs.declared.steps.AxisSteps.{AxisSteps}
use Rattle.ng_step.specs.Frame.{pulse_with}

-- the differences are far from the ends of their type
pub record Small (w : ArcWalk) : Type 0 where
  pub excess : unsigned_abs w.excess < 2 ^ 100
  pub inward : unsigned_abs w.inward < 2 ^ 100
  pub outward : unsigned_abs w.outward < 2 ^ 100
  pub inner_second : unsigned_abs w.inner_second < 2 ^ 100
  pub outer_second : unsigned_abs w.outer_second < 2 ^ 100
  pub outer : w.outer + w.outer_step < 2 ^ 50

abs_apart : (m n b : ℕ) (z : ℤ) → z ≡ pos m -ℤ pos n → m < b → n < b → unsigned_abs z < b
abs_apart m n b z e h k = grind (arith, ints)

abs_sum : (m n b : ℕ) (z : ℤ) → z ≡ pos m +ℤ pos n → m + n < b → unsigned_abs z < b
abs_sum m n b z e h = grind (arith, ints)

product_small : (m n : ℕ) → m ≤ 2 ^ 48 → n ≤ 2 ^ 48 → m * n ≤ 2 ^ 96
product_small m n h k = let product : m * n ≤ 2 ^ 48 * 2 ^ 48 = mul-le m n (2 ^ 48) (2 ^ 48) h k in omega arith

pub small : (w : ArcWalk) → Walks w → Small w
small w h =
    let inner_le : w.inner_step ≤ larger w.circle = rw h.inner_step (in_step_le w.circle w.quadrant) in
    let outer_le : w.outer_step ≤ larger w.circle = rw h.outer_step (in_step_le w.circle (quadrant_after w.quadrant)) in
    let step : larger w.circle ≤ 2 ^ 47 = omega (arith, h.bounded.fits) in
    let inner = h.sound.inner in
    let outer = h.sound.outer in
    let ii = product_small w.inner w.inner inner inner in
    let oo = product_small w.outer w.outer outer outer in
    let square : w.circle.square ≤ 2 ^ 96 = omega (arith, h.bounded.within) in
    let si = product_small w.inner_step w.inner_step (omega arith) (omega arith) in
    let so = product_small w.outer_step w.outer_step (omega arith) (omega arith) in
    let isi = product_small w.inner w.inner_step inner (omega arith) in
    let oso = product_small w.outer w.outer_step outer (omega arith) in
    record {
      excess = abs_apart (norm w.inner w.outer) w.circle.square (2 ^ 100) w.excess h.excess (omega arith) (omega arith);
      inward = abs_apart (w.inner_step * w.inner_step) (2 * (w.inner * w.inner_step)) (2 ^ 100) w.inward h.inward (omega arith) (omega arith);
      outward = abs_sum (w.outer_step * w.outer_step) (2 * (w.outer * w.outer_step)) (2 ^ 100) w.outward h.outward (omega arith);
      inner_second = rw h.inner_second (omega arith);
      outer_second = rw h.outer_second (omega arith);
      outer = omega arith;
    }

-- the pulse of a step of the plane, without a step of the third axis
abbrev pub flat : ArcWalk → PlaneStep → AxisSteps
flat w m = pulse_with w.frame m Still

abbrev pub after_outward : ArcWalk → ArcWalk
after_outward w = record w { excess = w.excess +ℤ w.outward; outward = w.outward +ℤ w.outer_second; outer = w.outer + w.outer_step }

abbrev pub after_inward : ArcWalk → ArcWalk
after_inward w = record w { excess = w.excess +ℤ w.inward; inward = w.inward +ℤ w.inner_second; inner = w.inner - w.inner_step }

abbrev pub after_crossing : ArcWalk → ArcWalk
after_crossing w = record {
  circle = w.circle;
  quadrant = quadrant_after w.quadrant;
  inner = w.outer;
  outer = w.inner_step - w.inner;
  inner_step = w.outer_step;
  outer_step = w.inner_step;
  excess = w.excess +ℤ w.inward;
  inward = w.outer_second -ℤ w.outward;
  outward = w.inward +ℤ w.inner_second;
  inner_second = w.outer_second;
  outer_second = w.inner_second;
  frame = w.frame;
  inward_made = flat w (inward (quadrant_after w.quadrant));
  outward_made = flat w (outward (quadrant_after w.quadrant));
}

inside_of : (w : ArcWalk) → Walks w → w.excess ≤ℤ pos 0 → norm w.inner w.outer ≤ w.circle.square
inside_of w h inside = let e = h.excess in omega (arith, ints)

outside_of : (w : ArcWalk) → Walks w → pos 0 <ℤ w.excess → w.circle.square < norm w.inner w.outer
outside_of w h outside = let e = h.excess in omega (arith, ints)

turn_turn : (c : Circle) (q : Quadrant) → out_step c (quadrant_after q) ≡ in_step c q
turn_turn c First = refl
turn_turn c Second = refl
turn_turn c Third = refl
turn_turn c Fourth = refl

pub outward_is : (w : ArcWalk) → Walks w → w.excess ≤ℤ pos 0 → ArcStepSpec w (after_outward w) (flat w (outward w.quadrant))
outward_is w h excess_low =
    let inside = inside_of w h excess_low in
    let outer_le : w.outer_step ≤ larger w.circle = rw h.outer_step (in_step_le w.circle (quadrant_after w.quadrant)) in
    let e = h.excess in let f = h.outward in let g = h.outer_second in
    record {
      walks = record {
        has = h.has;
        bounded = h.bounded;
        sound = sound_outward _ _ _ _ w.inner w.outer w.outer_step h.bounded inside outer_le h.sound;
        inward_made = h.inward_made;
        outward_made = h.outward_made;
        inner_step = h.inner_step;
        outer_step = h.outer_step;
        inner_second = h.inner_second;
        outer_second = h.outer_second;
        excess = omega (arith, ints);
        inward = h.inward;
        outward = omega (arith, ints);
      };
      frame = refl;
      step = ap (flat w) (sym (step_inside w.circle w.quadrant w.inner w.outer h.sound.some inside));
      spot = sym (next_inside w.circle w.quadrant w.inner w.outer h.sound.some inside ∙ moved_outward w.circle w.quadrant w.inner w.outer
          ∙ ap (λ s. point_of_quadrant w.quadrant w.inner (w.outer + s)) (sym h.outer_step));
      circle = refl;
    }

pub inward_is : (w : ArcWalk) → Walks w → pos 0 <ℤ w.excess → w.inner_step < w.inner → ArcStepSpec w (after_inward w) (flat w (inward w.quadrant))
inward_is w h excess_high far =
    let outside = outside_of w h excess_high in
    let j = w.inner - w.inner_step in
    let split : w.inner ≡ w.inner_step + j = omega arith in
    let e = h.excess in let f = h.inward in let g = h.inner_second in
    let square_split : w.inner * w.inner ≡ (w.inner_step + j) * (w.inner_step + j) = ap (λ x. x * x) split in
    let product_split : w.inner * w.inner_step ≡ (w.inner_step + j) * w.inner_step = ap (λ x. x * w.inner_step) split in
    record {
      walks = record {
        has = h.has;
        bounded = h.bounded;
        sound = sound_inward _ _ _ _ j w.outer w.inner_step (omega arith)
            (subst (λ x. Sound w.circle.square farthest (larger w.circle) beyond x w.outer) split h.sound);
        inward_made = h.inward_made;
        outward_made = h.outward_made;
        inner_step = h.inner_step;
        outer_step = h.outer_step;
        inner_second = h.inner_second;
        outer_second = h.outer_second;
        excess = excess_inward w.inner_step j w.inner w.outer w.circle.square split w.excess w.inward e f;
        inward = inward_inward w.inner_step j w.inner split w.inward w.inner_second f g;
        outward = h.outward;
      };
      frame = refl;
      step = ap (flat w) (sym (step_outside w.circle w.quadrant w.inner w.outer h.sound.some outside));
      spot = sym (next_outside w.circle w.quadrant w.inner w.outer h.sound.some outside
          ∙ ap (λ x. moved w.circle (inward w.quadrant) (point_of_quadrant w.quadrant x w.outer)) (split ∙ ap (λ s. s + j) h.inner_step)
          ∙ moved_inward w.circle w.quadrant j w.outer);
      circle = refl;
    }
  where
    excess_inward : (s j i o n : ℕ) → i ≡ s + j → (z d : ℤ) → z ≡ pos (norm i o) -ℤ pos n
        → d ≡ pos (s * s) -ℤ pos (2 * (i * s)) → z +ℤ d ≡ pos (norm j o) -ℤ pos n
    excess_inward s j i o n split z d e f =
        let one : i * i ≡ (s + j) * (s + j) = ap (λ x. x * x) split in
        let two : i * s ≡ (s + j) * s = ap (λ x. x * s) split in
        omega (arith, ints)

    inward_inward : (s j i : ℕ) → i ≡ s + j → (d g : ℤ) → d ≡ pos (s * s) -ℤ pos (2 * (i * s))
        → g ≡ pos (2 * (s * s)) → d +ℤ g ≡ pos (s * s) -ℤ pos (2 * (j * s))
    inward_inward s j i split d g f k =
        let two : i * s ≡ (s + j) * s = ap (λ x. x * s) split in
        omega (arith, ints)

pub crossing_is : (w : ArcWalk) → Walks w → pos 0 <ℤ w.excess → w.inner ≤ w.inner_step → ArcStepSpec w (after_crossing w) (flat w (inward w.quadrant))
crossing_is w h excess_high near =
    let outside = outside_of w h excess_high in
    let j = w.inner_step - w.inner in
    let split : w.inner_step ≡ w.inner + j = omega arith in
    let inner_le : w.inner_step ≤ larger w.circle = rw h.inner_step (in_step_le w.circle w.quadrant) in
    record {
      walks = record {
        has = h.has;
        bounded = h.bounded;
        sound = sound_crossing _ _ _ _ w.inner w.outer j h.bounded outside (omega arith) h.sound;
        inward_made = refl;
        outward_made = refl;
        inner_step = h.outer_step;
        outer_step = h.inner_step ∙ sym (turn_turn w.circle w.quadrant);
        inner_second = h.outer_second;
        outer_second = h.inner_second;
        excess = excess_crossing w.inner_step j w.inner w.outer w.circle.square split w.excess w.inward h.excess h.inward;
        inward = inward_crossing w.outer_step w.outer w.outward w.outer_second h.outward h.outer_second;
        outward = outward_crossing w.inner_step j w.inner split w.inward w.inner_second h.inward h.inner_second;
      };
      frame = refl;
      step = ap (flat w) (sym (step_outside w.circle w.quadrant w.inner w.outer h.sound.some outside));
      spot = sym (next_outside w.circle w.quadrant w.inner w.outer h.sound.some outside
          ∙ moved_crossing w.circle w.quadrant w.inner w.outer j (sym split ∙ h.inner_step));
      circle = refl;
    }
  where
    excess_crossing : (s j i o n : ℕ) → s ≡ i + j → (z d : ℤ) → z ≡ pos (norm i o) -ℤ pos n
        → d ≡ pos (s * s) -ℤ pos (2 * (i * s)) → z +ℤ d ≡ pos (norm o j) -ℤ pos n
    excess_crossing s j i o n split z d e f =
        let one : s * s ≡ (i + j) * (i + j) = ap (λ x. x * x) split in
        let two : i * s ≡ i * (i + j) = ap (λ x. i * x) split in
        omega (arith, ints)

    inward_crossing : (s o : ℕ) (d g : ℤ) → d ≡ pos (s * s) +ℤ pos (2 * (o * s)) → g ≡ pos (2 * (s * s)) → g -ℤ d ≡ pos (s * s) -ℤ pos (2 * (o * s))
    inward_crossing s o d g e f = omega (arith, ints)

    outward_crossing : (s j i : ℕ) → s ≡ i + j → (d g : ℤ) → d ≡ pos (s * s) -ℤ pos (2 * (i * s))
        → g ≡ pos (2 * (s * s)) → d +ℤ g ≡ pos (s * s) +ℤ pos (2 * (j * s))
    outward_crossing s j i split d g e f =
        let one : s * s ≡ (i + j) * s = ap (λ x. x * s) split in
        omega (arith, ints)

-- a number as a machine integer is the number
pub in_range : (z : ℤ) → unsigned_abs z < 2 ^ 100 → unsigned_abs (to_z w128 (of_z w128 z)) < 2 ^ 100
in_range z h = omega (arith, ints)

-- a step outward, in the code's terms
pub step_outward : (w : ArcWalk) (excess change : ℤ) (m : AxisSteps) → Walks w → w.excess ≤ℤ pos 0 → m ≡ flat w (outward w.quadrant)
    → excess ≡ w.excess +ℤ w.outward → change ≡ w.outward +ℤ w.outer_second
    → ArcStepSpec w (record w { excess = excess; outward = change; outer = w.outer + w.outer_step }) m
step_outward w excess change m h low is e f = rw (is, e, f) (outward_is w h low)

pub step_inward : (w : ArcWalk) (excess change : ℤ) (m : AxisSteps) → Walks w → pos 0 <ℤ w.excess → w.inner_step < w.inner → m ≡ flat w (inward w.quadrant)
    → excess ≡ w.excess +ℤ w.inward → change ≡ w.inward +ℤ w.inner_second
    → ArcStepSpec w (record w { excess = excess; inward = change; inner = w.inner - w.inner_step }) m
step_inward w excess change m h high far is e f = rw (is, e, f) (inward_is w h high far)

pub step_crossing : (w : ArcWalk) (q : Quadrant) (excess change back first second : ℤ)
    (m in_made out_made : AxisSteps) → Walks w → pos 0 <ℤ w.excess → w.inner ≤ w.inner_step
    → m ≡ flat w (inward w.quadrant)
    → q ≡ quadrant_after w.quadrant → excess ≡ w.excess +ℤ w.inward → change ≡ w.outer_second -ℤ w.outward → back ≡ w.inward +ℤ w.inner_second
    → first ≡ w.outer_second → second ≡ w.inner_second → in_made ≡ flat w (inward q) → out_made ≡ flat w (outward q)
    → ArcStepSpec w (record {
      circle = w.circle;
      quadrant = q;
      inner = w.outer;
      outer = w.inner_step - w.inner;
      inner_step = w.outer_step;
      outer_step = w.inner_step;
      excess = excess;
      inward = change;
      outward = back;
      inner_second = first;
      outer_second = second;
      frame = w.frame;
      inward_made = in_made;
      outward_made = out_made;
    }) m
step_crossing w q excess change back first second m in_made out_made h high near is turned e f g k l i o =
    rw (is, i, o, turned, e, f, g, k, l) (crossing_is w h high near)

-- ---- past the end

mul_neg_right : (i : ℕ) (z : ℤ) → pos i *ℤ neg_ℤ z ≡ neg_ℤ (pos i *ℤ z)
mul_neg_right i (pos zero) = grind (arith, ints)
mul_neg_right i (pos (suc n)) = refl
mul_neg_right i (negsuc n) = grind (arith, ints)

mul_neg_left : (i : ℕ) (z : ℤ) → neg_ℤ (pos i) *ℤ z ≡ neg_ℤ (pos i *ℤ z)
mul_neg_left zero (pos n) = grind (arith, ints)
mul_neg_left zero (negsuc n) = grind (arith, ints)
mul_neg_left (suc i) (pos n) = refl
mul_neg_left (suc i) (negsuc n) = grind (arith, ints)

le_as_difference : (x y z : ℤ) → x -ℤ y ≡ z → int_le x y ≡ int_le z (pos 0)
le_as_difference x y z h = grind (arith, ints)

pub cross-place : (q : Quadrant) (i o : ℕ) (e : PlanePoint) → pos i *ℤ (turned q e).b -ℤ pos o *ℤ (turned q e).a ≡ cross (point_of_quadrant q i o) e
cross-place First i o e = refl
cross-place Second i o e = simp (mul_neg_right, mul_neg_left) (omega (arith, ints))
cross-place Third i o e = simp (mul_neg_right, mul_neg_left) (omega (arith, ints))
cross-place Fourth i o e = simp (mul_neg_right, mul_neg_left) (omega (arith, ints))

pub past_is : (q : Quadrant) (i o : ℕ) (e t : PlanePoint) (x y : ℤ) → t ≡ turned q e → x ≡ pos i *ℤ t.b → y ≡ pos o *ℤ t.a
    → int_le x y ≡ int_le (cross (point_of_quadrant q i o) e) (pos 0)
past_is q i o e t x y is f g = le_as_difference x y (cross (point_of_quadrant q i o) e) (rw (f, g, is) (cross-place q i o e))
