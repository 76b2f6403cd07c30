-- An arc's pulses, from a list of steps and from the rule.
use Rattle.std.proofs.Common.{arith, ℕ, zero, suc, ◌+◌, ◌-◌, ◌^◌, ◌<◌, ◌≤◌, ◌≡◌, inl, inr, refl, sym, ap, ◌∙◌, ℤ, pos, Bool, true, List, [], ◌∷◌, length, max}
use Rattle.std.proofs.Common.{to_z}
use mir.Syntax.{w64}
use Rattle.std.proofs.lemmas.Int.{ints}
use Rattle.std.proofs.lemmas.Bool.{cases_lt}
use Rattle.std.specs.Prelude.{unsigned_abs, int_le}
use Rattle.ng_step.specs.declared.circle.Circle.{Circle}
use Rattle.ng_canon.specs.declared.plane_point.PlanePoint.{PlanePoint}
use Rattle.ng_step.specs.declared.walk.ArcWalk.{ArcWalk}
use Rattle.ng_step.specs.declared.quadrant.PlaneStep.{PlaneStep}
use Rattle.ng_step.specs.declared.steps.AxisSteps.{AxisSteps}
use Rattle.ng_step.specs.declared.spread.Spread.{Spread}
use Rattle.ng_canon.specs.declared.item.AxisStep.{AxisStep}
use Rattle.ng_canon.specs.declared.item.AxisStep.TheVariants.{Backward, Still, Forward}
use Rattle.ng_step.specs.declared.arc.ArcPulses.TheInside.{Inside}
use Rattle.ng_step.specs.Arcs.{step_at, next_spot, IsArc, left_after}
use Rattle.ng_step.specs.Turned.{spot_of, ArcStepSpec}
use Rattle.ng_step.specs.Line.{axis_step, made, step_toward}
use Rattle.ng_step.specs.Spread.{SpreadStepSpec}
use Rattle.ng_step.specs.declared.frame.Frame.{Frame}
use Rattle.ng_canon.specs.declared.plane.Plane.{Plane}
use Rattle.ng_canon.specs.declared.plane.Plane.TheVariants.{Xy, Xz, Yz}
use Rattle.ng_step.specs.Frame.{pulse_of, pulse_with, pulse_without, with_third, on_a, on_b, mirrored_step}
use Rattle.ng_step.specs.Arc.{taking, taken, interleaved, arc_pulses, walking, walked, pulses_from}
use Rattle.ng_step.specs.ArcInvariant.{arc_left, IsArcLeft}
use Rattle.ng_step.proofs.LineStepLemmas.{made_more, made_le, made_none, axis_left}

pub pulses_from_more : (frame : Frame) (n count : ℕ) (forward : Bool) (d : ℕ) (c : Circle) (p : PlanePoint) (left : ℕ) → 0 < left
    → pulses_from frame n count forward d c p left ≡ walking frame (axis_step n true count (n - left)) c p (axis_step n forward d (n - left))
    ∷ pulses_from frame n count forward d c (walked (axis_step n true count (n - left)) c p) (left - 1)
pulses_from_more frame n count forward d c p zero some = absurd (omega arith)
pulses_from_more frame n count forward d c p (suc left) some = let less : suc left - 1 ≡ left = omega arith in rw less refl

-- a pulse in which the arc makes no step
pub rest_keeps : (a : Inside) (arc third : Spread) (i j : AxisStep) → IsArcLeft a → 0 < a.left
    → SpreadStepSpec a.whole a.arc arc i → SpreadStepSpec a.whole a.third third j
    → IsArcLeft (record a { left = a.left - 1; arc = arc; third = third })
rest_keeps a arc third i j h some sa st = record {
  whole = h.whole;
  small = h.small;
  left = (let le = h.left in omega arith);
  walks = h.walks;
  onward = sa.forward ∙ h.onward;
  arc = λ more. axis_left a.total a.left arc some h.left (sa.axis a.total (a.total - a.left) h.whole (h.arc some));
  third = λ more. axis_left a.total a.left third some h.left (st.axis a.total (a.total - a.left) h.whole (h.third some));
}

pub rest_next : (a : Inside) (arc third : Spread) (i j : AxisStep) (p : AxisSteps) → IsArcLeft a → 0 < a.left
    → SpreadStepSpec a.whole a.arc arc i → SpreadStepSpec a.whole a.third third j
    → i ≡ Still → p ≡ pulse_without a.walk.frame j
    → arc_left a ≡ p ∷ arc_left (record a { left = a.left - 1; arc = arc; third = third })
rest_next a arc third i j p h some sa st still is =
    let first = pulses_from_more a.walk.frame a.total a.arc.count a.third.forward a.third.count a.walk.circle (spot_of a.walk) a.left some in
    let onward = h.onward in
    let ei : i ≡ axis_step a.total true a.arc.count (a.total - a.left) = sa.step a.total (a.total - a.left) h.whole
    (h.arc some) ∙ ap (λ f. axis_step a.total f a.arc.count (a.total - a.left)) onward in
    let rests : axis_step a.total true a.arc.count (a.total - a.left) ≡ Still = sym ei ∙ still in
    let ej = st.step a.total (a.total - a.left) h.whole (h.third some) in
    first ∙ rw (rests, is, ej, sa.count, st.count, st.forward) refl

-- a pulse with a step of the arc
pub step_keeps : (a : Inside) (walk : ArcWalk) (arc third : Spread) (i j : AxisStep) (made : AxisSteps)
    → IsArcLeft a → 0 < a.left → SpreadStepSpec a.whole a.arc arc i → SpreadStepSpec a.whole a.third third j
    → ArcStepSpec a.walk walk made → IsArcLeft (record a { left = a.left - 1; arc = arc; third = third; walk = walk })
step_keeps a walk arc third i j made h some sa st s = record {
  whole = h.whole;
  small = h.small;
  left = (let le = h.left in omega arith);
  walks = s.walks;
  onward = sa.forward ∙ h.onward;
  arc = λ more. axis_left a.total a.left arc some h.left (sa.axis a.total (a.total - a.left) h.whole (h.arc some));
  third = λ more. axis_left a.total a.left third some h.left (st.axis a.total (a.total - a.left) h.whole (h.third some));
}

step_forward : (m : ℕ) → (step_toward true m ≡ Still → ⊥) → step_toward true m ≡ Forward
step_forward zero h = absurd (h refl)
step_forward (suc m) h = refl

onward_step : (n d k : ℕ) → (axis_step n true d k ≡ Still → ⊥) → axis_step n true d k ≡ Forward
unfolding axis_step
onward_step n d k h = step_forward (made n d (k + 1) - made n d k) h

pub third_set : (plane : Plane) (a b third : AxisStep) → with_third plane (pulse_of plane a b Still) third ≡ pulse_of plane a b third
third_set Xy a b Backward = refl
third_set Xy a b Still = refl
third_set Xy a b Forward = refl
third_set Xz a b Backward = refl
third_set Xz a b Still = refl
third_set Xz a b Forward = refl
third_set Yz a b Backward = refl
third_set Yz a b Still = refl
third_set Yz a b Forward = refl

pub step_next : (a : Inside) (walk : ArcWalk) (arc third : Spread) (i j : AxisStep) (made p : AxisSteps)
    → IsArcLeft a → 0 < a.left → SpreadStepSpec a.whole a.arc arc i → SpreadStepSpec a.whole a.third third j
    → ArcStepSpec a.walk walk made → (i ≡ Still → ⊥) → p ≡ with_third a.walk.frame.plane made j
    → arc_left a ≡ p ∷ arc_left (record a { left = a.left - 1; arc = arc; third = third; walk = walk })
step_next a walk arc third i j made p h some sa st s moves is =
    let first = pulses_from_more a.walk.frame a.total a.arc.count a.third.forward a.third.count a.walk.circle (spot_of a.walk) a.left some in
    let onward = h.onward in
    let ei : i ≡ axis_step a.total true a.arc.count (a.total - a.left) = sa.step a.total (a.total - a.left) h.whole
    (h.arc some) ∙ ap (λ f. axis_step a.total f a.arc.count (a.total - a.left)) onward in
    let goes : axis_step a.total true a.arc.count (a.total - a.left) ≡ Forward = onward_step a.total a.arc.count (a.total - a.left) (λ e. moves (ei ∙ e)) in
    let ej = st.step a.total (a.total - a.left) h.whole (h.third some) in
    let same : p ≡ pulse_with a.walk.frame (step_at a.walk.circle (spot_of a.walk)) j =
    is ∙ ap (λ (q : AxisSteps). with_third a.walk.frame.plane q j) s.step
    ∙ third_set a.walk.frame.plane (on_a (step_at a.walk.circle (spot_of a.walk)))
    (mirrored_step a.walk.frame.turn (on_b (step_at a.walk.circle (spot_of a.walk)))) j in
    first ∙ rw (goes, same, ej, sa.count, st.count, st.forward, s.circle, s.spot, s.frame) refl

pub onward_count : (n : ℕ) (b : Bool) → n < 2 ^ 60 → b ≡ int_le (pos 0) (to_z w64 n) → b ≡ true
onward_count n b h e = let same : to_z w64 n ≡ pos n = omega (arith, ints) in rw (e, same) (grind (arith, ints))

-- ---- the code's pulses are those of the list of steps

abbrev pub Follows : Circle → PlanePoint → List PlaneStep → Type 0
Follows c p [] = Unit {0}
Follows c p (m ∷ ms) = (m ≡ step_at c p) × Follows c (next_spot c p) ms

pub follows : (c : Circle) (e : PlanePoint) (left : ℕ) (p : PlanePoint) (ms : List PlaneStep) → IsArc c e left p ms → Follows c p ms
follows c e left p [] h = tt
follows c e left p (m ∷ ms) h = (h.1, follows c e (left_after c left p) (next_spot c p) ms h.2)

-- the effect of one pulse on both
same_pulse : (frame : Frame) (c : Circle) (p : PlanePoint) (ms : List PlaneStep) (third : AxisStep)
    (count before after : ℕ) → before ≤ after → after ≤ before + 1 → after ≤ count
    → length ms ≡ count - before → Follows c p ms
    → (walking frame (step_toward true (after - before)) c p third ≡ taking frame (step_toward true (after - before)) ms third)
    × Follows c (walked (step_toward true (after - before)) c p) (taken (step_toward true (after - before)) ms)
    × (length (taken (step_toward true (after - before)) ms) ≡ count - after)
same_pulse frame c p ms third count before after le more most len f = elim (cases_lt before after) [
  | inl step ↦ (let one : after - before ≡ 1 = omega arith in rw one (stepping frame c p ms third count before after (omega arith) most len f))
  | inr rest ↦ (let none : after - before ≡ 0 = omega arith in rw none (refl, f, omega arith))
]
  where
    stepping : (frame : Frame) (c : Circle) (p : PlanePoint) (ms : List PlaneStep) (third : AxisStep)
        (count before after : ℕ) → after ≡ before + 1 → after ≤ count → length ms ≡ count - before → Follows c p ms
        → (walking frame (step_toward true 1) c p third ≡ taking frame (step_toward true 1) ms third)
        × Follows c (walked (step_toward true 1) c p) (taken (step_toward true 1) ms)
        × (length (taken (step_toward true 1) ms) ≡ count - after)
    stepping frame c p [] third count before after is most len f = absurd (omega arith)
    stepping frame c p (m ∷ ms) third count before after is most len f = (ap (λ x. pulse_with frame x third) (sym f.0), f.1, omega arith)

pub pulses_are : (frame : Frame) (n count : ℕ) (forward : Bool) (d : ℕ) (c : Circle) (p : PlanePoint) (ms : List PlaneStep) (left : ℕ) → count ≤ n → left ≤ n
    → length ms ≡ count - made n count (n - left) → Follows c p ms → pulses_from frame n count forward d c p left ≡ interleaved frame n count forward d ms left
unfolding axis_step
pulses_are frame n count forward d c p ms zero le small len f = refl
pulses_are frame n count forward d c p ms (suc left) le small len f =
    let k = n - suc left in
    let e : k + 1 ≡ n - left = omega arith in
    let more = made_more n count k (omega arith) le in
    let most : made n count (k + 1) ≤ count = made_le n count (k + 1) (omega arith) (omega arith) in
    let s = same_pulse frame c p ms (axis_step n forward d k) count (made n count k) (made n count (k + 1)) more.0 more.1 most len f in
    let len' : length (taken (axis_step n true count k) ms) ≡ count - made n count (n - left) = s.2 ∙ ap (λ x. count - made n count x) e in
    let others = pulses_are frame n count forward d c (walked (axis_step n true count k) c p)
    (taken (axis_step n true count k) ms) left le (omega arith) len' s.1 in
    rw (s.0, others) refl

-- the code's pulses for the count of an arc's steps are the pulses of these steps
pub pulses_of : (frame : Frame) (c : Circle) (e : PlanePoint) (left : ℕ) (p : PlanePoint) (ms : List PlaneStep) (d : ℤ) → IsArc c e left p ms
    → pulses_from frame (max (length ms) (unsigned_abs d)) (length ms) (int_le (pos 0) d) (unsigned_abs d) c p
    (max (length ms) (unsigned_abs d)) ≡ arc_pulses frame ms d
pulses_of frame c e left p ms d arc = of_total frame (max (length ms) (unsigned_abs d)) c p ms (int_le (pos 0) d)
    (unsigned_abs d) (omega arith) (follows c e left p ms arc)
  where
    of_total : (frame : Frame) (n : ℕ) (c : Circle) (p : PlanePoint) (ms : List PlaneStep) (forward : Bool) (d : ℕ) → length ms ≤ n → Follows c p ms
        → pulses_from frame n (length ms) forward d c p n ≡ interleaved frame n (length ms) forward d ms n
    of_total frame zero c p ms forward d le f = refl
    of_total frame (suc n) c p ms forward d le f =
        let none : suc n - suc n ≡ 0 = omega arith in
        let start = made_none (suc n) (length ms) (omega arith) in
        pulses_are frame (suc n) (length ms) forward d c p ms (suc n) le (omega arith) (rw (none, start) (omega arith)) f
