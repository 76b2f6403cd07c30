-- The pulses of an arc (own): its steps and those of the third axis, spread over as many pulses as the larger of the
-- two numbers.
use Rattle.std.specs.Prelude.{ℕ, zero, suc, ◌-◌, max, ℤ, pos, unsigned_abs, int_le, Bool, true, List, [], ◌∷◌, length}
use Rattle.ng_step.specs.declared.circle.Circle.{Circle}
use Rattle.ng_canon.specs.declared.plane_point.PlanePoint.{PlanePoint}
use Rattle.ng_step.specs.declared.quadrant.PlaneStep.{PlaneStep}
use Rattle.ng_step.specs.declared.frame.Frame.{Frame}
use Rattle.ng_step.specs.Frame.{pulse_with, pulse_without}
use Rattle.ng_step.specs.declared.steps.AxisSteps.{AxisSteps}
use Rattle.ng_canon.specs.declared.item.AxisStep.{AxisStep}
use Rattle.ng_canon.specs.declared.item.AxisStep.TheVariants.{Backward, Still, Forward}
use Rattle.ng_step.specs.Arcs.{step_at, next_spot}
use Rattle.ng_step.specs.Line.{axis_step}

-- in a pulse in which the arc moves, the next of its remaining steps
abbrev pub taking : Frame → AxisStep → List PlaneStep → AxisStep → AxisSteps
taking frame Still ms third = pulse_without frame third
taking frame Forward (m ∷ ms) third = pulse_with frame m third
taking frame _ _ third = pulse_without frame third

abbrev pub taken : AxisStep → List PlaneStep → List PlaneStep
taken Still ms = ms
taken _ [] = []
taken _ (m ∷ ms) = ms

-- the last `left` of n pulses; ms are the arc steps still to be made, of `count` in all, and the third axis makes d
-- steps in all
abbrev pub interleaved : Frame → ℕ → ℕ → Bool → ℕ → List PlaneStep → ℕ → List AxisSteps
interleaved frame n count forward d ms zero = []
interleaved frame n count forward d ms (suc left) =
    taking frame (axis_step n true count (n - suc left)) ms (axis_step n forward d (n - suc left))
    ∷ interleaved frame n count forward d (taken (axis_step n true count (n - suc left)) ms) left

-- an arc's pulses before the closing line, given its steps
abbrev pub arc_pulses : Frame → List PlaneStep → ℤ → List AxisSteps
arc_pulses frame ms d = interleaved frame (max (length ms) (unsigned_abs d)) (length ms) (int_le (pos 0) d)
    (unsigned_abs d) ms (max (length ms) (unsigned_abs d))

-- an arc's pulses, with the steps by the rule instead of a list
abbrev pub walking : Frame → AxisStep → Circle → PlanePoint → AxisStep → AxisSteps
walking frame Still c p third = pulse_without frame third
walking frame Forward c p third = pulse_with frame (step_at c p) third
walking frame Backward c p third = pulse_without frame third

abbrev pub walked : AxisStep → Circle → PlanePoint → PlanePoint
walked Still c p = p
walked Forward c p = next_spot c p
walked Backward c p = p

abbrev pub pulses_from : Frame → ℕ → ℕ → Bool → ℕ → Circle → PlanePoint → ℕ → List AxisSteps
pulses_from frame n count forward d c p zero = []
pulses_from frame n count forward d c p (suc left) =
    walking frame (axis_step n true count (n - suc left)) c p (axis_step n forward d (n - suc left))
    ∷ pulses_from frame n count forward d c (walked (axis_step n true count (n - suc left)) c p) left
