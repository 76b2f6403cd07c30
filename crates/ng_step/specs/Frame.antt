-- The axes of an arc's plane (NISTIR 6556, 3.5.6), and the side from which an arc is seen (own).
use Rattle.std.specs.Prelude.{ℤ, neg_ℤ}
use Rattle.ng_canon.specs.declared.item.AxisStep.{AxisStep}
use Rattle.ng_canon.specs.declared.item.AxisStep.TheVariants.{Backward, Still, Forward}
use Rattle.ng_canon.specs.declared.plane.Plane.{Plane}
use Rattle.ng_canon.specs.declared.plane.Plane.TheVariants.{Xy, Xz, Yz}
use Rattle.ng_canon.specs.declared.plane.ArcDirection.{ArcDirection}
use Rattle.ng_canon.specs.declared.plane.ArcDirection.TheVariants.{Clockwise, Counterclockwise}
use Rattle.ng_step.specs.declared.frame.Frame.{Frame}
use Rattle.ng_step.specs.declared.steps.AxisSteps.{AxisSteps}
use Rattle.ng_step.specs.declared.quadrant.PlaneStep.{PlaneStep}
use Rattle.ng_step.specs.declared.quadrant.PlaneStep.TheVariants.{AddA, SubA, AddB, SubB}

-- of three values for X, Y and Z: the one for the axis perpendicular to the plane
abbrev pub of_third : {A : Type 0} → Plane → A → A → A → A
of_third Xy x y z = z
of_third Xz x y z = y
of_third Yz x y z = x

-- and back: of three values for a, b and the third axis, the one for X
abbrev pub at_x : {A : Type 0} → Plane → A → A → A → A
at_x Xy a b third = a
at_x Xz a b third = b
at_x Yz a b third = third

-- the one for Y
abbrev pub at_y : {A : Type 0} → Plane → A → A → A → A
at_y Xy a b third = b
at_y Xz a b third = third
at_y Yz a b third = a

-- the one for Z
abbrev pub at_z : {A : Type 0} → Plane → A → A → A → A
at_z Xy a b third = third
at_z Xz a b third = a
at_z Yz a b third = b

-- a clockwise arc is a counterclockwise one with b negated
abbrev pub mirrored : ArcDirection → ℤ → ℤ
mirrored Counterclockwise b = b
mirrored Clockwise b = neg_ℤ b

abbrev pub mirrored_step : ArcDirection → AxisStep → AxisStep
mirrored_step Counterclockwise s = s
mirrored_step Clockwise Backward = Forward
mirrored_step Clockwise Still = Still
mirrored_step Clockwise Forward = Backward

-- the step on axis a
abbrev pub on_a : PlaneStep → AxisStep
on_a AddA = Forward
on_a SubA = Backward
on_a AddB = Still
on_a SubB = Still

-- the step on axis b
abbrev pub on_b : PlaneStep → AxisStep
on_b AddA = Still
on_b SubA = Still
on_b AddB = Forward
on_b SubB = Backward

-- a pulse of the machine's axes, from the steps of the plane's axes and the third axis
abbrev pub pulse_of : Plane → AxisStep → AxisStep → AxisStep → AxisSteps
pulse_of plane a b third = record { x = at_x plane a b third; y = at_y plane a b third; z = at_z plane a b third }

-- a pulse with this step of the arc and this step of the third axis
abbrev pub pulse_with : Frame → PlaneStep → AxisStep → AxisSteps
pulse_with frame m third = pulse_of frame.plane (on_a m) (mirrored_step frame.turn (on_b m)) third

-- a pulse in which the third axis makes no step yet, with the third axis's step added
abbrev pub with_third : Plane → AxisSteps → AxisStep → AxisSteps
with_third plane flat Still = flat
with_third Xy flat third = record { x = flat.x; y = flat.y; z = third }
with_third Xz flat third = record { x = flat.x; y = third; z = flat.z }
with_third Yz flat third = record { x = third; y = flat.y; z = flat.z }

-- a pulse in which the arc makes no step
abbrev pub pulse_without : Frame → AxisStep → AxisSteps
pulse_without frame third = pulse_of frame.plane Still Still third
