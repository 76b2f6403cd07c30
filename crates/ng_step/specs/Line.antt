-- The steps of a line (own).
use Rattle.std.specs.Prelude.{ℕ, zero, suc, ◌+◌, ◌-◌, ◌*◌, ◌/◌, max, ℤ, pos, ◌+ℤ◌, ◌-ℤ◌, ◌*ℤ◌, ◌≤ℤ◌, unsigned_abs}
use Rattle.std.specs.Prelude.{int_lt, int_le, Bool, true, false, if◌then◌else◌, List, [], ◌∷◌}
use Rattle.ng_num.specs.Rounding.{near}
use Rattle.ng_step.specs.declared.steps.Distances.{Distances}
use Rattle.ng_step.specs.declared.steps.AxisSteps.{AxisSteps}
use Rattle.ng_canon.specs.declared.item.AxisStep.{AxisStep}
use Rattle.ng_canon.specs.declared.item.AxisStep.TheVariants.{Backward, Still, Forward}

-- how many of d steps an axis has made after pulse k of n
unfoldable pub made : ℕ → ℕ → ℕ → ℕ
made n d k = (2 * k * d + n) / (2 * n)

-- a coordinate this many steps from a towards z
abbrev pub toward : ℤ → ℤ → ℕ → ℤ
toward a z k = if int_lt z a then a -ℤ pos k else a +ℤ pos k

-- the coordinate after pulse k of n, on a line from a to z, in steps
unfoldable pub point_on_line : ℕ → ℤ → ℤ → ℕ → ℤ
point_on_line n a z k = toward a z (made n (unsigned_abs (z -ℤ a)) k)

-- a coordinate in steps
unfoldable pub in_steps : ℤ → ℕ → ℤ
in_steps p s = near p s

-- a coordinate in steps is within a travel that is extended by half a step at both ends; everything is doubled
abbrev pub IsByHalfIn : ℤ → ℤ → ℕ → ℤ → Type 0
IsByHalfIn low high s p = ((low *ℤ pos 2 -ℤ pos s) ≤ℤ (p *ℤ pos s *ℤ pos 2)) × ((p *ℤ pos s *ℤ pos 2) ≤ℤ (high *ℤ pos 2 +ℤ pos s))

-- the step of an axis that makes this many steps in a pulse
abbrev pub step_toward : Bool → ℕ → AxisStep
step_toward forward zero = Still
step_toward true (suc m) = Forward
step_toward false (suc m) = Backward

-- the step in pulse k + 1 of n of an axis that has d steps to make
unfoldable pub axis_step : ℕ → Bool → ℕ → ℕ → AxisStep
axis_step n forward d k = step_toward forward (made n d (k + 1) - made n d k)

-- the step in pulse k + 1 of n, on a line over this distance
abbrev pub line_step : ℕ → ℤ → ℕ → AxisStep
line_step n d k = axis_step n (int_le (pos 0) d) (unsigned_abs d) k

abbrev pub line_pulse : ℕ → Distances → ℕ → AxisSteps
line_pulse n d k = record { x = line_step n d.x k; y = line_step n d.y k; z = line_step n d.z k }

-- the last `left` of n pulses
abbrev pub line_from : ℕ → Distances → ℕ → List AxisSteps
line_from n d zero = []
line_from n d (suc left) = line_pulse n d (n - suc left) ∷ line_from n d left

-- the largest number of steps of an axis
abbrev pub largest : Distances → ℕ
largest d = max (max (unsigned_abs d.x) (unsigned_abs d.y)) (unsigned_abs d.z)

-- the pulses of a line
unfoldable pub line_pulses : Distances → List AxisSteps
line_pulses d = line_from (largest d) d (largest d)
