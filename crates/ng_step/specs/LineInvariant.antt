-- The pulses of a line as a model (own).
use Rattle.std.specs.Prelude.{◌≡◌, ℕ, zero, suc, ◌-◌, ◌*◌, ◌^◌, ◌<◌, ◌≤◌, List, [], ◌∷◌}
use Rattle.ng_step.specs.declared.steps.AxisSteps.{AxisSteps}
use Rattle.ng_canon.specs.declared.item.AxisStep.{AxisStep}
use Rattle.ng_step.specs.declared.spread.Spread.{Spread}
use Rattle.ng_step.specs.declared.line.LinePulses.TheInside.{Inside}
use Rattle.ng_step.specs.Line.{axis_step}
use Rattle.ng_step.specs.Spread.{IsSpread}

abbrev pub spread_step : ℕ → Spread → ℕ → AxisStep
spread_step n a k = axis_step n a.forward a.count k

-- the last `left` of n pulses of three axes
abbrev pub axes_from : ℕ → Spread → Spread → Spread → ℕ → List AxisSteps
axes_from n x y z zero = []
axes_from n x y z (suc left) = record {
  x = spread_step n x (n - suc left);
  y = spread_step n y (n - suc left);
  z =
      spread_step n z (n - suc left);
} ∷ axes_from n x y z left

abbrev pub pulses_left : Inside → List AxisSteps
pulses_left a = axes_from a.total a.x a.y a.z a.left

pub record IsLineInvariant (a : Inside) : Type 0 where
  pub whole : a.whole ≡ 2 * a.total
  pub small : a.total < 2 ^ 61
  pub left : a.left ≤ a.total
  pub x : 0 < a.left → IsSpread a.total (a.total - a.left) a.x
  pub y : 0 < a.left → IsSpread a.total (a.total - a.left) a.y
  pub z : 0 < a.left → IsSpread a.total (a.total - a.left) a.z
