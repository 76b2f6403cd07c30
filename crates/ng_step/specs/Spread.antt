-- The invariant of an axis on a line (own).
use Rattle.std.specs.Prelude.{◌≡◌, ℕ, ◌+◌, ◌*◌, ◌<◌, ◌≤◌}
use Rattle.ng_step.specs.declared.spread.Spread.{Spread}
use Rattle.ng_canon.specs.declared.item.AxisStep.{AxisStep}
use Rattle.ng_step.specs.Line.{made, axis_step}

-- the error after k of n pulses, for a distance d
pub record Holds (n d k error : ℕ) : Type 0 where
  pub small : error < 2 * n
  pub is : 2 * k * d + n ≡ made n d k * (2 * n) + error

-- the state of the axis after pulse k of n
pub record IsSpread (n : ℕ) (k : ℕ) (a : Spread) : Type 0 where
  pub most : a.count ≤ n
  pub twice : a.twice ≡ 2 * a.count
  pub error : Holds n a.count k a.error

-- the axis has made a step of the line
pub record SpreadStepSpec (whole : ℕ) (a a' : Spread) (t : AxisStep) : Type 0 where
  pub step : (n k : ℕ) → whole ≡ 2 * n → IsSpread n k a → t ≡ axis_step n a.forward a.count k
  pub axis : (n k : ℕ) → whole ≡ 2 * n → IsSpread n k a → IsSpread n (k + 1) a'
  pub count : a'.count ≡ a.count
  pub forward : a'.forward ≡ a.forward
