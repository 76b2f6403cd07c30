-- How pulses go (own). Of an axis what counts of a pulse is its step.
use Rattle.std.specs.Prelude.{ℕ, ◌+◌, ◌*◌, ◌<◌, ◌≤◌, ◌⊎◌, List, [], ◌∷◌, length, take}
use Rattle.std.specs.Int.{abs_diff}
use Rattle.ng_canon.specs.declared.item.AxisStep.{AxisStep}
use Rattle.ng_canon.specs.declared.item.AxisStep.TheVariants.{Backward, Still, Forward}

-- steps forward along an axis
abbrev pub forward : List AxisStep → ℕ
forward [] = 0
forward (Forward ∷ rest) = 1 + forward rest
forward (Still ∷ rest) = forward rest
forward (Backward ∷ rest) = forward rest

-- steps backward
abbrev pub backward : List AxisStep → ℕ
backward [] = 0
backward (Forward ∷ rest) = backward rest
backward (Still ∷ rest) = backward rest
backward (Backward ∷ rest) = 1 + backward rest

-- a slope: so many steps forward and so many backward over so many pulses
pub record Slope : Type 0 where
  pub up : ℕ
  pub down : ℕ
  pub over : ℕ

-- an axis slows from one slope to another: it goes on the same way, and no faster
abbrev pub IsSlower : Slope → Slope → Type 0
IsSlower before after = ((after.down ≤ after.up) × (after.up * before.over + before.down * after.over ≤ after.down * before.over + before.up * after.over))
    ⊎ ((after.up ≤ after.down) × (after.down * before.over + before.up * after.over ≤ after.up * before.over + before.down * after.over))

-- no more than a step a pulse
pub record IsSlope (slope : Slope) : Type 0 where
  pub some : 0 < slope.over
  pub up : slope.up ≤ slope.over + slope.down
  pub down : slope.down ≤ slope.over + slope.up

-- the slope of the straight line from the first to the last of some pulses
abbrev pub slope_of : List AxisStep → Slope
slope_of steps = record { up = forward steps; down = backward steps; over = length steps }

-- an axis is near a straight line of this slope: after none of the pulses it is off by more than the slack
abbrev pub IsNear : ℕ → Slope → List AxisStep → Type 0
IsNear slack slope steps = (k : ℕ) → k ≤ length steps
    → abs_diff (forward (take k steps) * slope.over + slope.down * k) (backward (take k steps) * slope.over + slope.up * k) ≤ slack * slope.over

-- an axis goes straight: it is near the line from the first pulse to the last
abbrev pub IsStraight : ℕ → List AxisStep → Type 0
IsStraight slack steps = IsNear slack (slope_of steps) steps
