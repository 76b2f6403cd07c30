-- What the code keeps of slopes. There a slope is counted from a step back at each pulse, so that none is below 0.
use Rattle.std.specs.Prelude.{ℕ, ◌≡◌, ◌+◌, ◌-◌, ◌*◌, ◌^◌, ◌<◌, ◌≤◌, ◌⊎◌, min, max, List, length, slice_index_or}
use Rattle.std.specs.Int.{abs_diff}
use Rattle.ng_canon.specs.declared.item.AxisStep.{AxisStep}
use Rattle.ng_pace.specs.declared.slopes.Rise.{Rise}
use Rattle.ng_pace.specs.declared.slopes.Slopes.{Slopes}
use Rattle.ng_pace.specs.declared.cone.Cone.{Cone}
use Rattle.ng_pace.specs.Chord.{Slope, IsSlope, IsSlower, IsNear, forward, backward}

-- a slope is no less than another, or no greater
abbrev pub IsFrom : Rise → Slope → Type 0
IsFrom rise slope = rise.steps * slope.over + slope.down * rise.pulses ≤ (slope.up + slope.over) * rise.pulses

abbrev pub IsUpTo : Rise → Slope → Type 0
IsUpTo rise slope = (slope.up + slope.over) * rise.pulses ≤ rise.steps * slope.over + slope.down * rise.pulses

-- a slope is between two, in parts of 2^20
pub record IsBetween (slopes : Slopes) (slope : Slope) : Type 0 where
  pub from : slopes.least * slope.over + slope.down * 2 ^ 20 ≤ (slope.up + slope.over) * 2 ^ 20
  pub up_to : (slope.up + slope.over) * 2 ^ 20 ≤ slopes.greatest * slope.over + slope.down * 2 ^ 20

-- the greatest of some slopes without its sign, in parts of 2^20
abbrev pub size_of : Slopes → ℕ
size_of slopes = min (max (abs_diff slopes.least (2 ^ 20)) (abs_diff slopes.greatest (2 ^ 20))) (2 ^ 20)

-- the greatest change from one of some slopes to one of others, in parts of 2^20; no slope is more than a step a pulse
abbrev pub bend_of : Slopes → Slopes → ℕ
bend_of before after = max (min after.greatest (2 ^ 21) - before.least) (min before.greatest (2 ^ 21) - after.least)

-- a slope of which something holds is this one, or less, but for one part of 2^20
pub record IsReachedFrom (Holds : Slope → Type 0) (least : ℕ) : Type 0 where
  pub slope : Slope
  pub is : IsSlope slope
  pub holds : Holds slope
  pub near : (slope.up + slope.over) * 2 ^ 20 ≤ least * slope.over + slope.down * 2 ^ 20 + slope.over

-- or this one, or greater
pub record IsReachedUpTo (Holds : Slope → Type 0) (greatest : ℕ) : Type 0 where
  pub slope : Slope
  pub is : IsSlope slope
  pub holds : Holds slope
  pub near : greatest * slope.over + slope.down * 2 ^ 20 ≤ (slope.up + slope.over) * 2 ^ 20 + slope.over

-- the greatest, the least and the one without its sign are those of slopes of which something holds, but for one part
-- of 2^20
pub record IsReached (Holds : Slope → Type 0) (slopes : Slopes) : Type 0 where
  pub slope : Slope
  pub is : IsSlope slope
  pub holds : Holds slope
  pub size : size_of slopes * slope.over ≤ abs_diff slope.up slope.down * 2 ^ 20 + slope.over
  pub from : IsReachedFrom Holds slopes.least
  pub up_to : IsReachedUpTo Holds (min slopes.greatest (2 ^ 21))

-- the same of an axis, by its number
abbrev pub AreBetween : List Slopes → ℕ → Slope → Type 0
AreBetween slopes axis slope = (d : Slopes) → IsBetween (slice_index_or slopes axis d) slope

-- no slope on either side of a corner is greater, nor the change from the one to the other, in parts of 2^20
pub record IsBend (size bend : ℕ) (before after : Slope) : Type 0 where
  pub before_size : abs_diff before.up before.down * 2 ^ 20 ≤ size * before.over
  pub after_size : abs_diff after.up after.down * 2 ^ 20 ≤ size * after.over
  pub change : abs_diff (before.up * after.over + after.down * before.over) (before.down * after.over + after.up * before.over) * 2 ^ 20 ≤ bend *
      (before.over * after.over)

-- of a change of slope so much counts against a ramp up: all of it, or nothing where the axis slows
abbrev pub IsPull : ℕ → ℕ → Slope → Slope → Type 0
IsPull bend pull before after = (pull ≡ bend) ⊎ ((pull ≡ 0) × IsSlower before after)

-- the slope from the first to the last of some pulses
pub record IsRiseOf (rise : Rise) (steps : List AxisStep) : Type 0 where
  pub steps_are : rise.steps + backward steps ≡ forward steps + length steps
  pub pulses_are : rise.pulses ≡ length steps

-- the slopes of a cone are those that keep an axis near its pulses
pub record IsCone (slack : ℕ) (cone : Cone) (steps : List AxisStep) : Type 0 where
  pub at : cone.at + backward steps ≡ forward steps + length steps
  pub low : 0 < cone.low.pulses
  pub high : 0 < cone.high.pulses
  pub inside : (slope : Slope) → IsSlope slope → IsFrom cone.low slope → IsUpTo cone.high slope → IsNear slack slope steps
  pub near : (slope : Slope) → IsSlope slope → IsNear slack slope steps → IsFrom cone.low slope × IsUpTo cone.high slope
