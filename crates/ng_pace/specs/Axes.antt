-- What lines ask of an axis (own). The square of the rate, in pulses a second times 2^8, is at most `most`, and changes
-- by at most `ramp` from one pulse to the next. A slope is that of an axis: steps over pulses, without a sign.
use Rattle.std.specs.Prelude.{ℕ, ◌+◌, ◌*◌, ◌/◌, ◌^◌, ◌<◌, ◌≤◌, ◌⊎◌, List, slice_index}
use Rattle.ng_pace.specs.declared.limits.Limits.{Limits}
use Rattle.ng_pace.specs.Due.{IsPercent}

-- what holds of each axis, by its number
pub record EachAxis (P : ℕ → Type 0) : Type 0 where
  pub x : P 0
  pub y : P 1
  pub z : P 2

-- what holds of some axis, by its number
abbrev pub SomeAxis : (ℕ → Type 0) → Type 0
SomeAxis P = P 0 ⊎ (P 1 ⊎ P 2)

-- limits that can't be met, by the first of these that holds: with so little acceleration an axis couldn't turn at a
-- pulse a second
abbrev pub AccelerateTooLittle : Limits → Type 0
AccelerateTooLittle limits = SomeAxis (λ axis. slice_index limits.accel axis < 3)

pub record AccelerateTooMuch (limits : Limits) : Type 0 where
  pub enough : EachAxis (λ axis. 3 ≤ slice_index limits.accel axis)
  pub much : SomeAxis (λ axis. 1000000000 < slice_index limits.accel axis)

pub record GoTooFast (limits : Limits) : Type 0 where
  pub enough : EachAxis (λ axis. 3 ≤ slice_index limits.accel axis)
  pub little : EachAxis (λ axis. slice_index limits.accel axis ≤ 1000000000)
  pub fast : SomeAxis (λ axis. 1000000000 < slice_index limits.rate axis)

-- each axis can be met
pub record HaveAxes (limits : Limits) : Type 0 where
  pub accel : EachAxis (λ axis. 3 ≤ slice_index limits.accel axis)
  pub accel_at_most : EachAxis (λ axis. slice_index limits.accel axis ≤ 1000000000)
  pub rate_at_most : EachAxis (λ axis. slice_index limits.rate axis ≤ 1000000000)

-- limits that can be met
pub record AreLimits (limits : Limits) : Type 0 where
  pub accel : EachAxis (λ i. 3 ≤ slice_index limits.accel i)
  pub accel_at_most : EachAxis (λ i. slice_index limits.accel i ≤ 1000000000)
  pub rate_at_most : EachAxis (λ i. slice_index limits.rate i ≤ 1000000000)
  pub half : 0 < limits.half
  pub slack : 0 < limits.slack
  pub slack_at_most : limits.slack ≤ 1000
  pub percent : IsPercent limits.most_percent

-- along a slope the rate of an axis is the slope times that of the pulses: its acceleration is the slope times half the
-- ramp
pub record IsAlong (limits : Limits) (axis slope over most ramp : ℕ) : Type 0 where
  -- no axis is asked for more than its acceleration
  pub accel : slope * ramp ≤ 2 * slice_index limits.accel axis * over * 2 ^ 16
  -- no axis goes faster than its greatest rate, if it has one
  pub rate : 0 < slice_index limits.rate axis → slope * slope * most ≤ slice_index limits.rate axis * slice_index limits.rate axis * over * over * 2 ^ 16

-- the ramp is the greatest that is a whole square of a pulse a second: one more would be too much for some axis, or it
-- is that of any square
abbrev pub IsFullRamp : Limits → List ℕ → ℕ → ℕ → Type 0
IsFullRamp limits slopes over ramp
    = (2 ^ 58 ≤ ramp) ⊎ SomeAxis (λ axis. 2 * slice_index limits.accel axis * over < slice_index slopes axis * (ramp / 2 ^ 16 + 1))

-- so is the rate of an axis: one more pulse a second would be too much for it if it has a greatest rate, or it is that
-- of any square
pub record IsFullAlone (limits : Limits) (axis slope over most : ℕ) : Type 0 where
  pub rate : ℕ
  pub square : rate * rate * 2 ^ 16 ≤ most
  pub full : (2 ^ 21 ≤ rate) ⊎ ((0 < slice_index limits.rate axis) × (slice_index limits.rate axis * over < slope * (rate + 1)))

abbrev pub IsFullRate : Limits → List ℕ → ℕ → ℕ → Type 0
IsFullRate limits slopes over most = SomeAxis (λ axis. IsFullAlone limits axis (slice_index slopes axis) over most)

-- at a corner the slope of an axis changes evenly over some pulses. That takes of its acceleration the change of slope
-- times the square, over the pulses: what is left bounds the ramp
pub record IsCorner (limits : Limits) (axis slope bend over pulses most ramp : ℕ) : Type 0 where
  pub accel : slope * ramp * pulses + 2 * bend * most ≤ 2 * slice_index limits.accel axis * pulses * over * 2 ^ 16
  pub rate : 0 < slice_index limits.rate axis → slope * slope * most ≤ slice_index limits.rate axis * slice_index limits.rate axis * over * over * 2 ^ 16

-- the square at a corner is no less than this one, or than the chords on both sides allow, or than three quarters of
-- the acceleration of some axis allow, but for less than 3 squares of a pulse a second
abbrev pub IsFullCorner : Limits → List ℕ → List ℕ → ℕ → ℕ → ℕ → ℕ → Type 0
IsFullCorner limits slopes bends over pulses feed most = (feed ≤ most) ⊎ (IsFullRate limits slopes over most
    ⊎ ((2 ^ 58 ≤ most) ⊎ SomeAxis (λ axis. 3 * slice_index limits.accel axis * pulses * over < 4 * slice_index bends axis * (most / 2 ^ 16 + 3))))

-- and the ramp than a quarter of that of some axis
abbrev pub IsQuarterRamp : Limits → List ℕ → ℕ → ℕ → Type 0
IsQuarterRamp limits slopes over ramp = (2 ^ 58 ≤ ramp)
    ⊎ SomeAxis (λ axis. 2 * (slice_index limits.accel axis / 4) * over < slice_index slopes axis * (ramp / 2 ^ 16 + 1))

-- an axis whose slope changes evenly by so much over so many pulses leaves its straight lines by an eighth of their
-- product: no more than the slack, or what it covers while it comes to rest from a rate at which it can stop at once
abbrev pub IsNearCorner : Limits → ℕ → ℕ → ℕ → ℕ → Type 0
IsNearCorner limits axis bend over pulses =
    (bend * pulses ≤ 8 * limits.slack * over) ⊎
    (bend * pulses * slice_index limits.accel axis ≤ slice_index limits.start axis * slice_index limits.start axis * over)

-- over so many pulses it would leave them by more than both, but for what its acceleration makes of one pulse
pub record IsFarFromCorner (limits : Limits) (axis bend over pulses : ℕ) : Type 0 where
  pub by_slack : 8 * limits.slack * over < bend * pulses
  pub by_start : slice_index limits.start axis * slice_index limits.start axis * over < (bend * pulses + over) * slice_index limits.accel axis

-- a corner is taken over as many pulses as may be: more would be more than half of a corner on a side, than a chord
-- has, or too far for some axis; or it is as many as no chord has
abbrev pub AreMostPulses : Limits → List ℕ → ℕ → ℕ → ℕ → ℕ → Type 0
AreMostPulses limits bends over before after pulses = (2 ^ 32 ≤ pulses) ⊎ ((2 * limits.half ≤ pulses) ⊎ ((before ≤ pulses) ⊎ ((after ≤ pulses) ⊎
    SomeAxis (λ axis. IsFarFromCorner limits axis (slice_index bends axis) over (pulses + 1)))))

-- a motor starts and stops at once at so many parts of 256 of the ramp: at half of it, since at rest it is half a step
-- beyond its pulse, or where no axis then goes faster than it can start
abbrev pub IsStop : Limits → ℕ → Type 0
IsStop limits stop = EachAxis (λ axis. (stop ≤ 128) ⊎
    (stop * (2 * slice_index limits.accel axis) ≤ 256 * (slice_index limits.start axis * slice_index limits.start axis)))
