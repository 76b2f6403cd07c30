-- Chords that follow one another without a rest, and the lines that are made of their pulses (own).
use Rattle.std.specs.Prelude.{ℕ, zero, suc, ◌+◌, ◌-◌, ◌*◌, ◌/◌, ◌^◌, ◌<◌, ◌≤◌, ◌≡◌, ◌⊎◌, min, List, [], ◌∷◌, ◌++◌}
use Rattle.std.specs.Prelude.{map, length, slice_index, slice_index_or, take, drop, All, IsTrue}
use Rattle.std.specs.Int.{abs_diff}
use Rattle.ng_canon.specs.declared.item.AxisStep.{AxisStep}
use Rattle.ng_canon.specs.declared.item.Pulse.{Pulse}
use Rattle.ng_pace.specs.declared.limits.Limits.{Limits}
use Rattle.ng_pace.specs.declared.line.Line.{Line}
use Rattle.ng_pace.specs.declared.line.Ramp.{Ramp}
use Rattle.ng_pace.specs.Rest.{either_way}
use Rattle.ng_pace.specs.Axes.{EachAxis, SomeAxis, IsAlong, IsCorner, IsNearCorner}
use Rattle.ng_pace.specs.Chord.{Slope, IsSlope, IsSlower, slope_of, IsNear, IsStraight}

-- the step of an axis, by its number
abbrev pub step_of : ℕ → Pulse → AxisStep
step_of zero pulse = pulse.x
step_of (suc zero) pulse = pulse.y
step_of _ pulse = pulse.z

abbrev pub steps_along : ℕ → List Pulse → List AxisStep
steps_along axis pulses = map (step_of axis) pulses

-- the slope of an axis from the first to the last of some pulses
abbrev pub slope_along : ℕ → List Pulse → Slope
slope_along axis pulses = slope_of (steps_along axis pulses)

-- a chord: each axis goes straight
abbrev pub IsChord : ℕ → List Pulse → Type 0
IsChord slack pulses = EachAxis (λ axis. IsStraight slack (steps_along axis pulses))

-- a chord goes as far as the slack allows: with the first pulse of the next one it would be none, or would have more
-- than 2^20 pulses
abbrev pub IsFarthest : ℕ → List Pulse → List Pulse → Type 0
IsFarthest slack chord next = (pulse : Pulse) (rest : List Pulse) → next ≡ pulse ∷ rest
    → ¬ (IsChord slack (chord ++ pulse ∷ []) × (length chord < 2 ^ 20))

-- how much a slope changes, over the product of both lengths
abbrev pub bend_between : Slope → Slope → ℕ
bend_between before after = abs_diff (before.up * after.over + after.down * before.over) (before.down * after.over + after.up * before.over)

-- a corner asks for no more on either side of it, where so much of the change of slope counts
pub record IsBending (limits : Limits) (axis : ℕ) (before after : Slope) (bend pulses most ramp : ℕ) : Type 0 where
  pub leaves : IsCorner limits axis (abs_diff before.up before.down * after.over) bend (before.over * after.over) pulses most ramp
  pub enters : IsCorner limits axis (abs_diff after.up after.down * before.over) bend (before.over * after.over) pulses most ramp

-- what the turn takes of an axis and what the ramp does add up, but where they pull against each other: the turn of an
-- axis that slows pulls against a ramp up, and that of one that gets faster against a ramp down
pub record IsTurning (limits : Limits) (axis : ℕ) (before after : Slope) (pulses most : ℕ) (ramp : Ramp) : Type 0 where
  pub up : IsBending limits axis before after (bend_between before after) pulses most ramp.up
      ⊎ (IsSlower before after × IsBending limits axis before after 0 pulses most ramp.up)
  pub down : IsBending limits axis before after (bend_between before after) pulses most ramp.down
      ⊎ (IsSlower after before × IsBending limits axis before after 0 pulses most ramp.down)

-- a line has no more than this ramp. Where everything stands still after the line, and there alone, the ramp down may be
-- a rate at which motors stop at once: `stop` parts of 256 of it
pub record IsRampWithin (ramp : Ramp) (stop : ℕ) (line : Line) : Type 0 where
  pub up : line.ramp.up ≤ ramp.up
  pub down : (line.ramp.down ≤ ramp.down) ⊎ (IsTrue line.last × (line.ramp.down ≤ ramp.down / 256 * stop))

-- no ramp is steeper than the greatest square
abbrev pub least_ramp : Ramp → Ramp
least_ramp ramp = record { up = min ramp.up (2 ^ 58); down = min ramp.down (2 ^ 58) }

-- the square and the ramp of a line are allowed
pub record IsAllowed (P : ℕ → Ramp → Type 0) (stop : ℕ) (line : Line) : Type 0 where
  pub ramp : Ramp
  pub allowed : P line.most ramp
  pub within : IsRampWithin ramp stop line

-- along a slope an axis is asked for no more, up and down
pub record IsAlongEitherWay (limits : Limits) (axis : ℕ) (slope : Slope) (most : ℕ) (ramp : Ramp) : Type 0 where
  pub up : IsAlong limits axis (abs_diff slope.up slope.down) slope.over most ramp.up
  pub down : IsAlong limits axis (abs_diff slope.up slope.down) slope.over most ramp.down

-- along a chord no axis is asked for more than its acceleration, nor for more than its rate
abbrev pub IsOnChord : Limits → ℕ → List Pulse → Line → Type 0
IsOnChord limits stop chord line =
    IsAllowed (λ most ramp. EachAxis (λ axis. IsAlongEitherWay limits axis (slope_along axis chord) most ramp)) stop line

-- at a corner that is taken over so many pulses no axis is asked for more than is left of its acceleration
abbrev pub IsOnCorner : Limits → ℕ → List Pulse → List Pulse → ℕ → Line → Type 0
IsOnCorner limits stop before after pulses line
    = IsAllowed (λ most ramp. EachAxis (λ axis. IsTurning limits axis (slope_along axis before) (slope_along axis after) pulses most ramp)) stop line

-- an axis has no more acceleration: along a slope that it may still get, near all of these pulses, the ramp of one more
-- square of a pulse a second would be too much, but for a step in 2^20 pulses
pub record IsAccelerationSpent (limits : Limits) (axis : ℕ) (known : List Pulse) (ramp : ℕ) : Type 0 where
  pub slope : Slope
  pub is : IsSlope slope
  pub near : IsNear limits.slack slope (steps_along axis known)
  pub full : 2 * slice_index limits.accel axis * slope.over * 2 ^ 20 < (abs_diff slope.up slope.down * 2 ^ 20 + slope.over) * (ramp / 2 ^ 16 + 1)

-- it goes at its greatest rate: one more pulse a second would be too much
pub record IsRateSpent (limits : Limits) (axis : ℕ) (known : List Pulse) (most : ℕ) : Type 0 where
  pub slope : Slope
  pub is : IsSlope slope
  pub near : IsNear limits.slack slope (steps_along axis known)
  pub rate : ℕ
  pub square : rate * rate * 2 ^ 16 ≤ most
  pub limited : 0 < slice_index limits.rate axis
  pub full : slice_index limits.rate axis * slope.over * 2 ^ 20 < (abs_diff slope.up slope.down * 2 ^ 20 + slope.over) * (rate + 1)

-- a line has the greatest square and the greatest ramp that the axes have along a chord of which these pulses are
-- known: that of its own rate, that of some axis, or that of any line
pub record IsFullOn (limits : Limits) (known : List Pulse) (line : Line) : Type 0 where
  pub most : ℕ
  pub ramp : ℕ
  pub most_is : line.most ≡ min most line.full
  pub ramp_is : line.ramp ≡ least_ramp (either_way ramp)
  pub rate : (2 ^ 58 ≤ most) ⊎ SomeAxis (λ axis. IsRateSpent limits axis known most)
  pub accel : (2 ^ 58 ≤ ramp) ⊎ SomeAxis (λ axis. IsAccelerationSpent limits axis known ramp)

-- this line of a chord does, with regard to the first pulses of the chord, its own among them
pub record IsFullAt (limits : Limits) (chord : List Pulse) (k : ℕ) (line : Line) : Type 0 where
  pub known : List Pulse
  pub others : List Pulse
  pub all : chord ≡ known ++ others
  pub its : k < length known
  pub full : IsFullOn limits known line

-- at a corner an axis turns as fast as may be: along slopes that it may get on both sides, near the pulses before it and
-- those that are known behind it, three quarters of its acceleration are no more than this square takes, but for less
-- than 3 squares of a pulse a second, and 2 steps in 2^20 pulses
pub record IsBendSpent (limits : Limits) (axis : ℕ) (before known : List Pulse) (pulses most : ℕ) : Type 0 where
  pub slope : Slope
  pub next : Slope
  pub is : IsSlope slope
  pub is_next : IsSlope next
  pub near : IsNear limits.slack slope (steps_along axis before)
  pub near_next : IsNear limits.slack next (steps_along axis known)
  pub full : 3 * slice_index limits.accel axis * pulses * (slope.over * next.over) * 2 ^ 20
      < 4 * (bend_between slope next * 2 ^ 20 + 2 * (slope.over * next.over)) * (most / 2 ^ 16 + 3)

-- and with this ramp it has a quarter of its acceleration, at least, along one of them
pub record IsQuarterSpent (limits : Limits) (axis : ℕ) (known : List Pulse) (ramp : ℕ) : Type 0 where
  pub slope : Slope
  pub is : IsSlope slope
  pub near : IsNear limits.slack slope (steps_along axis known)
  pub full : 2 * (slice_index limits.accel axis / 4) * slope.over * 2 ^ 20
      < (abs_diff slope.up slope.down * 2 ^ 20 + slope.over) * (ramp / 2 ^ 16 + 1)

-- a ramp is no less than a quarter of the acceleration of some axis allows, or it is that of any line
abbrev pub HasQuarter : Limits → List Pulse → List Pulse → ℕ → Type 0
HasQuarter limits before known ramp
    = (2 ^ 58 ≤ ramp) ⊎ SomeAxis (λ axis. IsQuarterSpent limits axis before ramp ⊎ IsQuarterSpent limits axis known ramp)

-- a line has the greatest square that the axes have at a corner: that of its own rate, that of a chord, or that at which
-- some axis turns as fast as may be. Its ramp is no less than a quarter of the acceleration of some axis allows
pub record IsFullAtCorner (limits : Limits) (before known : List Pulse) (pulses : ℕ) (line : Line) : Type 0 where
  pub most : ℕ
  pub ramp : Ramp
  pub most_is : line.most ≡ min most line.full
  pub ramp_is : line.ramp ≡ least_ramp ramp
  pub square : (line.full ≤ most) ⊎ ((2 ^ 58 ≤ most) ⊎ SomeAxis
      (λ axis. IsRateSpent limits axis before most ⊎ (IsRateSpent limits axis known most ⊎ IsBendSpent limits axis before known pulses most)))
  pub up : HasQuarter limits before known ramp.up
  pub down : HasQuarter limits before known ramp.down

-- over so many pulses an axis leaves its chords too far, along slopes that it may get, but for 2 steps in 2^20 pulses
pub record IsTooFar (limits : Limits) (axis : ℕ) (before known : List Pulse) (pulses : ℕ) : Type 0 where
  pub slope : Slope
  pub next : Slope
  pub is : IsSlope slope
  pub is_next : IsSlope next
  pub near : IsNear limits.slack slope (steps_along axis before)
  pub near_next : IsNear limits.slack next (steps_along axis known)
  pub by_slack : 8 * limits.slack * (slope.over * next.over) * 2 ^ 20 < (bend_between slope next * 2 ^ 20 + 2 * (slope.over * next.over)) * pulses
  pub by_start : slice_index limits.start axis * slice_index limits.start axis * (slope.over * next.over) * 2 ^ 20
      < ((bend_between slope next * 2 ^ 20 + 2 * (slope.over * next.over)) * pulses + slope.over * next.over * 2 ^ 20) * slice_index limits.accel axis

-- a corner is taken over as many pulses as may be: more would be more than half of a corner on a side, than the chord
-- before it has, than are known behind it, or too far for some axis; or it is as many as no chord has
abbrev pub IsLongest : Limits → List Pulse → List Pulse → ℕ → Type 0
IsLongest limits before known pulses = (2 ^ 32 ≤ pulses) ⊎ ((2 * limits.half ≤ pulses) ⊎ ((length before ≤ pulses) ⊎ ((length known ≤ pulses) ⊎
    SomeAxis (λ axis. IsTooFar limits axis before known (pulses + 1)))))

-- a chord, and the lines that were made of its first pulses
pub record Leg : Type 0 where
  pub pulses : List Pulse
  pub lines : List Line

pub record IsLeg (limits : Limits) (stop : ℕ) (leg : Leg) : Type 0 where
  pub chord : IsChord limits.slack leg.pulses
  pub lines : All (IsOnChord limits stop leg.pulses) leg.lines
  pub few : length leg.lines ≤ length leg.pulses
  -- all lines but those of half a corner at either end have all that the axes have
  pub full : (k : ℕ) (d : Line) → k < length leg.lines → limits.half ≤ k → k + limits.half < length leg.pulses
      → IsFullAt limits leg.pulses k (slice_index_or leg.lines k d)

-- the corner between two chords, of which the first goes as far as it can: its last lines and the first of the other
-- keep to the corner, half of its pulses on each side
pub record IsCornered (limits : Limits) (stop : ℕ) (before after : Leg) : Type 0 where
  pub farthest : IsFarthest limits.slack before.pulses after.pulses
  pub pulses : ℕ
  pub some : 0 < pulses
  pub few : pulses ≤ length before.pulses
  pub near : EachAxis (λ axis. IsNearCorner limits axis (bend_between (slope_along axis before.pulses) (slope_along axis after.pulses))
      ((slope_along axis before.pulses).over * (slope_along axis after.pulses).over) pulses)
  pub whole : length before.lines ≡ length before.pulses
  pub begun : (pulses + 1) / 2 ≤ length after.lines
  pub leaves : All (IsOnCorner limits stop before.pulses after.pulses pulses) (drop (length before.pulses - pulses / 2) before.lines)
  pub enters : All (IsOnCorner limits stop before.pulses after.pulses pulses) (take ((pulses + 1) / 2) after.lines)
  -- it is decided by the first pulses of the chord behind it, 4 times `half`, or by all
  pub known : List Pulse
  pub others : List Pulse
  pub all : after.pulses ≡ known ++ others
  pub enough : (others ≡ []) ⊎ (4 * limits.half ≤ length known)
  -- it is taken over as many pulses as may be, and its lines have the greatest squares: all but the last of a path
  pub longest : IsLongest limits before.pulses known pulses
  pub leaves_full : All (IsFullAtCorner limits before.pulses known pulses) (drop (length before.pulses - pulses / 2) before.lines)
  pub enters_full : (k : ℕ) (d : Line) → k < (pulses + 1) / 2 → k + 1 < length after.pulses
      → IsFullAtCorner limits before.pulses known pulses (slice_index_or after.lines k d)

abbrev pub IsBehind : Limits → ℕ → Leg → List Leg → Type 0
IsBehind limits stop leg [] = Unit {0}
IsBehind limits stop leg (before ∷ rest) = IsCornered limits stop before leg

-- the chords of a path, the last one first: each is one, and is joined to the one before by a corner
abbrev pub IsPaced : Limits → ℕ → List Leg → Type 0
IsPaced limits stop [] = Unit {0}
IsPaced limits stop (leg ∷ rest) = IsLeg limits stop leg × (IsBehind limits stop leg rest × IsPaced limits stop rest)

-- the pulses of a path, and the lines that were made of them, in order
abbrev pub pulses_of : List Leg → List Pulse
pulses_of [] = []
pulses_of (leg ∷ rest) = pulses_of rest ++ leg.pulses

abbrev pub lines_of : List Leg → List Line
lines_of [] = []
lines_of (leg ∷ rest) = lines_of rest ++ leg.lines
