-- Lines that are made along a chord, and at a corner.
use Rattle.std.specs.Prelude.{ℕ, ◌-◌, ◌*◌, ◌/◌, ◌^◌, ◌<◌, ◌≤◌, ◌≡◌, max, List, length, slice_index, slice_index_or}
use Rattle.std.specs.Int.{abs_diff}
use Rattle.ng_pace.specs.declared.limits.Limits.{Limits}
use Rattle.ng_pace.specs.declared.line.Line.{Line}
use Rattle.ng_pace.specs.declared.line.Ramp.{Ramp}
use Rattle.ng_pace.specs.declared.slopes.Slopes.{Slopes}
use Rattle.ng_pace.specs.declared.chord.Waiting.{Waiting}
use Rattle.ng_pace.specs.Pacer.{Motion}
use Rattle.ng_pace.specs.Axes.{AreMostPulses, EachAxis, IsAlong, IsFullCorner, IsFullRamp, IsFullRate, IsNearCorner, IsQuarterRamp}
use Rattle.ng_pace.specs.Chord.{Slope, IsSlope}
use Rattle.ng_pace.specs.Cone.{AreBetween, size_of, bend_of}
use Rattle.ng_pace.specs.Legs.{IsTurning, bend_between}
use Rattle.ng_pace.specs.Rest.{either_way}
use Rattle.ng_pace.specs.Making.{Makes}

-- along any slopes that are among these, this is allowed
abbrev pub AllowAlong : Limits → List Slopes → ℕ → ℕ → Type 0
AllowAlong limits slopes most ramp =
    EachAxis (λ axis. (slope : Slope) → IsSlope slope → AreBetween slopes axis slope → IsAlong limits axis (abs_diff slope.up slope.down) slope.over most ramp)

-- some axis has no more than this along the greatest of these slopes
pub record TakeAll (limits : Limits) (slopes : List Slopes) (most ramp : ℕ) : Type 0 where
  pub sizes : List ℕ
  pub sizes_are : EachAxis (λ axis. (d : Slopes) → slice_index sizes axis ≡ size_of (slice_index_or slopes axis d))
  pub rate : IsFullRate limits sizes (2 ^ 20) most
  pub accel : IsFullRamp limits sizes (2 ^ 20) ramp

-- of all that waits, but so many, lines are made that are allowed along the slopes
pub record PassesAlong (limits : Limits) (slopes : List Slopes) (stop reserve : ℕ) (old new : Motion) (waited waits : List Waiting) : Type 0 where
  pub most : ℕ
  pub ramp : ℕ
  pub allowed : AllowAlong limits slopes most ramp
  pub full : TakeAll limits slopes most ramp
  pub makes : Makes old new waited waits most (either_way ramp) stop (length waited - reserve)

-- a corner is taken over so many pulses, half on each side
pub record TakesCorner (limits : Limits) (before after : List Slopes) (pulses most : ℕ) (ramp : Ramp) : Type 0 where
  pub near : EachAxis (λ axis. (slope : Slope) (next : Slope) → IsSlope slope → IsSlope next → AreBetween before axis slope → AreBetween after axis next
      → IsNearCorner limits axis (bend_between slope next) (slope.over * next.over) pulses)
  pub bending : EachAxis (λ axis. (slope : Slope) (next : Slope) → IsSlope slope → IsSlope next → AreBetween before axis slope → AreBetween after axis next
      → IsTurning limits axis slope next pulses most ramp)

-- over no more pulses, and no faster, some axis can turn from one of these slopes to one of the others; no item at the
-- corner is faster than `feed` in its own time
pub record BendAll (limits : Limits) (before after : List Slopes) (count count' pulses feed most : ℕ) (ramp : Ramp) : Type 0 where
  pub sizes : List ℕ
  pub bends : List ℕ
  pub sizes_are : EachAxis (λ axis. (d : Slopes)
      → slice_index sizes axis ≡ max (size_of (slice_index_or before axis d))
      (size_of (slice_index_or after axis d)))
  pub bends_are : EachAxis (λ axis. (d : Slopes) → slice_index bends axis ≡ bend_of (slice_index_or before axis d) (slice_index_or after axis d))
  pub longest : AreMostPulses limits bends (2 ^ 20) count count' pulses
  pub square : IsFullCorner limits sizes bends (2 ^ 20) pulses feed most
  pub up : IsQuarterRamp limits sizes (2 ^ 20) ramp.up
  pub down : IsQuarterRamp limits sizes (2 ^ 20) ramp.down

-- lines are made up to the end of a corner, behind which so many pulses wait: along the chord before it, and then at
-- the corner
pub record PassesCorner (limits : Limits) (before after : List Slopes) (count count' stop : ℕ) (old new : Motion) (waited waits : List Waiting) : Type 0 where
  pub mid : Motion
  pub left : List Waiting
  pub pulses : ℕ
  pub some : 0 < pulses
  pub before_few : pulses ≤ max 1 count
  pub after_few : pulses ≤ max 1 count'
  pub half : pulses ≤ max 1 (2 * limits.half)
  pub before_most : ℕ
  pub before_ramp : ℕ
  pub before_allowed : AllowAlong limits before before_most before_ramp
  pub before_full : TakeAll limits before before_most before_ramp
  pub first : Makes old mid waited left before_most (either_way before_ramp) stop (length waited - count' - pulses / 2)
  pub most : ℕ
  pub ramp : Ramp
  pub takes : TakesCorner limits before after pulses most ramp
  pub then : Makes mid new left waits most ramp stop pulses
  pub feed : ℕ
  pub feeds : (k : ℕ) (d : Line) → k < length then.made → (slice_index_or then.made k d).full ≤ feed
  pub full : BendAll limits before after count count' pulses feed most ramp
