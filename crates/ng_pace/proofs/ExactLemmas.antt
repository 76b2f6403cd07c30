-- What is allowed along slopes in parts of 2^20 is allowed along the slopes themselves, which are no greater.
use Rattle.std.proofs.Common.{arith, ℕ, ◌+◌, ◌*◌, ◌/◌, ◌<◌, ◌≤◌, ◌≡◌, ◌⊎◌, inl, inr, List, slice_index}
use Rattle.std.proofs.Math.Nat.{mul-le-mul_right, le_of_mul-le-mul_right}
use Rattle.std.proofs.lemmas.Nat.{mul-le}
use Rattle.std.specs.Int.{abs_diff}
use Rattle.ng_pace.specs.declared.limits.Limits.{Limits}
use Rattle.ng_pace.specs.declared.slopes.Slopes.{Slopes}
use Rattle.ng_canon.specs.declared.item.Pulse.{Pulse}
use Rattle.ng_pace.specs.declared.line.Line.{Line}
use Rattle.ng_pace.specs.declared.line.Ramp.{Ramp}
use Rattle.ng_pace.specs.Rest.{either_way}
use Rattle.ng_pace.specs.Making.{HasAll}
use Rattle.ng_pace.specs.Passing.{AllowAlong, TakeAll, TakesCorner}
use Rattle.ng_pace.specs.Path.{AreReached}
use Rattle.ng_pace.specs.Axes.{EachAxis, SomeAxis, IsAlong, IsCorner, IsFullAlone, IsFullRamp, IsFullRate, IsNearCorner}
use Rattle.ng_pace.specs.Chord.{Slope, IsSlope, IsSlower, IsNear}
use Rattle.ng_pace.specs.Cone.{AreBetween, IsReached, IsBend, IsPull, size_of}
use Rattle.ng_pace.specs.Legs.{IsAccelerationSpent, IsRateSpent, IsFullOn, IsBending, steps_along, bend_between}

rate-exact : (size slope over most rate : ℕ) → slope * 1048576 ≤ size * over → size * size * most ≤ rate * rate * 1048576 * 1048576 * 65536
    → slope * slope * most ≤ rate * rate * over * over * 65536
rate-exact size slope over most rate less respected = le_of_mul-le-mul_right scaled (omega arith) where
  scaled : slope * slope * most * (1048576 * 1048576) ≤ rate * rate * over * over * 65536 * (1048576 * 1048576)
  scaled =
      let squares : slope * 1048576 * (slope * 1048576) ≤ size * over * (size * over)
      = mul-le (slope * 1048576) (slope * 1048576) (size * over) (size * over) less less in
      let a : slope * 1048576 * (slope * 1048576) * most ≤ size * over * (size * over) * most = mul-le-mul_right most squares in
      let b : size * size * most * (over * over) ≤ rate * rate * 1048576 * 1048576 * 65536 * (over * over) = mul-le-mul_right (over * over) respected in
      omega arith

pub along-exact : (limits : Limits) (axis size slope over most ramp : ℕ) → slope * 1048576 ≤ size * over → IsAlong limits axis size 1048576 most ramp
    → IsAlong limits axis slope over most ramp
along-exact limits axis size slope over most ramp less respected = record {
  accel = le_of_mul-le-mul_right scaled (omega arith);
  rate = λ some. rate-exact size slope over most (slice_index limits.rate axis) less (respected.rate some);
} where
  scaled : slope * ramp * 1048576 ≤ 2 * slice_index limits.accel axis * over * 65536 * 1048576
  scaled =
      let a : slope * 1048576 * ramp ≤ size * over * ramp = mul-le-mul_right ramp less in
      let b : size * ramp * over ≤ 2 * slice_index limits.accel axis * 1048576 * 65536 * over = mul-le-mul_right over respected.accel in
      omega arith

pub corner-exact : (limits : Limits) (axis size bend slope change over pulses most ramp : ℕ) → slope * 1048576 ≤ size * over → change * 1048576 ≤ bend * over
    → IsCorner limits axis size bend 1048576 pulses most ramp → IsCorner limits axis slope change over pulses most ramp
corner-exact limits axis size bend slope change over pulses most ramp less less' respected = record {
  accel = le_of_mul-le-mul_right scaled (omega arith);
  rate = λ some. rate-exact size slope over most (slice_index limits.rate axis) less (respected.rate some);
} where
  scaled : (slope * ramp * pulses + 2 * change * most) * 1048576 ≤ 2 * slice_index limits.accel axis * pulses * over * 65536 * 1048576
  scaled =
      let a : slope * 1048576 * (ramp * pulses) ≤ size * over * (ramp * pulses) = mul-le-mul_right (ramp * pulses) less in
      let b : change * 1048576 * most ≤ bend * over * most = mul-le-mul_right most less' in
      let d : (size * ramp * pulses + 2 * bend * most) * over ≤ 2 * slice_index limits.accel axis * pulses * 1048576 * 65536 * over
      = mul-le-mul_right over respected.accel in
      omega arith

pub near-exact : (limits : Limits) (axis bend change over pulses : ℕ) → change * 1048576 ≤ bend * over → IsNearCorner limits axis bend 1048576 pulses
    → IsNearCorner limits axis change over pulses
near-exact limits axis bend change over pulses less (inl near) = inl (le_of_mul-le-mul_right scaled (omega arith)) where
  scaled : change * pulses * 1048576 ≤ 8 * limits.slack * over * 1048576
  scaled =
      let a : change * 1048576 * pulses ≤ bend * over * pulses = mul-le-mul_right pulses less in
      let b : bend * pulses * over ≤ 8 * limits.slack * 1048576 * over = mul-le-mul_right over near in
      omega arith
near-exact limits axis bend change over pulses less (inr near) = inr (le_of_mul-le-mul_right scaled (omega arith)) where
  scaled : change * pulses * slice_index limits.accel axis * 1048576 ≤ slice_index limits.start axis * slice_index limits.start axis * over * 1048576
  scaled =
      let a : change * 1048576 * (pulses * slice_index limits.accel axis) ≤ bend * over * (pulses * slice_index limits.accel axis)
      = mul-le-mul_right (pulses * slice_index limits.accel axis) less in
      let b : bend * pulses * slice_index limits.accel axis * over ≤ slice_index limits.start axis * slice_index limits.start axis * 1048576 * over
      = mul-le-mul_right over near in
      omega arith

-- a corner's, on both sides
bending-exact : (limits : Limits) (axis size bend pull change : ℕ) (before after : Slope) (pulses most ramp : ℕ) → IsBend size bend before after
    → change * 1048576 ≤ pull * (before.over * after.over) → IsCorner limits axis size pull 1048576 pulses most ramp
    → IsBending limits axis before after change pulses most ramp
bending-exact limits axis size bend pull change before after pulses most ramp is pulls respected = record {
  leaves = corner-exact limits axis size pull (abs_diff before.up before.down * after.over) change (before.over * after.over) pulses most
      ramp
      (let a : abs_diff before.up before.down * 1048576 * after.over ≤ size * before.over * after.over = mul-le-mul_right after.over is.before_size in
      omega arith) pulls respected;
  enters = corner-exact limits axis size pull (abs_diff after.up after.down * before.over) change (before.over * after.over) pulses most
      ramp
      (let a : abs_diff after.up after.down * 1048576 * before.over ≤ size * after.over * before.over = mul-le-mul_right before.over is.after_size in
      omega arith) pulls respected;
}

-- as much of the turn counts as pulls the same way
turning-exact : (limits : Limits) (axis size bend pull : ℕ) (before after : Slope) (pulses most ramp : ℕ) (Against : Type 0) → IsBend size bend before after
    → (pull ≡ bend) ⊎ ((pull ≡ 0) × Against) → IsCorner limits axis size pull 1048576 pulses most ramp
    → IsBending limits axis before after (bend_between before after) pulses most ramp ⊎ (Against × IsBending limits axis before after 0 pulses most ramp)
turning-exact limits axis size bend pull before after pulses most ramp Against is (inl all) respected =
    inl (bending-exact limits axis size bend pull (bend_between before after) before after pulses most ramp is (rw all is.change) respected)
turning-exact limits axis size bend pull before after pulses most ramp Against is (inr none) respected =
    inr (none.1, bending-exact limits axis size bend pull 0 before after pulses most ramp is (omega arith) respected)

-- a corner asks for no less than the chords on both sides
pub along-corner : (limits : Limits) (axis slope bend over over' pulses most ramp : ℕ) → 0 < over' → 0 < pulses
    → IsCorner limits axis (slope * over') bend (over * over') pulses most ramp → IsAlong limits axis slope over most ramp
along-corner limits axis slope bend over over' pulses most ramp some long respected = record {
  accel = le_of_mul-le-mul_right scaled (omega (arith, mul-le 1 1 over' pulses some long));
  rate = λ fast. le_of_mul-le-mul_right (scaled_rate fast) (omega (arith, mul-le 1 1 over' over' some some));
} where
  scaled : slope * ramp * (over' * pulses) ≤ 2 * slice_index limits.accel axis * over * 65536 * (over' * pulses)
  scaled = omega (arith, respected.accel)

  scaled_rate : 0 < slice_index limits.rate axis
      → slope * slope * most * (over' * over') ≤ slice_index limits.rate axis * slice_index limits.rate axis * over * over * 65536 * (over' * over')
  scaled_rate fast = omega (arith, respected.rate fast)

-- what is allowed along sizes of slopes is allowed along the slopes
pub allow-along : (limits : Limits) (slopes : List Slopes) (sizes : List ℕ) (most ramp : ℕ)
    → EachAxis (λ axis. (slope : Slope) → IsSlope slope → AreBetween slopes axis slope
    → abs_diff slope.up slope.down * 1048576 ≤ slice_index sizes axis * slope.over)
    → EachAxis (λ axis. IsAlong limits axis (slice_index sizes axis) 1048576 most ramp) → AllowAlong limits slopes most ramp
allow-along limits slopes sizes most ramp small allowed = record {
  x = λ slope is between. along-exact limits 0 (slice_index sizes 0) (abs_diff slope.up slope.down) slope.over most ramp (small.x slope is between) allowed.x;
  y = λ slope is between. along-exact limits 1 (slice_index sizes 1) (abs_diff slope.up slope.down) slope.over most ramp (small.y slope is between) allowed.y;
  z = λ slope is between. along-exact limits 2 (slice_index sizes 2) (abs_diff slope.up slope.down) slope.over most ramp (small.z slope is between) allowed.z;
}

-- and so at a corner
pub takes-corner : (limits : Limits) (before after : List Slopes) (sizes bends ups downs : List ℕ) (pulses most : ℕ) (ramp : Ramp)
    → EachAxis (λ axis. (slope : Slope) (next : Slope) → IsSlope slope → IsSlope next → AreBetween before axis slope → AreBetween after axis next
    → IsBend (slice_index sizes axis) (slice_index bends axis) slope next)
    → EachAxis (λ axis. IsNearCorner limits axis (slice_index bends axis) 1048576 pulses)
    → EachAxis (λ axis. (slope : Slope) (next : Slope) → IsSlope slope → IsSlope next → AreBetween before axis slope → AreBetween after axis next
    → IsPull (slice_index bends axis) (slice_index ups axis) slope next)
    → EachAxis (λ axis. (slope : Slope) (next : Slope) → IsSlope slope → IsSlope next → AreBetween before axis slope → AreBetween after axis next
    → IsPull (slice_index bends axis) (slice_index downs axis) next slope)
    → EachAxis (λ axis. IsCorner limits axis (slice_index sizes axis) (slice_index ups axis) 1048576 pulses most ramp.up)
    → EachAxis (λ axis. IsCorner limits axis (slice_index sizes axis) (slice_index downs axis) 1048576 pulses most ramp.down)
    → TakesCorner limits before after pulses most ramp
takes-corner limits before after sizes bends ups downs pulses most ramp is near pulls_up pulls_down up down = record {
  near = record {
    x = λ slope next a b c d. near-exact limits 0 (slice_index bends 0) (bend_between slope next) (slope.over * next.over) pulses
        (is.x slope next a b c d).change near.x;
    y = λ slope next a b c d. near-exact limits 1 (slice_index bends 1) (bend_between slope next) (slope.over * next.over) pulses
        (is.y slope next a b c d).change near.y;
    z = λ slope next a b c d. near-exact limits 2 (slice_index bends 2) (bend_between slope next) (slope.over * next.over) pulses
        (is.z slope next a b c d).change near.z;
  };
  bending = record {
    x = λ slope next a b c d. record {
      up = turning-exact limits 0 (slice_index sizes 0) (slice_index bends 0) (slice_index ups 0) slope next pulses most ramp.up (IsSlower slope next)
          (is.x slope next a b c d) (pulls_up.x slope next a b c d) up.x;
      down = turning-exact limits 0 (slice_index sizes 0) (slice_index bends 0) (slice_index downs 0) slope next pulses most ramp.down (IsSlower next slope)
          (is.x slope next a b c d) (pulls_down.x slope next a b c d) down.x;
    };
    y = λ slope next a b c d. record {
      up = turning-exact limits 1 (slice_index sizes 1) (slice_index bends 1) (slice_index ups 1) slope next pulses most ramp.up (IsSlower slope next)
          (is.y slope next a b c d) (pulls_up.y slope next a b c d) up.y;
      down = turning-exact limits 1 (slice_index sizes 1) (slice_index bends 1) (slice_index downs 1) slope next pulses most ramp.down (IsSlower next slope)
          (is.y slope next a b c d) (pulls_down.y slope next a b c d) down.y;
    };
    z = λ slope next a b c d. record {
      up = turning-exact limits 2 (slice_index sizes 2) (slice_index bends 2) (slice_index ups 2) slope next pulses most ramp.up (IsSlower slope next)
          (is.z slope next a b c d) (pulls_up.z slope next a b c d) up.z;
      down = turning-exact limits 2 (slice_index sizes 2) (slice_index bends 2) (slice_index downs 2) slope next pulses most ramp.down (IsSlower next slope)
          (is.z slope next a b c d) (pulls_down.z slope next a b c d) down.z;
    };
  };
}

-- what takes all of an axis along the greatest of some slopes takes all along one of them
ramp-spent : (limits : Limits) (axis : ℕ) (known : List Pulse) (slopes : Slopes) (size ramp : ℕ) → size ≡ size_of slopes
    → IsReached (λ slope. IsNear limits.slack slope (steps_along axis known)) slopes
    → 2 * slice_index limits.accel axis * 1048576 < size * (ramp / 65536 + 1) → IsAccelerationSpent limits axis known ramp
ramp-spent limits axis known slopes size ramp is reached full = record {
  slope = reached.slope;
  is = reached.is;
  near = reached.holds;
  full =
      let over : ℕ = reached.slope.over in
      let a : (2 * slice_index limits.accel axis * 1048576 + 1) * over ≤ size * (ramp / 65536 + 1) * over = mul-le-mul_right over (omega (arith, full)) in
      let b : size * over * (ramp / 65536 + 1) ≤ (abs_diff reached.slope.up reached.slope.down * 1048576 + over) * (ramp / 65536 + 1)
      = mul-le-mul_right (ramp / 65536 + 1) (rw is reached.size) in
      omega (arith, a, b, reached.is.some);
}

rate-spent : (limits : Limits) (axis : ℕ) (known : List Pulse) (slopes : Slopes) (size rate most : ℕ) → size ≡ size_of slopes
    → IsReached (λ slope. IsNear limits.slack slope (steps_along axis known)) slopes → rate * rate * 65536 ≤ most → 0 < slice_index limits.rate axis
    → slice_index limits.rate axis * 1048576 < size * (rate + 1) → IsRateSpent limits axis known most
rate-spent limits axis known slopes size rate most is reached square limited full = record {
  slope = reached.slope;
  is = reached.is;
  near = reached.holds;
  rate = rate;
  square = square;
  limited = limited;
  full =
      let over : ℕ = reached.slope.over in
      let a : (slice_index limits.rate axis * 1048576 + 1) * over ≤ size * (rate + 1) * over = mul-le-mul_right over (omega (arith, full)) in
      let b : size * over * (rate + 1) ≤ (abs_diff reached.slope.up reached.slope.down * 1048576 + over) * (rate + 1)
      = mul-le-mul_right (rate + 1) (rw is reached.size) in
      omega (arith, a, b, reached.is.some);
}

pub alone-spent : (limits : Limits) (axis : ℕ) (known : List Pulse) (slopes : Slopes) (size most : ℕ) → size ≡ size_of slopes
    → IsReached (λ slope. IsNear limits.slack slope (steps_along axis known)) slopes → IsFullAlone limits axis size 1048576 most
    → (288230376151711744 ≤ most) ⊎ IsRateSpent limits axis known most
alone-spent limits axis known slopes size most is reached alone = by_case alone.full where
  by_case : (2097152 ≤ alone.rate) ⊎ ((0 < slice_index limits.rate axis) × (slice_index limits.rate axis * 1048576 < size * (alone.rate + 1)))
      → (288230376151711744 ≤ most) ⊎ IsRateSpent limits axis known most
  by_case (inl great) = let square : 2097152 * 2097152 ≤ alone.rate * alone.rate = mul-le 2097152 2097152 alone.rate alone.rate great great in
      inl (omega (arith, square, alone.square))
  by_case (inr full) = inr (rate-spent limits axis known slopes size alone.rate most is reached alone.square full.0 full.1)

-- a line that has all of what some axis has no more of
pub full-on : (limits : Limits) (known : List Pulse) (slopes : List Slopes) (most ramp : ℕ) (line : Line) → AreReached limits.slack slopes known
    → TakeAll limits slopes most ramp → HasAll most (either_way ramp) line → IsFullOn limits known line
full-on limits known slopes most ramp line reached all has = record {
  most = most;
  ramp = ramp;
  most_is = has.most_is;
  ramp_is = has.ramp_is;
  rate = rates all.rate;
  accel = ramps all.accel;
} where
  none : Slopes
  none = record { least = 0; greatest = 0 }

  ramps : IsFullRamp limits all.sizes 1048576 ramp → (288230376151711744 ≤ ramp) ⊎ SomeAxis (λ axis. IsAccelerationSpent limits axis known ramp)
  ramps (inl great) = inl great
  ramps (inr (inl x)) = inr (inl (ramp-spent limits 0 known _ (slice_index all.sizes 0) ramp (all.sizes_are.x none) (reached.x none) x))
  ramps (inr (inr (inl y))) = inr (inr (inl (ramp-spent limits 1 known _ (slice_index all.sizes 1) ramp (all.sizes_are.y none) (reached.y none) y)))
  ramps (inr (inr (inr z))) = inr (inr (inr (ramp-spent limits 2 known _ (slice_index all.sizes 2) ramp (all.sizes_are.z none) (reached.z none) z)))

  rates : IsFullRate limits all.sizes 1048576 most → (288230376151711744 ≤ most) ⊎ SomeAxis (λ axis. IsRateSpent limits axis known most)
  rates (inl x) = elim (alone-spent limits 0 known _ (slice_index all.sizes 0) most (all.sizes_are.x none) (reached.x none) x)
      [ inl great ↦ inl great | inr spent ↦ inr (inl spent) ]
  rates (inr (inl y)) = elim (alone-spent limits 1 known _ (slice_index all.sizes 1) most (all.sizes_are.y none) (reached.y none) y)
      [ inl great ↦ inl great | inr spent ↦ inr (inr (inl spent)) ]
  rates (inr (inr z)) = elim (alone-spent limits 2 known _ (slice_index all.sizes 2) most (all.sizes_are.z none) (reached.z none) z)
      [ inl great ↦ inl great | inr spent ↦ inr (inr (inr spent)) ]
