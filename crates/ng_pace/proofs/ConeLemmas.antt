-- One more pulse in a cone.
use Rattle.std.proofs.Common.{arith, ℕ, ◌+◌, ◌-◌, ◌*◌, ◌<◌, ◌≤◌, ◌≡◌, ◌⊎◌, inl, inr, ap, List, [], ◌∷◌, ◌++◌, length, take}
use Rattle.std.proofs.lemmas.List.{take-append-le, take_all, length-append}
use Rattle.std.proofs.lemmas.Bool.{cases_lt}
use Rattle.std.proofs.Math.Nat.{mul-le-mul_right}
use Rattle.std.specs.Int.{abs_diff}
use Rattle.ng_canon.specs.declared.item.AxisStep.{AxisStep}
use Rattle.ng_canon.specs.declared.item.AxisStep.TheVariants.{Backward, Still, Forward}
use Rattle.ng_pace.specs.declared.slopes.Rise.{Rise}
use Rattle.ng_pace.specs.declared.cone.Cone.{Cone}
use Rattle.ng_pace.specs.declared.slopes.Slopes.{Slopes}
use Rattle.ng_pace.specs.Cone.{IsFrom, IsUpTo, IsCone, IsReached, IsRiseOf}
use Rattle.ng_pace.proofs.SlopeLemmas.{from_greater, up_to_smaller}
use Rattle.ng_pace.specs.Chord.{Slope, IsSlope, IsNear, IsStraight, slope_of, forward, backward}

pub forward-push : (steps : List AxisStep) (step : AxisStep) → forward (steps ++ step ∷ []) ≡ forward steps + forward (step ∷ [])
forward-push [] step = omega arith
forward-push (Forward ∷ rest) step = omega (arith, forward-push rest step)
forward-push (Still ∷ rest) step = forward-push rest step
forward-push (Backward ∷ rest) step = forward-push rest step

pub backward-push : (steps : List AxisStep) (step : AxisStep) → backward (steps ++ step ∷ []) ≡ backward steps + backward (step ∷ [])
backward-push [] step = omega arith
backward-push (Forward ∷ rest) step = backward-push rest step
backward-push (Still ∷ rest) step = backward-push rest step
backward-push (Backward ∷ rest) step = omega (arith, backward-push rest step)

-- no more steps than pulses
pub steps_few : (steps : List AxisStep) → forward steps + backward steps ≤ length steps
steps_few [] = omega arith
steps_few (Forward ∷ rest) = omega (arith, steps_few rest)
steps_few (Still ∷ rest) = omega (arith, steps_few rest)
steps_few (Backward ∷ rest) = omega (arith, steps_few rest)

pub length-push : (steps : List AxisStep) (step : AxisStep) → length (steps ++ step ∷ []) ≡ length steps + 1
length-push steps step = length-append steps (step ∷ [])

-- how far an axis is off a line after all of its pulses
abbrev pub off : Slope → List AxisStep → ℕ → ℕ
off slope steps k = abs_diff (forward steps * slope.over + slope.down * k) (backward steps * slope.over + slope.up * k)

-- an axis that is near, and is near after one more pulse
pub near-push : (slack : ℕ) (slope : Slope) (steps : List AxisStep) (step : AxisStep) → IsNear slack slope steps
    → off slope (steps ++ step ∷ []) (length steps + 1) ≤ slack * slope.over → IsNear slack slope (steps ++ step ∷ [])
near-push slack slope steps step near last = λ k within. by_case k within (cases_lt (length steps) k) where
  by_case : (k : ℕ) → k ≤ length (steps ++ step ∷ []) → (length steps < k) ⊎ (k ≤ length steps) → off slope (take k (steps ++ step ∷ [])) k ≤ slack * slope.over
  by_case k within (inl end) =
      let is : k ≡ length steps + 1 = omega (arith, length-push steps step) in
      let all : take k (steps ++ step ∷ []) ≡ steps ++ step ∷ [] = take_all k (steps ++ step ∷ []) (omega (arith, length-push steps step)) in
      rw all (rw is last)
  by_case k within (inr before) = rw (take-append-le k steps (step ∷ []) before) (near k before)

-- without the last pulse
pub near-pop : (slack : ℕ) (slope : Slope) (steps : List AxisStep) (step : AxisStep) → IsNear slack slope (steps ++ step ∷ []) → IsNear slack slope steps
near-pop slack slope steps step near = λ k within. rw (take-append-le k steps (step ∷ []) within) at (near k (omega (arith, length-push steps step)))

pub near-last : (slack : ℕ) (slope : Slope) (steps : List AxisStep) → IsNear slack slope steps → off slope steps (length steps) ≤ slack * slope.over
near-last slack slope steps near =
    let all : take (length steps) steps ≡ steps = take_all (length steps) steps (omega arith) in
    rw all at (near (length steps) (omega arith))

-- the slopes from a greater one
pub IsFrom-greater : (a b c : Rise) → (c ≡ a) ⊎ (c ≡ b) → 0 < a.pulses → 0 < b.pulses → 0 < c.pulses
IsFrom-greater a b c (inl e) some some' = rw e some
IsFrom-greater a b c (inr e) some some' = rw e some'

pub IsFrom-both : (a b c : Rise) (slope : Slope) → (c ≡ a) ⊎ (c ≡ b) → IsFrom a slope → IsFrom b slope → IsFrom c slope
IsFrom-both a b c slope (inl e) from from' = rw e from
IsFrom-both a b c slope (inr e) from from' = rw e from'

pub IsUpTo-both : (a b c : Rise) (slope : Slope) → (c ≡ a) ⊎ (c ≡ b) → IsUpTo a slope → IsUpTo b slope → IsUpTo c slope
IsUpTo-both a b c slope (inl e) up_to up_to' = rw e up_to
IsUpTo-both a b c slope (inr e) up_to up_to' = rw e up_to'

-- an axis that is off by no more than the slack has a slope between two, and the other way round
pub off-from : (slack r m f b : ℕ) (slope : Slope) → IsSlope slope → r + b ≡ f + m
    → abs_diff (f * slope.over + slope.down * m) (b * slope.over + slope.up * m) ≤ slack * slope.over
    → ((r - slack) * slope.over + slope.down * m ≤ (slope.up + slope.over) * m) × ((slope.up + slope.over) * m ≤ (r + slack) * slope.over + slope.down * m)
off-from slack r m f b slope is at off =
    let moved : (r + b) * slope.over ≡ (f + m) * slope.over = ap (λ t. t * slope.over) at in
    let flat : slope.down * m ≤ (slope.over + slope.up) * m = mul-le-mul_right m is.down in
    (low (cases_lt r slack) moved flat, omega arith)
  where
    low : (r < slack) ⊎ (slack ≤ r) → (r + b) * slope.over ≡ (f + m) * slope.over → slope.down * m ≤ (slope.over + slope.up) * m
        → (r - slack) * slope.over + slope.down * m ≤ (slope.up + slope.over) * m
    low (inl below) moved flat = let none : r - slack ≡ 0 = omega arith in rw none (omega arith)
    low (inr above) moved flat =
        let split : (r - slack + slack) * slope.over ≡ r * slope.over = ap (λ t. t * slope.over) (omega arith) in
        omega arith

pub off-between : (slack r m f b : ℕ) (slope : Slope) → r + b ≡ f + m → (r - slack) * slope.over + slope.down * m ≤ (slope.up + slope.over) * m
    → (slope.up + slope.over) * m ≤ (r + slack) * slope.over + slope.down * m
    → abs_diff (f * slope.over + slope.down * m) (b * slope.over + slope.up * m) ≤ slack * slope.over
off-between slack r m f b slope at from up_to =
    let moved : (r + b) * slope.over ≡ (f + m) * slope.over = ap (λ t. t * slope.over) at in
    let split : r * slope.over ≤ (r - slack + slack) * slope.over = mul-le-mul_right slope.over (omega arith) in
    omega arith

-- the cone of one more pulse
pub cone-push : (slack : ℕ) (cone new : Cone) (low high : Rise) (steps : List AxisStep) (step : AxisStep) → IsCone slack cone steps
    → new.at + backward (steps ++ step ∷ []) ≡ forward (steps ++ step ∷ []) + length (steps ++ step ∷ [])
    → low.steps ≡ new.at - slack → low.pulses ≡ length (steps ++ step ∷ []) → high.steps ≡ new.at + slack → high.pulses ≡ length (steps ++ step ∷ [])
    → (new.low ≡ cone.low) ⊎ (new.low ≡ low) → cone.low.steps * new.low.pulses ≤ new.low.steps * cone.low.pulses
    → low.steps * new.low.pulses ≤ new.low.steps * low.pulses
    → (new.high ≡ cone.high) ⊎ (new.high ≡ high) → new.high.steps * cone.high.pulses ≤ cone.high.steps * new.high.pulses
    → new.high.steps * high.pulses ≤ high.steps * new.high.pulses
    → IsCone slack new (steps ++ step ∷ [])
cone-push slack cone new low high steps step is at low-is low-long high-is high-long low-of low-old low-new high-of high-old high-new = record {
  at = at;
  low = low_some;
  high = high_some;
  inside = λ slope ok from up_to. near-push slack slope steps step
      (is.inside slope ok
      (from_greater cone.low.steps cone.low.pulses new.low.steps new.low.pulses slope.over slope.down (slope.up + slope.over) low_some low-old from)
      (up_to_smaller cone.high.steps cone.high.pulses new.high.steps new.high.pulses slope.over slope.down (slope.up + slope.over) high_some high-old up_to))
      (last slope
      (from_greater low.steps low.pulses new.low.steps new.low.pulses slope.over slope.down (slope.up + slope.over) low_some low-new from)
      (up_to_smaller high.steps high.pulses new.high.steps new.high.pulses slope.over slope.down (slope.up + slope.over) high_some high-new up_to));
  near = λ slope ok near.
      let old = is.near slope ok (near-pop slack slope steps step near) in
      let end = off-from slack new.at (length (steps ++ step ∷ [])) (forward (steps ++ step ∷ [])) (backward (steps ++ step ∷ [])) slope ok at
      (near-last slack slope (steps ++ step ∷ []) near) in
      let from : IsFrom low slope = rw (low-is, low-long) end.0 in
      let up_to : IsUpTo high slope = rw (high-is, high-long) end.1 in
      (IsFrom-both cone.low low new.low slope low-of old.0 from, IsUpTo-both cone.high high new.high slope high-of old.1 up_to);
} where
  long : 0 < length (steps ++ step ∷ [])
  long = omega (arith, length-push steps step)

  low_some : 0 < new.low.pulses
  low_some = IsFrom-greater cone.low low new.low low-of is.low (rw low-long long)

  high_some : 0 < new.high.pulses
  high_some = IsFrom-greater cone.high high new.high high-of is.high (rw high-long long)

  last : (slope : Slope) → IsFrom low slope → IsUpTo high slope → off slope (steps ++ step ∷ []) (length steps + 1) ≤ slack * slope.over
  last slope from up_to =
      let from' : IsFrom (record { steps = new.at - slack; pulses = length (steps ++ step ∷ []) }) slope = rw (low-is, low-long) at from in
      let up_to' : IsUpTo (record { steps = new.at + slack; pulses = length (steps ++ step ∷ []) }) slope = rw (high-is, high-long) at up_to in
      rw (← length-push steps step) (off-between slack new.at (length (steps ++ step ∷ [])) (forward (steps ++ step ∷ [])) (backward (steps ++ step ∷ []))
      slope at from' up_to')

-- where an axis is after one more pulse
pub rise-push : (at rise r : ℕ) (steps : List AxisStep) (step : AxisStep) → at + backward steps ≡ forward steps + length steps
    → rise + backward (step ∷ []) ≡ forward (step ∷ []) + 1 → r ≡ at + rise
    → r + backward (steps ++ step ∷ []) ≡ forward (steps ++ step ∷ []) + length (steps ++ step ∷ [])
rise-push at rise r steps step is one both = omega (arith, forward-push steps step, backward-push steps step, length-push steps step, is, one, both)

-- it doesn't leave what fits
pub rise_fits : (at rise : ℕ) (steps : List AxisStep) (step : AxisStep) → at + backward steps ≡ forward steps + length steps
    → rise + backward (step ∷ []) ≡ forward (step ∷ []) + 1 → at + rise ≤ 2 * (length steps + 1)
rise_fits at rise steps step is one = omega (arith, steps_few steps, steps_few (step ∷ []), is, one)

pub slope_of-some : (steps : List AxisStep) → 0 < length steps → IsSlope (slope_of steps)
slope_of-some steps some = record { some = some; up = omega (arith, steps_few steps); down = omega (arith, steps_few steps) }

-- an axis goes straight with one more pulse exactly if the slope to where it is then is one of the cone's
pub straight-push : (slack : ℕ) (cone : Cone) (rise : Rise) (steps : List AxisStep) (step : AxisStep) → IsCone slack cone steps
    → IsRiseOf rise (steps ++ step ∷ [])
    → cone.low.steps * rise.pulses ≤ rise.steps * cone.low.pulses → rise.steps * cone.high.pulses ≤ cone.high.steps * rise.pulses
    → IsStraight slack (steps ++ step ∷ [])
straight-push slack cone rise steps step is at low high
    = near-push slack (slope_of (steps ++ step ∷ [])) steps step (is.inside (slope_of (steps ++ step ∷ [])) ok from up_to) last where
      ok : IsSlope (slope_of (steps ++ step ∷ []))
      ok = slope_of-some (steps ++ step ∷ []) (omega (arith, length-push steps step))

      low' : cone.low.steps * length (steps ++ step ∷ []) ≤ rise.steps * cone.low.pulses
      low' = rw (← at.pulses_are) low

      high' : rise.steps * cone.high.pulses ≤ cone.high.steps * length (steps ++ step ∷ [])
      high' = rw (← at.pulses_are) high

      from : IsFrom cone.low (slope_of (steps ++ step ∷ []))
      from =
          let moved : (rise.steps + backward (steps ++ step ∷ [])) * cone.low.pulses ≡ (forward (steps ++ step ∷ []) + length (steps ++ step ∷ [])) *
          cone.low.pulses = ap (λ t. t * cone.low.pulses) at.steps_are in
          omega (arith, low', moved)

      up_to : IsUpTo cone.high (slope_of (steps ++ step ∷ []))
      up_to =
          let moved : (rise.steps + backward (steps ++ step ∷ [])) * cone.high.pulses ≡ (forward (steps ++ step ∷ []) + length (steps ++ step ∷ [])) *
          cone.high.pulses = ap (λ t. t * cone.high.pulses) at.steps_are in
          omega (arith, high', moved)

      last : off (slope_of (steps ++ step ∷ [])) (steps ++ step ∷ []) (length steps + 1) ≤ slack * length (steps ++ step ∷ [])
      last = rw (← length-push steps step) (omega arith)

pub straight-within : (slack : ℕ) (cone : Cone) (rise : Rise) (steps : List AxisStep) (step : AxisStep) → IsCone slack cone steps
    → IsRiseOf rise (steps ++ step ∷ []) → IsStraight slack (steps ++ step ∷ [])
    → (cone.low.steps * rise.pulses ≤ rise.steps * cone.low.pulses) × (rise.steps * cone.high.pulses ≤ cone.high.steps * rise.pulses)
straight-within slack cone rise steps step is at straight = rw at.pulses_are (low, high) where
  both : IsFrom cone.low (slope_of (steps ++ step ∷ [])) × IsUpTo cone.high (slope_of (steps ++ step ∷ []))
  both = is.near (slope_of (steps ++ step ∷ [])) (slope_of-some (steps ++ step ∷ []) (omega (arith, length-push steps step)))
      (near-pop slack (slope_of (steps ++ step ∷ [])) steps step straight)

  low : cone.low.steps * length (steps ++ step ∷ []) ≤ rise.steps * cone.low.pulses
  low =
      let moved : (rise.steps + backward (steps ++ step ∷ [])) * cone.low.pulses ≡ (forward (steps ++ step ∷ []) + length (steps ++ step ∷ [])) *
      cone.low.pulses = ap (λ t. t * cone.low.pulses) at.steps_are in
      omega (arith, both.0, moved)

  high : rise.steps * cone.high.pulses ≤ cone.high.steps * length (steps ++ step ∷ [])
  high =
      let moved : (rise.steps + backward (steps ++ step ∷ [])) * cone.high.pulses ≡ (forward (steps ++ step ∷ []) + length (steps ++ step ∷ [])) *
      cone.high.pulses = ap (λ t. t * cone.high.pulses) at.steps_are in
      omega (arith, both.1, moved)

-- an axis is no farther than two steps a pulse
pub at-few : (at : ℕ) (steps : List AxisStep) → at + backward steps ≡ forward steps + length steps → at ≤ 2 * length steps
at-few at steps is = omega (arith, steps_few steps, is)

-- the slope from the first to the last pulse is from itself up to itself
pub rise-between : (rise : Rise) (steps : List AxisStep) → IsRiseOf rise steps → IsFrom rise (slope_of steps) × IsUpTo rise (slope_of steps)
rise-between rise steps is =
    let moved : (rise.steps + backward steps) * length steps ≡ (forward steps + length steps) * length steps = ap (λ t. t * length steps) is.steps_are in
    rw is.pulses_are (omega (arith, moved), omega (arith, moved))

-- a slope that is up to and from where an axis is now is one of its cone's
pub rise-inside : (slack : ℕ) (cone : Cone) (rise : Rise) (steps : List AxisStep) → IsCone slack cone steps → IsStraight slack steps → 0 < length steps
    → IsRiseOf rise steps → (slope : Slope) → IsSlope slope → IsFrom rise slope → IsUpTo rise slope → IsNear slack slope steps
rise-inside slack cone rise steps is straight some at slope ok from up_to =
    is.inside slope ok
    (from_greater cone.low.steps cone.low.pulses rise.steps rise.pulses slope.over slope.down (slope.up + slope.over) long low from)
    (up_to_smaller cone.high.steps cone.high.pulses rise.steps rise.pulses slope.over slope.down (slope.up + slope.over) long high up_to)
  where
    long : 0 < rise.pulses
    long = omega (arith, at.pulses_are, some)

    both : IsFrom cone.low (slope_of steps) × IsUpTo cone.high (slope_of steps)
    both = is.near (slope_of steps) (slope_of-some steps some) straight

    low : cone.low.steps * rise.pulses ≤ rise.steps * cone.low.pulses
    low = rw at.pulses_are (
        let moved : (rise.steps + backward steps) * cone.low.pulses ≡ (forward steps + length steps) *
        cone.low.pulses = ap (λ t. t * cone.low.pulses) at.steps_are in
        omega (arith, both.0, moved))

    high : rise.steps * cone.high.pulses ≤ cone.high.steps * rise.pulses
    high = rw at.pulses_are (
        let moved : (rise.steps + backward steps) * cone.high.pulses ≡ (forward steps + length steps) *
        cone.high.pulses = ap (λ t. t * cone.high.pulses) at.steps_are in
        omega (arith, both.1, moved))

-- what is reached is reached of what follows
pub reached-weaker : (P Q : Slope → Type 0) (slopes : Slopes) → ((slope : Slope) → IsSlope slope → P slope → Q slope) → IsReached P slopes → IsReached Q slopes
reached-weaker P Q slopes f is = record {
  slope = is.slope;
  is = is.is;
  holds = f is.slope is.is is.holds;
  size = is.size;
  from = record { slope = is.from.slope; is = is.from.is; holds = f is.from.slope is.from.is is.from.holds; near = is.from.near };
  up_to = record { slope = is.up_to.slope; is = is.up_to.is; holds = f is.up_to.slope is.up_to.is is.up_to.holds; near = is.up_to.near };
}
