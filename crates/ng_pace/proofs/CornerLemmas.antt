-- What is the most at a corner along slopes in parts of 2^20 is so along slopes that the axes may get.
use Rattle.std.proofs.Common.{arith, ℕ, ◌+◌, ◌-◌, ◌*◌, ◌/◌, ◌<◌, ◌≤◌, ◌≡◌, ◌⊎◌, inl, inr, min, max, List, length, slice_index, slice_index_or}
use Rattle.std.proofs.Math.Nat.{mul-le-mul_right}
use Rattle.std.proofs.lemmas.Bool.{cases_lt}
use Rattle.std.proofs.lemmas.Nat.{mul-le}
use Rattle.std.specs.Int.{abs_diff}
use Rattle.ng_canon.specs.declared.item.Pulse.{Pulse}
use Rattle.ng_pace.specs.declared.limits.Limits.{Limits}
use Rattle.ng_pace.specs.declared.line.Line.{Line}
use Rattle.ng_pace.specs.declared.line.Ramp.{Ramp}
use Rattle.ng_pace.specs.declared.slopes.Slopes.{Slopes}
use Rattle.ng_pace.specs.Axes.{AreMostPulses, IsFarFromCorner, IsFullAlone, IsFullCorner, IsFullRate, IsQuarterRamp, SomeAxis}
use Rattle.ng_pace.specs.Chord.{Slope, IsSlope, IsNear}
use Rattle.ng_pace.specs.Cone.{IsReached, size_of, bend_of}
use Rattle.ng_pace.specs.Legs.{HasQuarter, IsFullAtCorner, IsLongest, IsQuarterSpent, IsRateSpent, IsTooFar, IsBendSpent, steps_along, bend_between}
use Rattle.ng_pace.specs.Making.{HasAll}
use Rattle.ng_pace.specs.Passing.{BendAll}
use Rattle.ng_pace.specs.Path.{AreReached}
use Rattle.ng_pace.proofs.ExactLemmas.{alone-spent}

-- a turn that two slopes reach, but for a part of 2^20 each
record IsBendReached (P Q : Slope → Type 0) (bend : ℕ) : Type 0 where
  slope : Slope
  next : Slope
  is : IsSlope slope
  is_next : IsSlope next
  near : P slope
  near_next : Q next
  size : bend * (slope.over * next.over) ≤ bend_between slope next * 1048576 + 2 * (slope.over * next.over)

bend-size : (least greatest bend : ℕ) (slope next : Slope) → (slope.up + slope.over) * 1048576 ≤ least * slope.over + slope.down * 1048576 + slope.over
    → greatest * next.over + next.down * 1048576 ≤ (next.up + next.over) * 1048576 + next.over → bend ≡ greatest - least
    → bend * (slope.over * next.over) ≤ bend_between slope next * 1048576 + 2 * (slope.over * next.over)
bend-size least greatest bend slope next from up_to is = by_case (cases_lt greatest least) where
  by_case : (greatest < least) ⊎ (least ≤ greatest) → bend * (slope.over * next.over) ≤ bend_between slope next * 1048576 + 2 * (slope.over * next.over)
  by_case (inl none) = let zero : bend ≡ 0 = omega (arith, is, none) in rw zero (omega arith)
  by_case (inr some) =
      let whole : (bend + least) * (slope.over * next.over) ≤ greatest * (slope.over * next.over)
      = mul-le-mul_right (slope.over * next.over) (omega (arith, is, some)) in
      let a : (slope.up + slope.over) * 1048576 * next.over ≤ (least * slope.over + slope.down * 1048576 + slope.over) * next.over
      = mul-le-mul_right next.over from in
      let b : (greatest * next.over + next.down * 1048576) * slope.over ≤ ((next.up + next.over) * 1048576 + next.over) * slope.over
      = mul-le-mul_right slope.over up_to in
      omega (arith, whole, a, b)

bend-reached : (P Q : Slope → Type 0) (before after : Slopes) → IsReached P before → IsReached Q after → IsBendReached P Q (bend_of before after)
bend-reached P Q before after r r' = by_case (cases_lt (min before.greatest 2097152 - after.least) (min after.greatest 2097152 - before.least)) where
  greater : (m n : ℕ) → n ≤ m → max m n ≡ m
  greater m n less = omega (arith, less)

  greater' : (m n : ℕ) → m ≤ n → max m n ≡ n
  greater' m n less = omega (arith, less)

  bent-back : (bend : ℕ) (slope next : Slope) → bend * (next.over * slope.over) ≤ bend_between next slope * 1048576 + 2 * (next.over * slope.over)
      → bend * (slope.over * next.over) ≤ bend_between slope next * 1048576 + 2 * (slope.over * next.over)
  bent-back bend slope next bent = omega (arith, bent)

  by_case : (min before.greatest 2097152 - after.least < min after.greatest 2097152 - before.least)
      ⊎ (min after.greatest 2097152 - before.least ≤ min before.greatest 2097152 - after.least) → IsBendReached P Q (bend_of before after)
  by_case (inl up) = record {
    slope = r.from.slope;
    next = r'.up_to.slope;
    is = r.from.is;
    is_next = r'.up_to.is;
    near = r.from.holds;
    near_next = r'.up_to.holds;
    size = bend-size before.least (min after.greatest 2097152) (bend_of before after) r.from.slope r'.up_to.slope r.from.near r'.up_to.near
        (greater (min after.greatest 2097152 - before.least) (min before.greatest 2097152 - after.least) (omega (arith, up)));
  }
  by_case (inr down) = record {
    slope = r.up_to.slope;
    next = r'.from.slope;
    is = r.up_to.is;
    is_next = r'.from.is;
    near = r.up_to.holds;
    near_next = r'.from.holds;
    size =
        let bent : bend_of before after * (r'.from.slope.over * r.up_to.slope.over)
        ≤ bend_between r'.from.slope r.up_to.slope * 1048576 + 2 * (r'.from.slope.over * r.up_to.slope.over)
        = bend-size after.least (min before.greatest 2097152) (bend_of before after) r'.from.slope r.up_to.slope r'.from.near r.up_to.near
        (greater' (min after.greatest 2097152 - before.least) (min before.greatest 2097152 - after.least) down) in
        bent-back (bend_of before after) r.up_to.slope r'.from.slope bent;
  }

-- what is spent of an axis by a turn is spent by one that it may make
bend-spent : (limits : Limits) (axis : ℕ) (before known : List Pulse) (s n : Slopes) (bend pulses most : ℕ) → bend ≡ bend_of s n
    → IsReached (λ slope. IsNear limits.slack slope (steps_along axis before)) s → IsReached (λ slope. IsNear limits.slack slope (steps_along axis known)) n
    → 3 * slice_index limits.accel axis * pulses * 1048576 < 4 * bend * (most / 65536 + 3) → IsBendSpent limits axis before known pulses most
bend-spent limits axis before known s n bend pulses most is r r' full =
    let t = bend-reached _ _ s n r r' in
    let over : ℕ = t.slope.over * t.next.over in
    let size : bend * over ≤ bend_between t.slope t.next * 1048576 + 2 * over = rw is t.size in record {
      slope = t.slope;
      next = t.next;
      is = t.is;
      is_next = t.is_next;
      near = t.near;
      near_next = t.near_next;
      full =
          let a : (3 * slice_index limits.accel axis * pulses * 1048576 + 1) * over ≤ 4 * bend * (most / 65536 + 3) * over
          = mul-le-mul_right over (omega (arith, full)) in
          let b : bend * over * (4 * (most / 65536 + 3)) ≤ (bend_between t.slope t.next * 1048576 + 2 * over) * (4 * (most / 65536 + 3))
          = mul-le-mul_right (4 * (most / 65536 + 3)) size in
          omega (arith, a, b, mul-le 1 1 t.slope.over t.next.over t.is.some t.is_next.some);
    }

too-far : (limits : Limits) (axis : ℕ) (before known : List Pulse) (s n : Slopes) (bend pulses : ℕ) → bend ≡ bend_of s n
    → IsReached (λ slope. IsNear limits.slack slope (steps_along axis before)) s → IsReached (λ slope. IsNear limits.slack slope (steps_along axis known)) n
    → IsFarFromCorner limits axis bend 1048576 pulses → IsTooFar limits axis before known pulses
too-far limits axis before known s n bend pulses is r r' far =
    let t = bend-reached _ _ s n r r' in
    let over : ℕ = t.slope.over * t.next.over in
    let change : ℕ = bend_between t.slope t.next * 1048576 + 2 * over in
    let accel : ℕ = slice_index limits.accel axis in
    let start : ℕ = slice_index limits.start axis in
    let some : 1 * 1 ≤ t.slope.over * t.next.over = mul-le 1 1 t.slope.over t.next.over t.is.some t.is_next.some in
    let size : bend * over ≤ change = rw is t.size in record {
      slope = t.slope;
      next = t.next;
      is = t.is;
      is_next = t.is_next;
      near = t.near;
      near_next = t.near_next;
      by_slack =
          let a : (8 * limits.slack * 1048576 + 1) * over ≤ bend * pulses * over = mul-le-mul_right over (omega (arith, far.by_slack)) in
          let b : bend * over * pulses ≤ change * pulses = mul-le-mul_right pulses size in
          omega (arith, a, b, some);
      by_start =
          let a : (start * start * 1048576 + 1) * over ≤ (bend * pulses + 1048576) * accel * over = mul-le-mul_right over (omega (arith, far.by_start)) in
          let b : bend * over * (pulses * accel) ≤ change * (pulses * accel) = mul-le-mul_right (pulses * accel) size in
          omega (arith, a, b, some);
    }

quarter-spent : (limits : Limits) (axis : ℕ) (known : List Pulse) (slopes : Slopes) (size ramp : ℕ) → size ≡ size_of slopes
    → IsReached (λ slope. IsNear limits.slack slope (steps_along axis known)) slopes
    → 2 * (slice_index limits.accel axis / 4) * 1048576 < size * (ramp / 65536 + 1) → IsQuarterSpent limits axis known ramp
quarter-spent limits axis known slopes size ramp is reached full = record {
  slope = reached.slope;
  is = reached.is;
  near = reached.holds;
  full =
      let over : ℕ = reached.slope.over in
      let a : (2 * (slice_index limits.accel axis / 4) * 1048576 + 1) * over ≤ size * (ramp / 65536 + 1) * over = mul-le-mul_right over (omega (arith, full)) in
      let b : size * over * (ramp / 65536 + 1) ≤ (abs_diff reached.slope.up reached.slope.down * 1048576 + over) * (ramp / 65536 + 1)
      = mul-le-mul_right (ramp / 65536 + 1) (rw is reached.size) in
      omega (arith, a, b, reached.is.some);
}

-- the greater of two sizes is one of them
either : (size m n : ℕ) → size ≡ max m n → (size ≡ m) ⊎ (size ≡ n)
either size m n is = by_case (cases_lt m n) where
  by_case : (m < n) ⊎ (n ≤ m) → (size ≡ m) ⊎ (size ≡ n)
  by_case (inl less) = inr (omega (arith, is, less))
  by_case (inr more) = inl (omega (arith, is, more))

-- along the chord before a corner or along the one behind it
module _ (limits : Limits) (axis : ℕ) (before known : List Pulse) (s n : Slopes) (size : ℕ) (is : size ≡ max (size_of s) (size_of n))
    (r : IsReached (λ slope. IsNear limits.slack slope (steps_along axis before)) s)
    (r' : IsReached (λ slope. IsNear limits.slack slope (steps_along axis known)) n) where
  rate-at : (pulses most : ℕ) → IsFullAlone limits axis size 1048576 most → (288230376151711744 ≤ most)
      ⊎ (IsRateSpent limits axis before most ⊎ (IsRateSpent limits axis known most ⊎ IsBendSpent limits axis before known pulses most))
  rate-at pulses most alone = by_case (either size (size_of s) (size_of n) is) where
    by_case : (size ≡ size_of s) ⊎ (size ≡ size_of n) → (288230376151711744 ≤ most)
        ⊎ (IsRateSpent limits axis before most ⊎ (IsRateSpent limits axis known most ⊎ IsBendSpent limits axis before known pulses most))
    by_case (inl e) = elim (alone-spent limits axis before s size most e r alone) [ inl great ↦ inl great | inr spent ↦ inr (inl spent) ]
    by_case (inr e) = elim (alone-spent limits axis known n size most e r' alone) [ inl great ↦ inl great | inr spent ↦ inr (inr (inl spent)) ]

  quarter-at : (ramp : ℕ) → 2 * (slice_index limits.accel axis / 4) * 1048576 < size * (ramp / 65536 + 1)
      → IsQuarterSpent limits axis before ramp ⊎ IsQuarterSpent limits axis known ramp
  quarter-at ramp full = by_case (either size (size_of s) (size_of n) is) where
    by_case : (size ≡ size_of s) ⊎ (size ≡ size_of n) → IsQuarterSpent limits axis before ramp ⊎ IsQuarterSpent limits axis known ramp
    by_case (inl e) = inl (quarter-spent limits axis before s size ramp e r full)
    by_case (inr e) = inr (quarter-spent limits axis known n size ramp e r' full)

-- any slopes
any : Slopes
any = record { least = 0; greatest = 0 }

-- a corner's lines, and over how many pulses it is taken
module _ (limits : Limits) (before known : List Pulse) (slopes next : List Slopes) (count count' pulses feed most : ℕ) (ramp : Ramp)
    (reached : AreReached limits.slack slopes before) (reached' : AreReached limits.slack next known)
    (all : BendAll limits slopes next count count' pulses feed most ramp) where
  abbrev Spent : ℕ → Type 0
  Spent axis = IsRateSpent limits axis before most ⊎ (IsRateSpent limits axis known most ⊎ IsBendSpent limits axis before known pulses most)

  by_rate : IsFullRate limits all.sizes 1048576 most → (288230376151711744 ≤ most) ⊎ SomeAxis Spent
  by_rate (inl x) = elim (rate-at limits 0 before known (slice_index_or slopes 0 any) (slice_index_or next 0 any)
      (slice_index all.sizes 0) (all.sizes_are.x any)
      (reached.x any) (reached'.x any) pulses most x) [ inl great ↦ inl great | inr spent ↦ inr (inl spent) ]
  by_rate (inr (inl y)) = elim (rate-at limits 1 before known (slice_index_or slopes 1 any) (slice_index_or next 1 any) (slice_index all.sizes 1)
      (all.sizes_are.y any) (reached.y any) (reached'.y any) pulses most y) [ inl great ↦ inl great | inr spent ↦ inr (inr (inl spent)) ]
  by_rate (inr (inr z)) = elim (rate-at limits 2 before known (slice_index_or slopes 2 any) (slice_index_or next 2 any) (slice_index all.sizes 2)
      (all.sizes_are.z any) (reached.z any) (reached'.z any) pulses most z) [ inl great ↦ inl great | inr spent ↦ inr (inr (inr spent)) ]

  by_bend : SomeAxis (λ axis. 3 * slice_index limits.accel axis * pulses * 1048576 < 4 * slice_index all.bends axis * (most / 65536 + 3)) → SomeAxis Spent
  by_bend (inl x) = inl
      (inr (inr (bend-spent limits 0 before known (slice_index_or slopes 0 any) (slice_index_or next 0 any)
      (slice_index all.bends 0) pulses most
      (all.bends_are.x any) (reached.x any) (reached'.x any) x)))
  by_bend (inr (inl y)) =
      inr (inl (inr (inr (bend-spent limits 1 before known (slice_index_or slopes 1 any) (slice_index_or next 1 any)
      (slice_index all.bends 1)
      pulses most (all.bends_are.y any) (reached.y any) (reached'.y any) y))))
  by_bend (inr (inr z)) =
      inr (inr (inr (inr (bend-spent limits 2 before known (slice_index_or slopes 2 any) (slice_index_or next 2 any)
      (slice_index all.bends 2)
      pulses most (all.bends_are.z any) (reached.z any) (reached'.z any) z))))

  squares : (full : ℕ) → full ≤ feed → IsFullCorner limits all.sizes all.bends 1048576 pulses feed most
      → (full ≤ most) ⊎ ((288230376151711744 ≤ most) ⊎ SomeAxis Spent)
  squares full own (inl slow) = inl (omega (arith, own, slow))
  squares full own (inr (inl rate)) = inr (by_rate rate)
  squares full own (inr (inr (inl great))) = inr (inl great)
  squares full own (inr (inr (inr bend))) = inr (inr (by_bend bend))

  quarters : (ramp : ℕ) → IsQuarterRamp limits all.sizes 1048576 ramp → HasQuarter limits before known ramp
  quarters ramp (inl great) = inl great
  quarters ramp (inr (inl x)) = inr (inl (quarter-at limits 0 before known (slice_index_or slopes 0 any) (slice_index_or next 0 any) (slice_index all.sizes 0)
      (all.sizes_are.x any) (reached.x any) (reached'.x any) ramp x))
  quarters ramp (inr (inr (inl y))) = inr (inr (inl (quarter-at limits 1 before known (slice_index_or slopes 1 any) (slice_index_or next 1 any)
      (slice_index all.sizes 1) (all.sizes_are.y any) (reached.y any) (reached'.y any) ramp y)))
  quarters ramp (inr (inr (inr z))) = inr (inr (inr (quarter-at limits 2 before known (slice_index_or slopes 2 any) (slice_index_or next 2 any)
      (slice_index all.sizes 2) (all.sizes_are.z any) (reached.z any) (reached'.z any) ramp z)))

  pub full-at-corner : (line : Line) → HasAll most ramp line → line.full ≤ feed → IsFullAtCorner limits before known pulses line
  full-at-corner line has own = record {
    most = most;
    ramp = ramp;
    most_is = has.most_is;
    ramp_is = has.ramp_is;
    square = squares line.full own all.square;
    up = quarters ramp.up all.up;
    down = quarters ramp.down all.down;
  }

  farthest : SomeAxis (λ axis. IsFarFromCorner limits axis (slice_index all.bends axis) 1048576 (pulses + 1))
      → SomeAxis (λ axis. IsTooFar limits axis before known (pulses + 1))
  farthest (inl x) = inl (too-far limits 0 before known (slice_index_or slopes 0 any) (slice_index_or next 0 any) (slice_index all.bends 0) (pulses + 1)
      (all.bends_are.x any) (reached.x any) (reached'.x any) x)
  farthest (inr (inl y)) =
      inr (inl (too-far limits 1 before known (slice_index_or slopes 1 any) (slice_index_or next 1 any)
      (slice_index all.bends 1) (pulses + 1)
      (all.bends_are.y any) (reached.y any) (reached'.y any) y))
  farthest (inr (inr z)) =
      inr (inr (too-far limits 2 before known (slice_index_or slopes 2 any) (slice_index_or next 2 any)
      (slice_index all.bends 2) (pulses + 1)
      (all.bends_are.z any) (reached.z any) (reached'.z any) z))

  longest-of : count ≡ length before → count' ≡ length known → AreMostPulses limits all.bends 1048576 count count' pulses → IsLongest limits before known pulses
  longest-of count_is count_is' (inl many) = inl many
  longest-of count_is count_is' (inr (inl half)) = inr (inl half)
  longest-of count_is count_is' (inr (inr (inl few))) = inr (inr (inl (omega (arith, count_is, few))))
  longest-of count_is count_is' (inr (inr (inr (inl few)))) = inr (inr (inr (inl (omega (arith, count_is', few)))))
  longest-of count_is count_is' (inr (inr (inr (inr far)))) = inr (inr (inr (inr (farthest far))))

  pub longest : count ≡ length before → count' ≡ length known → IsLongest limits before known pulses
  longest count_is count_is' = longest-of count_is count_is' all.longest
