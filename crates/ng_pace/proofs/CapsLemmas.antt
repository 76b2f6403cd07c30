-- What quotients allow, in whole numbers.
use Rattle.std.proofs.Common.{min, List, arith, ℕ, ◌+◌, ◌-◌, ◌*◌, ◌/◌, ◌<◌, ◌≤◌, ◌≡◌, ◌⊎◌, inl, inr, max, slice_index}
use Rattle.std.proofs.Math.Nat.{lt-div-mul-add, mul-le-mul_left, mul-le-mul_right}
use Rattle.std.proofs.lemmas.Nat.{le-div, mul-le}
use Rattle.std.proofs.lemmas.Bool.{cases_lt}
use Rattle.ng_pace.specs.declared.limits.Limits.{Limits}
use Rattle.ng_pace.specs.Axes.{AreMostPulses, IsFarFromCorner, IsFullAlone, IsFullCorner, IsFullRate, IsQuarterRamp, IsAlong, IsCorner, IsNearCorner}

-- a cap that is a quotient by the slope
pub by_quotient : (slope number total q cap : ℕ) → slope * q ≤ number → number ≤ total → cap ≤ q * 65536 → slope * cap ≤ total * 65536
by_quotient slope number total q cap part whole small =
    let scaled : slope * cap ≤ slope * (q * 65536) = mul-le-mul_left slope small in
    omega arith

-- the square of a rate that is a quotient by the slope
pub by_square : (slope number q most : ℕ) → slope * q ≤ number → most ≤ q * q * 65536 → slope * slope * most ≤ number * number * 65536
by_square slope number q most part small =
    let squares : slope * q * (slope * q) ≤ number * number = mul-le (slope * q) (slope * q) number number part part in
    let scaled : slope * slope * most ≤ slope * slope * (q * q * 65536) = mul-le-mul_left (slope * slope) small in
    omega arith

-- the square of two steps a pulse is the greatest square
pub square_fits : (rate : ℕ) → rate ≤ 2097152 → rate * rate * 65536 ≤ 288230376151711744
square_fits rate small = let squares : rate * rate ≤ 2097152 * 2097152 = mul-le rate rate 2097152 2097152 small small in omega arith

-- less of a slope, a square or a ramp asks for less
pub along_less : (limits : Limits) (axis slope over most ramp most' ramp' : ℕ) → most' ≤ most → ramp' ≤ ramp → IsAlong limits axis slope over most ramp
    → IsAlong limits axis slope over most' ramp'
along_less limits axis slope over most ramp most' ramp' less slower respected = record {
  accel = let scaled : slope * ramp' ≤ slope * ramp = mul-le-mul_left slope slower in omega (arith, respected.accel);
  rate = λ some. let scaled : slope * slope * most' ≤ slope * slope * most = mul-le-mul_left (slope * slope) less in omega (arith, respected.rate some);
}

-- what is taken of the acceleration by a turn, and what is left of it
pub bent : (slope ramp pulses bend most accel q used left : ℕ) → slope * q ≤ left * 2097152 → ramp ≤ q * 65536
    → bend * most ≤ used * (pulses * 1048576) * 65536 → 4 * bend * most ≤ 3 * accel * pulses * 1048576 * 65536
    → (left + used ≤ accel) ⊎ (4 * left ≤ accel)
    → slope * ramp * pulses + 2 * bend * most ≤ 2 * accel * pulses * 1048576 * 65536
bent slope ramp pulses bend most accel q used left part slower takes quarter (inl fits) =
    let scaled : slope * ramp * pulses ≤ left * 2097152 * 65536 * pulses
    = mul-le-mul_right pulses (by_quotient slope (left * 2097152) (left * 2097152) q ramp part (omega arith) slower) in
    let all : (left + used) * pulses ≤ accel * pulses = mul-le-mul_right pulses fits in
    omega arith
bent slope ramp pulses bend most accel q used left part slower takes quarter (inr fits) =
    let scaled : slope * ramp * pulses ≤ left * 2097152 * 65536 * pulses
    = mul-le-mul_right pulses (by_quotient slope (left * 2097152) (left * 2097152) q ramp part (omega arith) slower) in
    let all : 4 * left * pulses ≤ accel * pulses = mul-le-mul_right pulses fits in
    omega arith

-- the square of less than a pulse a second more than whole ones, times the turn, as the quotient rounded up takes it
pub takes_up : (whole most bend over used more : ℕ) → most < (whole + 1) * 65536 → (whole + 1) * bend ≤ used * more → more ≤ over
    → bend * most ≤ used * over * 65536
takes_up whole most bend over used more small up capped =
    let a : bend * most ≤ bend * ((whole + 1) * 65536) = mul-le-mul_left bend (omega arith) in
    let b : used * more ≤ used * over = mul-le-mul_left used capped in
    omega arith

-- three quarters of a quotient
pub three_quarters : (bend total square most : ℕ) → bend * square ≤ total → most ≤ square / 4 * 3 * 65536 → 4 * bend * most ≤ 3 * total * 65536
three_quarters bend total square most part small =
    let scaled : bend * most ≤ bend * (square / 4 * 3 * 65536) = mul-le-mul_left bend small in
    let quarter : bend * (square / 4 * 4) ≤ bend * square = mul-le-mul_left bend (omega arith) in
    omega arith

-- what is left of the acceleration: what the turn doesn't take, or a quarter
pub left_of : (accel used left : ℕ) → left ≡ max (accel - used) (accel / 4) → (left + used ≤ accel) ⊎ (4 * left ≤ accel)
left_of accel used left is = by_case (cases_lt (accel / 4) (accel - used)) where
  by_case : (accel / 4 < accel - used) ⊎ (accel - used ≤ accel / 4) → (left + used ≤ accel) ⊎ (4 * left ≤ accel)
  by_case (inl more) = inl (omega (arith, is))
  by_case (inr less) = inr (omega (arith, is))

-- a pulse a second is never too fast for a turn of two steps a pulse
pub quarter_of : (bend cap most accel pulses : ℕ) → 4 * bend * cap ≤ 3 * accel * pulses * 1048576 * 65536 → most ≤ max cap 65536 → bend ≤ 2097152 → 3 ≤ accel
    → 0 < pulses
    → 4 * bend * most ≤ 3 * accel * pulses * 1048576 * 65536
quarter_of bend cap most accel pulses respected small flat some long = by_case (cases_lt cap 65536) where
  by_case : (cap < 65536) ⊎ (65536 ≤ cap) → 4 * bend * most ≤ 3 * accel * pulses * 1048576 * 65536
  by_case (inl slow) =
      let scaled : bend * most ≤ 2097152 * 65536 = mul-le bend most 2097152 65536 flat (omega arith) in
      let long_enough : 3 * 1 ≤ accel * pulses = mul-le 3 1 accel pulses some long in
      omega arith
  by_case (inr fast) = let scaled : bend * most ≤ bend * cap = mul-le-mul_left bend (omega arith) in omega arith

-- nor for a rate of a step a second, where the slope is a step a pulse at most
pub rate_of : (slope rate cap most : ℕ) → slope * slope * cap ≤ rate * rate * 1048576 * 1048576 * 65536 → most ≤ max cap 65536 → slope ≤ 1048576 → 0 < rate
    → slope * slope * most ≤ rate * rate * 1048576 * 1048576 * 65536
rate_of slope rate cap most respected small flat some = by_case (cases_lt cap 65536) where
  by_case : (cap < 65536) ⊎ (65536 ≤ cap) → slope * slope * most ≤ rate * rate * 1048576 * 1048576 * 65536
  by_case (inl slow) =
      let squares : slope * slope ≤ 1048576 * 1048576 = mul-le slope slope 1048576 1048576 flat flat in
      let scaled : slope * slope * most ≤ 1048576 * 1048576 * 65536 = mul-le (slope * slope) most (1048576 * 1048576) 65536 squares (omega arith) in
      let fast_enough : 1 * 1 ≤ rate * rate = mul-le 1 1 rate rate some some in
      omega arith
  by_case (inr fast) = let scaled : slope * slope * most ≤ slope * slope * cap = mul-le-mul_left (slope * slope) (omega arith) in omega arith

-- a corner's promise, from that of its axis
pub corner_of : (limits : Limits) (axis slope bend pulses most ramp ramp' cap : ℕ)
    → slope * ramp * pulses + 2 * bend * most ≤ 2 * slice_index limits.accel axis * pulses * 1048576 * 65536 → ramp' ≤ ramp
    → (0 < slice_index limits.rate axis → slope * slope * cap ≤ slice_index limits.rate axis * slice_index limits.rate axis * 1048576 * 1048576 * 65536)
    → most ≤ max cap 65536 → slope ≤ 1048576
    → IsCorner limits axis slope bend 1048576 pulses most ramp'
corner_of limits axis slope bend pulses most ramp ramp' cap respected slower fast small flat = record {
  accel = let scaled : slope * ramp' * pulses ≤ slope * ramp * pulses = mul-le-mul_right pulses (mul-le-mul_left slope slower) in omega (arith, respected);
  rate = λ some. rate_of slope (slice_index limits.rate axis) cap most (fast some) small flat some;
}

-- a lesser ramp takes no more
pub less-left : (slope pulses ramp ramp' turn all : ℕ) → ramp' ≤ ramp → slope * ramp * pulses + turn ≤ all → slope * ramp' * pulses + turn ≤ all
less-left slope pulses ramp ramp' turn all slower respected =
    let scaled : slope * ramp' * pulses ≤ slope * ramp * pulses = mul-le-mul_right pulses (mul-le-mul_left slope slower) in omega (arith, respected)

-- as does a turn that doesn't count
pub less-quarter : (pull bend most all : ℕ) → pull ≤ bend → 4 * bend * most ≤ all → 4 * pull * most ≤ all
less-quarter pull bend most all less respected = let scaled : pull * most ≤ bend * most = mul-le-mul_right most less in omega (arith, respected)

-- the pulses of a corner, by the slack or by the rate at which a motor stops at once
pub near_of : (limits : Limits) (axis bend by_slack by_start quotient : ℕ) → bend * by_slack ≤ 8 * limits.slack * 1048576 → bend * by_start ≤ quotient * 1048576
    → quotient * slice_index limits.accel axis ≤ slice_index limits.start axis * slice_index limits.start axis
    → IsNearCorner limits axis bend 1048576 (max by_slack by_start)
near_of limits axis bend by_slack by_start quotient near far start = by_case (cases_lt by_slack by_start) where
  by_case : (by_slack < by_start) ⊎ (by_start ≤ by_slack) → IsNearCorner limits axis bend 1048576 (max by_slack by_start)
  by_case (inl more) =
      let scaled : bend * by_start * slice_index limits.accel axis ≤ quotient * 1048576 * slice_index limits.accel axis
      = mul-le-mul_right (slice_index limits.accel axis) far in
      let is : max by_slack by_start ≡ by_start = omega arith in
      inr (rw is (omega arith))
  by_case (inr less) = let is : max by_slack by_start ≡ by_slack = omega arith in inl (rw is near)

-- over fewer pulses an axis is nearer
pub near_less : (limits : Limits) (axis bend over pulses pulses' : ℕ) → pulses' ≤ pulses → IsNearCorner limits axis bend over pulses
    → IsNearCorner limits axis bend over pulses'
near_less limits axis bend over pulses pulses' less (inl near) = inl (let scaled : bend * pulses' ≤ bend * pulses = mul-le-mul_left bend less in omega arith)
near_less limits axis bend over pulses pulses' less (inr near) =
    inr (let scaled : bend * pulses' * slice_index limits.accel axis ≤ bend * pulses * slice_index limits.accel axis
    = mul-le-mul_right (slice_index limits.accel axis) (mul-le-mul_left bend less) in omega arith)

-- the rate that an axis allows is the greatest
pub root_of : (slope number limit : ℕ) → 0 < slope → 0 < limit → number ≡ limit * 1048576
    → (2097152 ≤ min (number / slope) 2097152) ⊎ ((0 < limit) × (limit * 1048576 < slope * (min (number / slope) 2097152 + 1)))
root_of slope number limit some more is = by_case (cases_lt (number / slope) 2097152) where
  by_case : (number / slope < 2097152) ⊎ (2097152 ≤ number / slope)
      → (2097152 ≤ min (number / slope) 2097152) ⊎ ((0 < limit) × (limit * 1048576 < slope * (min (number / slope) 2097152 + 1)))
  by_case (inl small) =
      let less : min (number / slope) 2097152 ≡ number / slope = omega arith in
      let next : number < number / slope * slope + slope = lt-div-mul-add some in
      inr (more, rw less (omega (arith, next, is)))
  by_case (inr great) = inl (omega arith)

-- the least of three is one of them
least_of : (x y z m : ℕ) → m ≡ min (min x y) z → (m ≡ x) ⊎ ((m ≡ y) ⊎ (m ≡ z))
least_of x y z m is = by_case (cases_lt x y) (cases_lt (min x y) z) where
  by_case : (x < y) ⊎ (y ≤ x) → (min x y < z) ⊎ (z ≤ min x y) → (m ≡ x) ⊎ ((m ≡ y) ⊎ (m ≡ z))
  by_case (inl a) (inl b) = inl (omega (arith, is))
  by_case (inr a) (inl b) = inr (inl (omega (arith, is)))
  by_case a (inr b) = inr (inr (omega (arith, is)))

-- the rate that the axes allow is that of one of them
pub full-rate : (limits : Limits) (slopes : List ℕ) (x y z m : ℕ) → m ≡ min (min x y) z
    → IsFullAlone limits 0 (slice_index slopes 0) 1048576 x → IsFullAlone limits 1 (slice_index slopes 1) 1048576 y
    → IsFullAlone limits 2 (slice_index slopes 2) 1048576 z → IsFullRate limits slopes 1048576 m
full-rate limits slopes x y z m is a b c = by_case (least_of x y z m is) where
  by_case : (m ≡ x) ⊎ ((m ≡ y) ⊎ (m ≡ z)) → IsFullRate limits slopes 1048576 m
  by_case (inl e) = inl (record { rate = a.rate; square = omega (arith, e, a.square); full = a.full })
  by_case (inr (inl e)) = inr (inl (record { rate = b.rate; square = omega (arith, e, b.square); full = b.full }))
  by_case (inr (inr e)) = inr (inr (record { rate = c.rate; square = omega (arith, e, c.square); full = c.full }))

-- what an axis may turn at is three quarters of its acceleration, but for less than 3
pub most_full : (bend accel pulses number square most : ℕ) → 0 < bend → bend ≤ 2097152
    → number ≡ min (min (accel * pulses) 18446744073709551615 * 1048576) 18446744073709551615
    → square ≡ min (number / bend / 4 * 3) 18446744073709551615 → most ≡ min (square * 65536) 18446744073709551615
    → (288230376151711744 ≤ most) ⊎ (3 * accel * pulses * 1048576 < 4 * bend * (most / 65536 + 3))
most_full bend accel pulses number square most some flat number-is square-is most-is = by_case (cases_lt number 18446744073709551615) where
  exact : number < 18446744073709551615 → (number / bend / 4 * 3 * 65536 < 18446744073709551615) ⊎ (18446744073709551615 ≤ number / bend / 4 * 3 * 65536)
      → (288230376151711744 ≤ most) ⊎ (3 * accel * pulses * 1048576 < 4 * bend * (most / 65536 + 3))
  exact small (inl fits) =
      let whole : accel * pulses * 1048576 ≡ number = omega (arith, number-is, small) in
      let next : number < number / bend * bend + bend = lt-div-mul-add some in
      let quarter : bend * (number / bend + 1) ≤ bend * (number / bend / 4 * 4 + 4) = mul-le-mul_left bend (omega arith) in
      let is : most / 65536 ≡ number / bend / 4 * 3 = omega (arith, square-is, most-is, fits) in
      inr (rw is (omega (arith, whole, next, quarter)))
  exact small (inr over) = inl (omega (arith, square-is, most-is, over))

  by_case : (number < 18446744073709551615) ⊎ (18446744073709551615 ≤ number)
      → (288230376151711744 ≤ most) ⊎ (3 * accel * pulses * 1048576 < 4 * bend * (most / 65536 + 3))
  by_case (inl small) = exact small (cases_lt (number / bend / 4 * 3 * 65536) 18446744073709551615)
  by_case (inr great) =
      let many : 8796093022207 ≤ number / bend = le-div 8796093022207 number bend some (omega (arith, great, flat)) in
      inl (omega (arith, many, square-is, most-is))

-- what is full stays so where more is allowed
more-bend : (bend number x m : ℕ) → x ≤ m → (288230376151711744 ≤ x) ⊎ (number < 4 * bend * (x / 65536 + 3))
    → (288230376151711744 ≤ m) ⊎ (number < 4 * bend * (m / 65536 + 3))
more-bend bend number x m more (inl great) = inl (omega (arith, more, great))
more-bend bend number x m more (inr full) =
    inr (let scaled : 4 * bend * (x / 65536 + 3) ≤ 4 * bend * (m / 65536 + 3) = mul-le-mul_left (4 * bend) (omega (arith, more)) in omega (arith, full, scaled))

more-rate : (limits : Limits) (slopes : List ℕ) (x m : ℕ) → x ≤ m → IsFullRate limits slopes 1048576 x → IsFullRate limits slopes 1048576 m
more-rate limits slopes x m more (inl a) = inl (record { rate = a.rate; square = omega (arith, more, a.square); full = a.full })
more-rate limits slopes x m more (inr (inl a)) = inr (inl (record { rate = a.rate; square = omega (arith, more, a.square); full = a.full }))
more-rate limits slopes x m more (inr (inr a)) = inr (inr (record { rate = a.rate; square = omega (arith, more, a.square); full = a.full }))

-- the square at a corner is no less than one of those that bound it
pub full-corner : (limits : Limits) (slopes bends : List ℕ) (pulses feed a x y z m : ℕ) → m ≡ max (min (min (min (min a feed) x) y) z) 65536
    → IsFullRate limits slopes 1048576 a
    → ((288230376151711744 ≤ x) ⊎ (3 * slice_index limits.accel 0 * pulses * 1048576 < 4 * slice_index bends 0 * (x / 65536 + 3)))
    → ((288230376151711744 ≤ y) ⊎ (3 * slice_index limits.accel 1 * pulses * 1048576 < 4 * slice_index bends 1 * (y / 65536 + 3)))
    → ((288230376151711744 ≤ z) ⊎ (3 * slice_index limits.accel 2 * pulses * 1048576 < 4 * slice_index bends 2 * (z / 65536 + 3)))
    → IsFullCorner limits slopes bends 1048576 pulses feed m
full-corner limits slopes bends pulses feed a x y z m is rate at_x at_y at_z = by_feed (cases_lt m feed) where
  by_z : m < feed → m < a → m < x → m < y → (m < z) ⊎ (z ≤ m) → IsFullCorner limits slopes bends 1048576 pulses feed m
  by_z b c d e (inl f) = absurd (omega (arith, is, b, c, d, e, f))
  by_z b c d e (inr f) = elim (more-bend (slice_index bends 2) (3 * slice_index limits.accel 2 * pulses * 1048576) z m f at_z)
      [ inl great ↦ inr (inr (inl great)) | inr full ↦ inr (inr (inr (inr (inr full)))) ]

  by_y : m < feed → m < a → m < x → (m < y) ⊎ (y ≤ m) → IsFullCorner limits slopes bends 1048576 pulses feed m
  by_y b c d (inl e) = by_z b c d e (cases_lt m z)
  by_y b c d (inr e) = elim (more-bend (slice_index bends 1) (3 * slice_index limits.accel 1 * pulses * 1048576) y m e at_y)
      [ inl great ↦ inr (inr (inl great)) | inr full ↦ inr (inr (inr (inr (inl full)))) ]

  by_x : m < feed → m < a → (m < x) ⊎ (x ≤ m) → IsFullCorner limits slopes bends 1048576 pulses feed m
  by_x b c (inl d) = by_y b c d (cases_lt m y)
  by_x b c (inr d) = elim (more-bend (slice_index bends 0) (3 * slice_index limits.accel 0 * pulses * 1048576) x m d at_x)
      [ inl great ↦ inr (inr (inl great)) | inr full ↦ inr (inr (inr (inl full))) ]

  by_a : m < feed → (m < a) ⊎ (a ≤ m) → IsFullCorner limits slopes bends 1048576 pulses feed m
  by_a b (inl c) = by_x b c (cases_lt m x)
  by_a b (inr c) = inr (inl (more-rate limits slopes a m c rate))

  by_feed : (m < feed) ⊎ (feed ≤ m) → IsFullCorner limits slopes bends 1048576 pulses feed m
  by_feed (inl b) = by_a b (cases_lt m a)
  by_feed (inr b) = inl b

-- a quarter of the acceleration is left for the ramp
pub quarter-ramp : (limits : Limits) (slopes : List ℕ) (x y z m : ℕ) → m ≡ min (min x y) z
    → ((288230376151711744 ≤ x) ⊎ (2 * (slice_index limits.accel 0 / 4) * 1048576 < slice_index slopes 0 * (x / 65536 + 1)))
    → ((288230376151711744 ≤ y) ⊎ (2 * (slice_index limits.accel 1 / 4) * 1048576 < slice_index slopes 1 * (y / 65536 + 1)))
    → ((288230376151711744 ≤ z) ⊎ (2 * (slice_index limits.accel 2 / 4) * 1048576 < slice_index slopes 2 * (z / 65536 + 1)))
    → IsQuarterRamp limits slopes 1048576 m
quarter-ramp limits slopes x y z m is at_x at_y at_z = by_case (least_of x y z m is) where
  by_case : (m ≡ x) ⊎ ((m ≡ y) ⊎ (m ≡ z)) → IsQuarterRamp limits slopes 1048576 m
  by_case (inl e) = rw e (elim at_x [ inl great ↦ inl great | inr full ↦ inr (inl full) ])
  by_case (inr (inl e)) = rw e (elim at_y [ inl great ↦ inl great | inr full ↦ inr (inr (inl full)) ])
  by_case (inr (inr e)) = rw e (elim at_z [ inl great ↦ inl great | inr full ↦ inr (inr (inr full)) ])

-- over one pulse more an axis is too far from its lines
pub far_of : (limits : Limits) (axis bend product square eighth by_slack by_start : ℕ) → 0 < bend → bend ≤ 2097152 → 0 < slice_index limits.accel axis
    → slice_index limits.accel axis ≤ 1000000000 → product ≡ min (limits.slack * 8388608) 18446744073709551615
    → square ≡ min (slice_index limits.start axis * slice_index limits.start axis) 18446744073709551615
    → eighth ≡ min (square / slice_index limits.accel axis * 1048576) 18446744073709551615 → by_slack ≡ product / bend → by_start ≡ eighth / bend
    → (4294967296 ≤ max by_slack by_start) ⊎ IsFarFromCorner limits axis bend 1048576 (max by_slack by_start + 1)
far_of limits axis bend product square eighth by_slack by_start some flat more few product_is square_is eighth_is slack_is start_is =
    by_case (cases_lt (max by_slack by_start) 4294967296)
  where
    accel : ℕ
    accel = slice_index limits.accel axis

    start : ℕ
    start = slice_index limits.start axis

    by_case : (max by_slack by_start < 4294967296) ⊎ (4294967296 ≤ max by_slack by_start)
        → (4294967296 ≤ max by_slack by_start) ⊎ IsFarFromCorner limits axis bend 1048576 (max by_slack by_start + 1)
    by_case (inr great) = inl great
    by_case (inl small) = inr (record { by_slack = far_slack; by_start = far_start }) where
      next_slack : product < product / bend * bend + bend
      next_slack = lt-div-mul-add some

      next_start : eighth < eighth / bend * bend + bend
      next_start = lt-div-mul-add some

      reach : bend * 4294967296 ≤ 2097152 * 4294967296
      reach = mul-le-mul_right 4294967296 flat

      bound_slack : product / bend * bend ≤ (max by_slack by_start) * bend
      bound_slack = mul-le-mul_right bend (omega (arith, slack_is))

      bound_start : eighth / bend * bend ≤ (max by_slack by_start) * bend
      bound_start = mul-le-mul_right bend (omega (arith, start_is))

      below : (max by_slack by_start) * bend ≤ 4294967296 * bend
      below = mul-le-mul_right bend (omega arith)

      far_slack : 8 * limits.slack * 1048576 < bend * (max by_slack by_start + 1)
      far_slack = omega (arith, product_is, next_slack, bound_slack, below, reach, flat)

      whole : eighth ≡ square / accel * 1048576
      whole = omega (arith, eighth_is, next_start, bound_start, below, reach, flat)

      next_square : square < square / accel * accel + accel
      next_square = lt-div-mul-add more

      slow : square / accel * 1048576 * accel ≤ (bend * (max by_slack by_start) + bend) * accel
      slow = mul-le-mul_right accel (omega (arith, whole, next_start, bound_start))

      fits : square ≡ start * start
      fits =
          let most : (square / accel + 1) * accel ≤ (square / accel + 1) * 1000000000 = mul-le-mul_left (square / accel + 1) few in
          omega (arith, square_is, next_square, most, whole, next_start, bound_start, below, reach, flat)

      far_start : start * start * 1048576 < (bend * (max by_slack by_start + 1) + 1048576) * accel
      far_start = omega (arith, fits, next_square, slow)

-- over more pulses it is farther
far-more : (limits : Limits) (axis bend over pulses pulses' : ℕ) → pulses ≤ pulses' → IsFarFromCorner limits axis bend over pulses
    → IsFarFromCorner limits axis bend over pulses'
far-more limits axis bend over pulses pulses' more far =
    let scaled : bend * pulses ≤ bend * pulses' = mul-le-mul_left bend more in record {
      by_slack = omega (arith, far.by_slack, scaled);
      by_start =
          let all : (bend * pulses + over) * slice_index limits.accel axis ≤ (bend * pulses' + over) * slice_index limits.accel axis
          = mul-le-mul_right (slice_index limits.accel axis) (omega (arith, scaled)) in
          omega (arith, far.by_start, all);
    }

-- the least of all that bounds a corner
pub most-pulses : (limits : Limits) (bends : List ℕ) (before after half x y z pulses : ℕ)
    → pulses ≡ min (min (min (max (min (min half before) after) 1) x) y) z → half ≡ min (limits.half * 2) 18446744073709551615
    → (4294967296 ≤ x) ⊎ IsFarFromCorner limits 0 (slice_index bends 0) 1048576 (x + 1)
    → (4294967296 ≤ y) ⊎ IsFarFromCorner limits 1 (slice_index bends 1) 1048576 (y + 1)
    → (4294967296 ≤ z) ⊎ IsFarFromCorner limits 2 (slice_index bends 2) 1048576 (z + 1) → AreMostPulses limits bends 1048576 before after pulses
most-pulses limits bends before after half x y z pulses is half_is far_x far_y far_z = by_z (cases_lt pulses z) where
  by_half : pulses < z → pulses < y → pulses < x → (pulses < 2 * limits.half) ⊎ (2 * limits.half ≤ pulses) → (pulses < before) ⊎ (before ≤ pulses)
      → AreMostPulses limits bends 1048576 before after pulses
  by_half c b a (inr all) either = inr (inl all)
  by_half c b a (inl less) (inr all) = inr (inr (inl all))
  by_half c b a (inl less) (inl less') = by_size (cases_lt pulses 4294967296) where
    by_size : (pulses < 4294967296) ⊎ (4294967296 ≤ pulses) → AreMostPulses limits bends 1048576 before after pulses
    by_size (inr great) = inl great
    by_size (inl small) = inr (inr (inr (inl (omega (arith, is, half_is, a, b, c, less, less', small)))))

  by_x : pulses < z → pulses < y → (pulses < x) ⊎ (x ≤ pulses) → AreMostPulses limits bends 1048576 before after pulses
  by_x c b (inl a) = by_half c b a (cases_lt pulses (2 * limits.half)) (cases_lt pulses before)
  by_x c b (inr a) = elim far_x
      [ inl great ↦ inl (omega (arith, a, great)) | inr far ↦ inr (inr (inr (inr (inl (far-more limits 0 _ 1048576 _ (pulses + 1) (omega (arith, a)) far))))) ]

  by_y : pulses < z → (pulses < y) ⊎ (y ≤ pulses) → AreMostPulses limits bends 1048576 before after pulses
  by_y c (inl b) = by_x c b (cases_lt pulses x)
  by_y c (inr b) = elim far_y [
    | inl great ↦ inl (omega (arith, b, great))
    | inr far ↦ inr
        (inr (inr (inr (inr (inl (far-more limits 1 _ 1048576 _ (pulses + 1) (omega (arith, b)) far))))))
  ]

  by_z : (pulses < z) ⊎ (z ≤ pulses) → AreMostPulses limits bends 1048576 before after pulses
  by_z (inl c) = by_y c (cases_lt pulses y)
  by_z (inr c) = elim far_z [
    | inl great ↦ inl (omega (arith, c, great))
    | inr far ↦ inr
        (inr (inr (inr (inr (inr (far-more limits 2 _ 1048576 _ (pulses + 1) (omega (arith, c)) far))))))
  ]
