-- Error accumulators make the steps of the closed formula.
use Rattle.std.proofs.Common.{arith, ℕ, zero, suc, ◌+◌, ◌-◌, ◌*◌, ◌/◌, ◌%◌, ◌<◌, ◌≤◌, ◌≡◌, ◌⊎◌, inl, inr, refl, ap}
use Rattle.std.proofs.Common.{◌∙◌, ℤ, pos, negsuc, neg_ℤ, ◌-ℤ◌, ◌*ℤ◌, ◌∷◌, Bool}
use Rattle.std.proofs.lemmas.Int.{ints, by_lt_z, to_z-of_z}
use Rattle.std.proofs.Common.{to_z, of_z, ◌^◌, rules}
use mir.Syntax.{w64}
use mir.Val.{SFits}
use Rattle.std.proofs.lemmas.Nat.{div-mul-add, mul-le, div_below}
use Rattle.std.proofs.lemmas.Bool.{cases_lt}
use Rattle.std.specs.Prelude.{unsigned_abs, ◌≤ℤ◌, int_le}
use Rattle.ng_step.specs.declared.steps.Distances.{Distances}
use Rattle.ng_canon.specs.declared.item.AxisStep.{AxisStep}
use Rattle.ng_canon.specs.declared.item.AxisStep.TheVariants.{Still}
use Rattle.ng_step.specs.declared.spread.Spread.{Spread}
use Rattle.ng_num.specs.Rounding.{nearest}
use Rattle.ng_step.specs.Line.{made, toward, point_on_line, in_steps, IsByHalfIn, step_toward, axis_step, line_from, largest, line_pulses}
use Rattle.ng_step.specs.Spread.{Holds, IsSpread, SpreadStepSpec}
use Rattle.ng_step.specs.LineInvariant.{axes_from, spread_step, pulses_left, IsLineInvariant}
use Rattle.ng_step.specs.declared.line.LinePulses.TheInside.{Inside}

made_is : (n d k q error : ℕ) → error < 2 * n → 2 * k * d + n ≡ q * (2 * n) + error → made n d k ≡ q
unfolding made
made_is n d k q error small is = ap (λ x. x / (2 * n)) is ∙ div-mul-add q (2 * n) error small

pub made_none : (n d : ℕ) → 0 < n → made n d 0 ≡ 0
made_none n d h = made_is n d 0 0 n (omega arith) (omega arith)

-- a line ends at its end
pub made_all : (n d : ℕ) → 0 < n → made n d n ≡ d
made_all n d h = made_is n d n d n (omega arith) (omega arith)

pub holds_none : (n d : ℕ) → 0 < n → Holds n d 0 n
holds_none n d h = let e = made_none n d h in record { small = omega arith; is = rw e (omega arith) }

-- a pulse with a step
pub holds_step : (n d k error : ℕ) → d ≤ n → 2 * n ≤ error + 2 * d → Holds n d k error
    → (made n d (k + 1) ≡ made n d k + 1) × Holds n d (k + 1) (error + 2 * d - 2 * n)
holds_step n d k error le full h =
    let small : error + 2 * d - 2 * n < 2 * n = omega (arith, h.small) in
    let is : 2 * (k + 1) * d + n ≡ (made n d k + 1) * (2 * n) + (error + 2 * d - 2 * n) = omega (arith, h.is) in
    let e = made_is n d (k + 1) (made n d k + 1) (error + 2 * d - 2 * n) small is in
    (e, record { small = small; is = rw e is })

-- a pulse without one
pub holds_rest : (n d k error : ℕ) → error + 2 * d < 2 * n → Holds n d k error
    → (made n d (k + 1) ≡ made n d k) × Holds n d (k + 1) (error + 2 * d)
holds_rest n d k error small h =
    let is : 2 * (k + 1) * d + n ≡ made n d k * (2 * n) + (error + 2 * d) = omega (arith, h.is) in
    let e = made_is n d (k + 1) (made n d k) (error + 2 * d) small is in
    (e, record { small = small; is = rw e is })

-- every number of pulses has its error
pub holds_at : (n d k : ℕ) → 0 < n → Holds n d k ((2 * k * d + n) % (2 * n))
unfolding made
holds_at n d k h = record { small = omega arith; is = omega arith }

step_or_rest : (n d k error : ℕ) → d ≤ n → Holds n d k error → (made n d k ≤ made n d (k + 1)) × (made n d (k + 1) ≤ made n d k + 1)
step_or_rest n d k error le h = elim (cases_lt (error + 2 * d) (2 * n)) [
  | inl small ↦ (let e = (holds_rest n d k error small h).0 in (omega arith, omega arith))
  | inr full ↦ (let e = (holds_step n d k error le full h).0 in (omega arith, omega arith))
]

-- at most one step per pulse, and never back
pub made_more : (n d k : ℕ) → 0 < n → d ≤ n → (made n d k ≤ made n d (k + 1)) × (made n d (k + 1) ≤ made n d k + 1)
made_more n d k some le = step_or_rest n d k _ le (holds_at n d k some)

-- and never past the end
pub made_le : (n d k : ℕ) → 0 < n → k ≤ n → made n d k ≤ d
unfolding made
made_le n d k some le =
    let product : 2 * k * d ≤ 2 * n * d = mul-le (2 * k) d (2 * n) d (omega arith) (omega arith) in
    let below : made n d k < suc d = div_below (2 * k * d + n) (2 * n) (suc d) (omega arith) (omega arith) in
    omega arith

-- ---- lines

pub line_at_none : (n : ℕ) (a z : ℤ) → 0 < n → point_on_line n a z 0 ≡ a
unfolding point_on_line
line_at_none n a z some = rw made_none (grind (arith, ints))

-- a line ends at its end
pub line_at_all : (n : ℕ) (a z : ℤ) → 0 < n → point_on_line n a z n ≡ z
unfolding point_on_line
line_at_all n a z some = rw made_all (grind (arith, ints))

-- an axis makes at most one step per pulse
pub line_at_more : (n k : ℕ) (a z : ℤ) → 0 < n → unsigned_abs (z -ℤ a) ≤ n → unsigned_abs (point_on_line n a z (k + 1) -ℤ point_on_line n a z k) ≤ 1
unfolding point_on_line
line_at_more n k a z some le =
    let more = made_more n (unsigned_abs (z -ℤ a)) k some le in
    apart a z (made n (unsigned_abs (z -ℤ a)) k) (made n (unsigned_abs (z -ℤ a)) (k + 1)) more.0 more.1
  where
    apart : (a z : ℤ) (m m' : ℕ) → m ≤ m' → m' ≤ m + 1 → unsigned_abs (toward a z m' -ℤ toward a z m) ≤ 1
    apart a z m m' h k = grind (arith, ints)

-- a line stays between its ends
pub line_at_between : (n k : ℕ) (a z low high : ℤ) → 0 < n → k ≤ n → low ≤ℤ a → low ≤ℤ z → a ≤ℤ high → z ≤ℤ high
    → (low ≤ℤ point_on_line n a z k) × (point_on_line n a z k ≤ℤ high)
unfolding point_on_line
line_at_between n k a z low high some le al zl ah zh =
    let m = made_le n (unsigned_abs (z -ℤ a)) k some le in
    inside a z low high (made n (unsigned_abs (z -ℤ a)) k) m al zl ah zh
  where
    inside : (a z low high : ℤ) (m : ℕ) → m ≤ unsigned_abs (z -ℤ a) → low ≤ℤ a → low ≤ℤ z → a ≤ℤ high → z ≤ℤ high
        → (low ≤ℤ toward a z m) × (toward a z m ≤ℤ high)
    inside a z low high m h al zl ah zh = grind (arith, ints)

-- ---- half a step

nearest_is : (n s : ℕ) → 0 < s → (nearest n s * (2 * s) ≤ 2 * n + s) × (2 * n < nearest n s * (2 * s) + s)
nearest_is n s some = (omega arith, omega arith)

neg_scaled : (m s : ℕ) → neg_ℤ (pos m) *ℤ pos s ≡ neg_ℤ (pos (m * s))
neg_scaled zero s = grind (arith, ints)
neg_scaled (suc m) s = refl

pub in_steps_near : (p low high : ℤ) (s : ℕ) → 0 < s → low ≤ℤ p → p ≤ℤ high → IsByHalfIn low high s (in_steps p s)
unfolding in_steps
in_steps_near (pos n) low high s some lo hi = let e = nearest_is n s some in (omega (arith, ints), omega (arith, ints))
in_steps_near (negsuc n) low high s some lo hi =
    let e = nearest_is (suc n) s some in
    simp neg_scaled (omega (arith, ints), omega (arith, ints))

scaled_le : (x y : ℤ) (s : ℕ) → x ≤ℤ y → (x *ℤ pos s *ℤ pos 2) ≤ℤ (y *ℤ pos s *ℤ pos 2)
scaled_le (pos a) (pos b) s h = let product : a * s ≤ b * s = mul-le a s b s (omega (arith, ints)) (omega arith) in omega (arith, ints)
scaled_le (pos a) (negsuc b) s h = absurd (omega (arith, ints))
scaled_le (negsuc a) (pos b) s h = simp neg_scaled (omega (arith, ints))
scaled_le (negsuc a) (negsuc b) s h = let product : suc b * s ≤ suc a * s =
    mul-le (suc b) s (suc a) s (omega (arith, ints)) (omega arith) in simp neg_scaled (omega (arith, ints))

between_by_half : (x y z low high : ℤ) (s : ℕ) → x ≤ℤ y → y ≤ℤ z → IsByHalfIn low high s x → IsByHalfIn low high s z → IsByHalfIn low high s y
between_by_half x y z low high s xy yz hx hz =
    let below = scaled_le x y s xy in
    let above = scaled_le y z s yz in
    (omega (arith, ints, hx.0, hx.1, hz.0, hz.1), omega (arith, ints, hx.0, hx.1, hz.0, hz.1))

le_cases : (x y : ℤ) → (x ≤ℤ y) ⊎ (y ≤ℤ x)
le_cases x y = by_lt_z x y (λ h. inl (omega (arith, ints))) (λ h. inr h)

-- a line whose start and end are within the travel leaves it by at most half a step
pub line_inside : (n k s : ℕ) (p q low high : ℤ) → 0 < s → 0 < n → k ≤ n → low ≤ℤ p → low ≤ℤ q → p ≤ℤ high → q ≤ℤ high
    → IsByHalfIn low high s (point_on_line n (in_steps p s) (in_steps q s) k)
line_inside n k s p q low high steps some le pl ql ph qh =
    let first = in_steps_near p low high s steps pl ph in
    let last = in_steps_near q low high s steps ql qh in
    elim (le_cases (in_steps p s) (in_steps q s)) [
      | inl up ↦ (let b = line_at_between n k (in_steps p s) (in_steps q s) (in_steps p s) (in_steps q s) some le
          (omega (arith, ints)) up up (omega (arith, ints)) in
          between_by_half _ _ _ low high s b.0 b.1 first last)
      | inr down ↦ (let b = line_at_between n k (in_steps p s) (in_steps q s) (in_steps q s) (in_steps p s) some le
          down (omega (arith, ints)) (omega (arith, ints)) down in
          between_by_half _ _ _ low high s b.0 b.1 last first)
    ]

-- ---- the axes of the code

pub axis_none : (n : ℕ) (a : Spread) → 0 < n → a.count ≤ n → a.twice ≡ 2 * a.count → a.error ≡ n → IsSpread n 0 a
axis_none n a some most twice error = record { most = most; twice = twice; error = rw error (holds_none n a.count some) }

step_none : (forward : Bool) (m m' : ℕ) → m' ≡ m → Still ≡ step_toward forward (m' - m)
step_none forward m m' e = let none : m' - m ≡ 0 = omega arith in rw none refl

step_one : (forward : Bool) (m m' : ℕ) → m' ≡ m + 1 → step_toward forward 1 ≡ step_toward forward (m' - m)
step_one forward m m' e = let one : m' - m ≡ 1 = omega arith in rw one refl

-- a pulse without a step of the axis
pub axis_rest : (n : ℕ) (k : ℕ) (a : Spread) (error : ℕ) → error ≡ a.error + a.twice → error < 2 * n → IsSpread n k a
    → (Still ≡ axis_step n a.forward a.count k) × IsSpread n (k + 1) (record a { error = error })
unfolding axis_step
axis_rest n k a error e small h =
    let same : error ≡ a.error + 2 * a.count = e ∙ ap (λ t. a.error + t) h.twice in
    let r = holds_rest n a.count k a.error (rw (← same) small) h.error in
    (step_none a.forward (made n a.count k) (made n a.count (k + 1)) r.0, record { most = h.most; twice = h.twice; error = rw same r.1 })

-- a pulse with one
pub axis_more : (n : ℕ) (k : ℕ) (a : Spread) (error : ℕ) → error ≡ a.error + a.twice → 2 * n ≤ error → IsSpread n k a
    → (step_toward a.forward 1 ≡ axis_step n a.forward a.count k) × IsSpread n (k + 1) (record a { error = error - 2 * n })
unfolding axis_step
axis_more n k a error e full h =
    let same : error ≡ a.error + 2 * a.count = e ∙ ap (λ t. a.error + t) h.twice in
    let r = holds_step n a.count k a.error h.most (rw (← same) full) h.error in
    (step_one a.forward (made n a.count k) (made n a.count (k + 1)) r.0, record { most = h.most; twice = h.twice; error = rw same r.1 })

-- a pulse without a step, in the code's terms
pub code_rest : (whole n k : ℕ) (a : Spread) → whole ≡ 2 * n → a.error + a.twice < whole → IsSpread n k a
    → (Still ≡ axis_step n a.forward a.count k) × IsSpread n (k + 1) (record a { error = a.error + a.twice })
code_rest whole n k a is small h = axis_rest n k a (a.error + a.twice) refl (rw (← is) small) h

pub code_more : (whole n k : ℕ) (a : Spread) → whole ≡ 2 * n → whole ≤ a.error + a.twice → IsSpread n k a
    → (step_toward a.forward 1 ≡ axis_step n a.forward a.count k) × IsSpread n (k + 1) (record a { error = a.error + a.twice - whole })
code_more whole n k a is full h = rw is (axis_more n k a (a.error + a.twice) refl (rw (← is) full) h)

pub axes_from_more : (n : ℕ) (x y z : Spread) (left : ℕ) → 0 < left
    → axes_from n x y z left ≡ record {
      x = spread_step n x (n - left);
      y = spread_step n y (n - left);
      z =
          spread_step n z (n - left);
    } ∷ axes_from n x y z (left - 1)
axes_from_more n x y z zero some = absurd (omega arith)
axes_from_more n x y z (suc left) some = let less : suc left - 1 ≡ left = omega arith in rw less refl

axes_same : (n : ℕ) (x y z x' y' z' : Spread) (left : ℕ) → x'.count ≡ x.count → x'.forward ≡ x.forward
    → y'.count ≡ y.count → y'.forward ≡ y.forward → z'.count ≡ z.count → z'.forward ≡ z.forward
    → axes_from n x' y' z' left ≡ axes_from n x y z left
axes_same n x y z x' y' z' zero a b c d e f = refl
axes_same n x y z x' y' z' (suc left) a b c d e f = let others = axes_same n x y z x' y' z' left a b c d e f in rw (a, b, c, d, e, f, others) refl

pub axis_left : (n left : ℕ) (a : Spread) → 0 < left → left ≤ n → IsSpread n (n - left + 1) a → IsSpread n (n - (left - 1)) a
axis_left n left a some le h = let e : n - (left - 1) ≡ n - left + 1 = omega arith in rw e h

pub line_keeps : (a : Inside) (x y z : Spread) (i j k : AxisStep) → IsLineInvariant a → 0 < a.left
    → SpreadStepSpec a.whole a.x x i → SpreadStepSpec a.whole a.y y j → SpreadStepSpec a.whole a.z z k
    → IsLineInvariant (record a { left = a.left - 1; x = x; y = y; z = z })
line_keeps a x y z i j k h some sx sy sz = record {
  whole = h.whole;
  small = h.small;
  left = (let le = h.left in omega arith);
  x = λ more. axis_left a.total a.left x some h.left (sx.axis a.total (a.total - a.left) h.whole (h.x some));
  y = λ more. axis_left a.total a.left y some h.left (sy.axis a.total (a.total - a.left) h.whole (h.y some));
  z = λ more. axis_left a.total a.left z some h.left (sz.axis a.total (a.total - a.left) h.whole (h.z some));
}

pub line_next : (a : Inside) (x y z : Spread) (i j k : AxisStep) → IsLineInvariant a → 0 < a.left
    → SpreadStepSpec a.whole a.x x i → SpreadStepSpec a.whole a.y y j → SpreadStepSpec a.whole a.z z k
    → pulses_left a ≡ record { x = i; y = j; z = k } ∷ pulses_left (record a { left = a.left - 1; x = x; y = y; z = z })
line_next a x y z i j k h some sx sy sz =
    let first = axes_from_more a.total a.x a.y a.z a.left some in
    let rest = axes_same a.total a.x a.y a.z x y z (a.left - 1) sx.count sx.forward sy.count sy.forward sz.count sz.forward in
    let ei = sx.step a.total (a.total - a.left) h.whole (h.x some) in
    let ej = sy.step a.total (a.total - a.left) h.whole (h.y some) in
    let ek = sz.step a.total (a.total - a.left) h.whole (h.z some) in
    first ∙ rw (ei, ej, ek, rest) refl

pub line_start : (total : ℕ) (d : Distances) (x y z : Spread) → total ≡ largest d
    → x.count ≡ unsigned_abs d.x → x.forward ≡ int_le (pos 0) d.x → y.count ≡ unsigned_abs d.y
    → y.forward ≡ int_le (pos 0) d.y → z.count ≡ unsigned_abs d.z → z.forward ≡ int_le (pos 0) d.z
    → axes_from total x y z total ≡ line_pulses d
unfolding line_pulses
line_start total d x y z e a b c d' f g = rw (← e) (starts total d x y z total a b c d' f g)
  where
    starts : (total : ℕ) (d : Distances) (x y z : Spread) (left : ℕ)
        → x.count ≡ unsigned_abs d.x → x.forward ≡ int_le (pos 0) d.x → y.count ≡ unsigned_abs d.y
        → y.forward ≡ int_le (pos 0) d.y → z.count ≡ unsigned_abs d.z → z.forward ≡ int_le (pos 0) d.z
        → axes_from total x y z left ≡ line_from total d left
    starts total d x y z zero a b c d' f g = refl
    starts total d x y z (suc left) a b c d' f g =
        let others = starts total d x y z left a b c d' f g in
        rw (a, b, c, d', f, g, others) refl

-- an axis at the start, before its first pulse
pub axis_first : (n : ℕ) (a : Spread) → IsSpread n 0 a → IsSpread n (n - n) a
axis_first n a h = let e : n - n ≡ 0 = omega arith in rw e h

pub count_same : (z : ℤ) (n : ℕ) → unsigned_abs z < 2 ^ 61 → n ≡ unsigned_abs (to_z w64 (of_z w64 z)) → n ≡ unsigned_abs z
count_same z n h e = omega (arith, ints)

pub forward_same : (z : ℤ) (b : Bool) → unsigned_abs z < 2 ^ 61 → b ≡ int_le (pos 0) (to_z w64 (of_z w64 z)) → b ≡ int_le (pos 0) z
forward_same z b h e = let fits : SFits w64 z = search (rules, ints) in simp to_z-of_z at e
