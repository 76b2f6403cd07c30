-- The rounded start isn't the centre; a line's pulses are the differences of its points.
use Rattle.std.proofs.Common.{arith, ℕ, ◌+◌, ◌-◌, ◌*◌, ◌<◌, ◌≤◌, ◌≡◌, inl, inr, refl, ℤ, pos, ◌+ℤ◌, ◌-ℤ◌, Bool, true, false}
use Rattle.std.proofs.lemmas.Int.{ints}
use Rattle.std.proofs.lemmas.Nat.{mul-le}
use Rattle.std.proofs.lemmas.Bool.{cases_lt}
use Rattle.std.specs.Prelude.{unsigned_abs, int_le}
use Rattle.ng_canon.specs.declared.plane_point.PlanePoint.{PlanePoint}
use Rattle.ng_step.specs.Promises.{step_value}
use Rattle.ng_step.specs.Line.{made, toward, point_on_line, step_toward, axis_step, line_step}
use Rattle.ng_step.proofs.LineStepLemmas.{made_more}

half_zero : (z p : ℤ) (s : ℕ) → unsigned_abs p ≡ 0 → 2 * unsigned_abs (p -ℤ z) ≤ s → 2 * unsigned_abs z ≤ s
half_zero z p s e h = grind (arith, ints)

centre_far : (a b s : ℕ) → 0 < s → 4 * (s * s) ≤ a * a + b * b → 2 * a ≤ s → 2 * b ≤ s → 0 < 0
centre_far a b s some large ha hb =
    let one : 2 * a * (2 * a) ≤ s * s = mul-le (2 * a) (2 * a) s s ha ha in
    let two : 2 * b * (2 * b) ≤ s * s = mul-le (2 * b) (2 * b) s s hb hb in
    let three : 1 * 1 ≤ s * s = mul-le 1 1 s s some some in
    omega arith

pub start_some : (start p : PlanePoint) (s : ℕ) → 0 < s → 4 * (s * s) ≤ unsigned_abs start.a * unsigned_abs start.a
    + unsigned_abs start.b * unsigned_abs start.b
    → 2 * unsigned_abs (p.a -ℤ start.a) ≤ s → 2 * unsigned_abs (p.b -ℤ start.b) ≤ s → 0 < unsigned_abs p.a + unsigned_abs p.b
start_some start p s some large ha hb = elim (cases_lt 0 (unsigned_abs p.a + unsigned_abs p.b)) [
  | inl h ↦ h
  | inr h ↦ (let none : 0 < 0 = centre_far (unsigned_abs start.a) (unsigned_abs start.b) s some large
      (half_zero start.a p.a s (omega arith) ha) (half_zero start.b p.b s (omega arith) hb) in omega arith)
]

step_adds : (a z : ℤ) (m m' : ℕ) (t : Bool) → int_le (pos 0) (z -ℤ a) ≡ t → m ≤ m' → m' ≤ m + 1
    → toward a z m' ≡ toward a z m +ℤ step_value (step_toward t (m' - m))
step_adds a z m m' true e le more = elim (cases_lt m m') [
  | inl h ↦ (let one : m' - m ≡ 1 = omega arith in rw one (grind (arith, ints)))
  | inr h ↦ (let none : m' - m ≡ 0 = omega arith in rw none (grind (arith, ints)))
]
step_adds a z m m' false e le more = elim (cases_lt m m') [
  | inl h ↦ (let one : m' - m ≡ 1 = omega arith in rw one (grind (arith, ints)))
  | inr h ↦ (let none : m' - m ≡ 0 = omega arith in rw none (grind (arith, ints)))
]

-- the pulses of a line are the differences of its points
pub point_on_line-step : (n k : ℕ) (a z : ℤ) → 0 < n → unsigned_abs (z -ℤ a) ≤ n
    → point_on_line n a z (k + 1) ≡ point_on_line n a z k +ℤ step_value (line_step n (z -ℤ a) k)
unfolding point_on_line axis_step
point_on_line-step n k a z some le =
    let more = made_more n (unsigned_abs (z -ℤ a)) k some le in
    step_adds a z (made n (unsigned_abs (z -ℤ a)) k) (made n (unsigned_abs (z -ℤ a)) (k + 1)) (int_le (pos 0) (z -ℤ a)) refl more.0 more.1
