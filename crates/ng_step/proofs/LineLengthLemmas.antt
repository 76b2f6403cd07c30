-- A line's length is bounded by the number of its pulses; so its period is bounded, too.
use Rattle.std.proofs.Common.{arith, ℕ, suc, ◌+◌, ◌-◌, ◌*◌, ◌^◌, ◌<◌, ◌≤◌, ◌≡◌, inl, inr, ap, ◌∙◌, ℤ, pos, negsuc, neg_ℤ, ◌-ℤ◌, ◌*ℤ◌}
use Rattle.std.proofs.lemmas.Int.{ints}
use Rattle.std.proofs.lemmas.Nat.{mul-le}
use Rattle.std.proofs.lemmas.Bool.{cases_lt}
use Rattle.std.specs.Prelude.{unsigned_abs}
use Rattle.ng_num.specs.declared.point.Point.{Point}
use Rattle.ng_canon.specs.declared.geometry.Geometry.{Geometry}
use Rattle.ng_step.specs.declared.steps.Distances.{Distances}
use Rattle.ng_step.specs.Line.{in_steps, largest}
use Rattle.ng_step.specs.Periods.{root_up}
use Rattle.ng_step.specs.Hands.{distances, square_between}
use Rattle.ng_step.proofs.RoundLemmas.{rounded_near}
use Rattle.ng_step.proofs.PeriodLemmas.{root_up_is}

-- the difference of two multiples of a step
scaled_sizes : (m n d s : ℕ) → m ≡ n + d → m * s ≡ n * s + d * s
scaled_sizes m n d s e = rw e (omega arith)

apart_sizes : (m n s : ℕ) → unsigned_abs (pos (m * s) -ℤ pos (n * s)) ≤ unsigned_abs (pos m -ℤ pos n) * s
apart_sizes m n s = elim (cases_lt m n) [
  | inl h ↦ (let e = scaled_sizes n m (n - m) s (omega arith) in let d : unsigned_abs (pos m -ℤ pos n) ≡ n - m =
      omega (arith, ints) in rw d (omega (arith, ints)))
  | inr h ↦ (let e = scaled_sizes m n (m - n) s (omega arith) in let d : unsigned_abs (pos m -ℤ pos n) ≡ m - n =
      omega (arith, ints) in rw d (omega (arith, ints)))
]

neg_apart : (a b : ℕ) → unsigned_abs (neg_ℤ (pos a) -ℤ neg_ℤ (pos b)) ≡ unsigned_abs (pos b -ℤ pos a)
neg_apart a b = grind (arith, ints)

scaled_apart : (p q : ℤ) (s : ℕ) → unsigned_abs (q *ℤ pos s -ℤ p *ℤ pos s) ≤ unsigned_abs (q -ℤ p) * s
scaled_apart (pos m) (pos n) s = apart_sizes n m s
scaled_apart (pos m) (negsuc n) s = let e : unsigned_abs (negsuc n -ℤ pos m) ≡ suc n + m = omega (arith, ints) in rw e (omega (arith, ints))
scaled_apart (negsuc m) (pos n) s = omega (arith, ints)
scaled_apart (negsuc m) (negsuc n) s = rw neg_apart (apart_sizes (suc m) (suc n) s)

-- the distance of two coordinates is at most that of their steps plus one step
apart_by : (p q u v : ℤ) (s m : ℕ) → 2 * unsigned_abs (u -ℤ p) ≤ s → 2 * unsigned_abs (v -ℤ q) ≤ s → unsigned_abs (v -ℤ u) ≤ m → unsigned_abs (q -ℤ p) ≤ m + s
apart_by p q u v s m a b h = omega (arith, ints)

axis_far : (p q : ℤ) (s n : ℕ) → 0 < s → s ≤ 1_000_000 → 0 < n → unsigned_abs (in_steps q s -ℤ in_steps p s) ≤ n → unsigned_abs (q -ℤ p) ≤ n * 2_000_000
axis_far p q s n some most moves h =
    let apart = scaled_apart (in_steps p s) (in_steps q s) s in
    let product : unsigned_abs (in_steps q s -ℤ in_steps p s) * s ≤ n * 1_000_000 = mul-le _ s n 1_000_000 h most in
    let far = apart_by p q (in_steps p s *ℤ pos s) (in_steps q s *ℤ pos s) s (n * 1_000_000) (rounded_near p s some) (rounded_near q s some) (omega arith) in
    omega arith

root_le_sum : (x y z k : ℕ) → x ≤ k → y ≤ k → z ≤ k → root_up (x * x + y * y + z * z) ≤ 3 * k
root_le_sum x y z k hx hy hz =
    let is = root_up_is (x * x + y * y + z * z) in
    let one : x * x ≤ k * k = mul-le x x k k hx hx in
    let two : y * y ≤ k * k = mul-le y y k k hy hy in
    let three : z * z ≤ k * k = mul-le z z k k hz hz in
    is.least (3 * k) (omega arith)

-- the steps are within the limits
pub record HasLimits (g : Geometry) : Type 0 where
  pub x : (0 < g.x.step_nm) × (g.x.step_nm ≤ 1_000_000)
  pub y : (0 < g.y.step_nm) × (g.y.step_nm ≤ 1_000_000)
  pub z : (0 < g.z.step_nm) × (g.z.step_nm ≤ 1_000_000)

-- every geometry has them
pub limits : (g : Geometry) → HasLimits g
limits g = record {
  x = (omega (arith, g.x.step_in_limits.0), g.x.step_in_limits.1);
  y =
      (omega (arith, g.y.step_in_limits.0), g.y.step_in_limits.1);
  z =
      (omega (arith, g.z.step_in_limits.0), g.z.step_in_limits.1);
}

pub length_few : (g : Geometry) (p q : Point) (d : Distances) (r n : ℕ) → HasLimits g → d ≡ distances g p q
    → r ≡ root_up (square_between p q) → n ≡ largest d → 0 < n → r ≤ n * 2 ^ 23
length_few g p q d r n h is root most moves =
    let all : n ≡ largest (distances g p q) = most ∙ ap largest is in
    let few = root_le_sum (unsigned_abs (q.x -ℤ p.x)) (unsigned_abs (q.y -ℤ p.y)) (unsigned_abs (q.z -ℤ p.z)) (n * 2_000_000)
    (axis_far p.x q.x g.x.step_nm n h.x.0 h.x.1 moves (omega arith))
    (axis_far p.y q.y g.y.step_nm n h.y.0 h.y.1 moves (omega arith))
    (axis_far p.z q.z g.z.step_nm n h.z.0 h.z.1 moves (omega arith)) in
    omega arith
