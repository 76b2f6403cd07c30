-- What the times of two lines that follow one another say of their rates: M is two seconds in nanoseconds, times 2^8.
use Rattle.std.proofs.Common.{arith, ℕ, ◌+◌, ◌-◌, ◌*◌, ◌/◌, ◌^◌, max, min, ◌<◌, ◌≤◌, ◌≡◌, ◌⊎◌, inl, inr, refl, Bool, true, false}
use Rattle.std.specs.Prelude.{◌==◌, ◌&&◌, if◌then◌else◌}
use Rattle.std.proofs.Math.Nat.{lt-mul-div-succ, div-mul-le_self, mul-le-mul, mul-le-mul_left, mul-le-mul_right, le_of_mul-le-mul_left}
use Rattle.std.proofs.lemmas.Bool.{cases_lt}
use Rattle.std.proofs.lemmas.Bool.Decides.{nat_tests}
use Rattle.ng_pace.specs.Due.{own_rate, own_square}
use Rattle.ng_pace.specs.declared.line.Ramp.{Ramp}
use Rattle.ng_pace.specs.Rest.{IsRamp}
use Rattle.ng_pace.specs.Interval.{IsRoot, time_at}
use Rattle.ng_pace.specs.Speed.{IsFasterWithin}
use Rattle.ng_pace.proofs.IntervalLemmas.{mean_time}

-- the rate of a line of so many nanoseconds, against the rate b at one of its ends: from there its square changes by so
-- much to a higher rate, and by so much to a lower one
pub record IsAbout (b n high low : ℕ) : Type 0 where
  -- it is no more than b, and 1, and what half of that ramp makes over its time
  pub most : 512000000000 * 512000000000 ≤ n * (2 * b + 2) * 512000000000 + high * n * n
  -- nor less, but for the nanosecond by which its time is rounded up
  pub least : (n - 1) * (2 * b) * 512000000000 ≤ 512000000000 * 512000000000 + (n - 1) * low * n + 2 * (n - 1) * 512000000000

-- two lines that have one rate where they join
joined : (M b n d p q m : ℕ) → M * M ≤ n * (2 * b + 2) * M + p * n * n → (n + d) * (2 * b) * M ≤ M * M + (n + d) * q * m + 2 * (n + d) * M
    → M * M * d ≤ n * (n + d) * (p * n + q * m + 4 * M)
joined M b n d p q m most least = omega (arith, mul-le-mul_left (n + d) most, mul-le-mul_left n least)

faster_within : (b n k p q m : ℕ) → 512000000000 * 512000000000 ≤ n * (2 * b + 2) * 512000000000 + p * n * n
    → k * (2 * b) * 512000000000 ≤ 512000000000 * 512000000000 + k * q * m + 2 * k * 512000000000
    → 512000000000 * 512000000000 * (k - n) ≤ n * k * (p * n + q * m + 4 * 512000000000)
faster_within b n k p q m most least = chosen (k - n) refl (cases_lt k n) where
  chosen : (d : ℕ) → k - n ≡ d → (k < n) ⊎ (n ≤ k) → 512000000000 * 512000000000 * (k - n) ≤ n * k * (p * n + q * m + 4 * 512000000000)
  chosen d is (inl less) = let none : k - n ≡ 0 = omega arith in rw none (omega arith)
  chosen d is (inr more) = let sum : k ≡ n + d = omega arith in rw (is, sum) (joined 512000000000 b n d p q m most (rw sum at least))

pub is_faster_within : (b n m p q p' q' : ℕ) → IsAbout b n p p' → IsAbout b m q' q → IsFasterWithin n m (p * n + q * m)
is_faster_within b n m p q p' q' fast slow = faster_within b n (m - 1) p q m fast.most slow.least

-- roots

below : (x y : ℕ) → x * x < (y + 1) * (y + 1) → x ≤ y
below x y less = chosen (cases_lt y x) where
  chosen : (y < x) ⊎ (x ≤ y) → x ≤ y
  chosen (inl more) = let next : y + 1 ≤ x = omega arith in absurd (omega (arith, less, mul-le-mul next next))
  chosen (inr few) = few

pub root_within : (n r q : ℕ) → IsRoot n r → n ≤ q * q → r ≤ q
root_within n r q root few = below r q (omega (arith, root.reached, few))

pub one_root : (n r q : ℕ) → IsRoot n r → IsRoot n q → r ≡ q
one_root n r q root other =
    let less : r ≤ q = below r q (omega (arith, root.reached, other.next)) in
    let more : q ≤ r = below q r (omega (arith, other.reached, root.next)) in omega arith

-- a line at the mean of its two rates

most_at_mean : (M a b n p : ℕ) → M ≤ n * (a + b) → a * a ≤ p + (b * b + 2 * b) → M * M ≤ n * (2 * b + 2) * M + p * n * n
most_at_mean M a b n p mean ramp = chosen (a - (b + 1)) refl (cases_lt a (b + 1)) where
  chosen : (d : ℕ) → a - (b + 1) ≡ d → (a < b + 1) ⊎ (b + 1 ≤ a) → M * M ≤ n * (2 * b + 2) * M + p * n * n
  chosen d is (inl less) =
      let both : a + b ≤ 2 * b + 1 = omega arith in
      omega (arith, mul-le-mul_left M mean, mul-le-mul_left M (mul-le-mul_left n both))
  chosen d is (inr more) =
      let sum : a ≡ b + 1 + d = omega arith in
      let within : d * (2 * b + 1 + d) ≤ p = omega (arith, rw sum at ramp) in
      let its : M ≤ n * (2 * b + 1 + d) = omega (arith, rw sum at mean) in
      omega (arith, mul-le-mul_left M its, mul-le-mul_left (n * d) its, mul-le-mul_left (n * n) within)

least_at_mean : (M b c k m q : ℕ) → k * (b + c) ≤ M → M ≤ m * (b + c) → b * b ≤ q + (c * c + 2 * c)
    → k * (2 * b) * M ≤ M * M + k * q * m + 2 * k * M
least_at_mean M b c k m q short mean ramp = chosen (b - (c + 1)) refl (cases_lt b (c + 1)) where
  chosen : (d : ℕ) → b - (c + 1) ≡ d → (b < c + 1) ⊎ (c + 1 ≤ b) → k * (2 * b) * M ≤ M * M + k * q * m + 2 * k * M
  chosen d is (inl less) =
      let both : 2 * b ≤ b + c + 1 = omega arith in
      omega (arith, mul-le-mul_right M (mul-le-mul_left k both), mul-le-mul_left M short)
  chosen d is (inr more) =
      let sum : b ≡ c + 1 + d = omega arith in
      let within : d * (2 * c + 1 + d) ≤ q = omega (arith, rw sum at ramp) in
      let its : M ≤ m * (2 * c + 1 + d) = omega (arith, rw sum at mean) in
      let time : k * (2 * c + 1 + d) ≤ M = omega (arith, rw sum at short) in
      rw sum (omega (arith, mul-le-mul_left M time, mul-le-mul_left (k * d) its, mul-le-mul_left (k * m) within))

-- a line at its own rate, or slower than a pulse in 256 seconds

least_at_own : (M b k m q : ℕ) → (k * (2 * b) ≤ M) ⊎ (b ≤ 1) → k * (2 * b) * M ≤ M * M + k * q * m + 2 * k * M
least_at_own M b k m q (inl short) = omega (arith, mul-le-mul_right M short)
least_at_own M b k m q (inr slow) = omega (arith, mul-le-mul_right M (mul-le-mul_left k slow))

-- no rate of a line is above its own: in a nanosecond less than its own time
slow_own : (p us k x : ℕ) → 0 < p → k + 1 ≤ (us * 100000 + (p - 1)) / p → x ≤ own_rate p us → (k * (2 * x) ≤ 512000000000) ⊎ (x ≤ 1)
slow_own p us k x some short within = chosen (cases_lt (2560000 * p / max us 1) 1) where
  chosen : (2560000 * p / max us 1 < 1) ⊎ (1 ≤ 2560000 * p / max us 1) → (k * (2 * x) ≤ 512000000000) ⊎ (x ≤ 1)
  chosen (inl none) = inr (omega arith)
  chosen (inr rate) =
      let fits : x ≤ 2560000 * p / max us 1 = omega arith in
      let time : k * p ≤ us * 100000 = omega (arith, div-mul-le_self (us * 100000 + (p - 1)) p, mul-le-mul_right p short) in
      let its : x * max us 1 ≤ 2560000 * p = omega (arith, div-mul-le_self (2560000 * p) (max us 1), mul-le-mul_right (max us 1) fits) in
      let own : x * us ≤ 2560000 * p = omega (arith, its, mul-le-mul_left x (let more : us ≤ max us 1 = omega arith in more)) in
      let all : p * (k * (2 * x)) ≤ p * 512000000000 = omega (arith, mul-le-mul_left (2 * x) time, own) in
      inl (le_of_mul-le-mul_left all some)

-- nor below it, but for less than 1
most_own : (p us n : ℕ) → 0 < p → 0 < n → n ≡ min ((us * 100000 + (p - 1)) / p) (2 ^ 64 - 1) → 512000000000 ≤ n * (2 * own_rate p us + 2)
most_own p us n some lasts is = chosen (cases_lt ((us * 100000 + (p - 1)) / p) (2 ^ 64 - 1)) where
  its : 1 ≤ (us * 100000 + (p - 1)) / p
  its = omega (arith, lasts, is)

  chosen : ((us * 100000 + (p - 1)) / p < 2 ^ 64 - 1) ⊎ (2 ^ 64 - 1 ≤ (us * 100000 + (p - 1)) / p) → 512000000000 ≤ n * (2 * own_rate p us + 2)
  chosen (inr long) =
      let all : n ≡ 18446744073709551615 = omega arith in
      rw all (omega arith)
  chosen (inl short) =
      let same : n ≡ (us * 100000 + (p - 1)) / p = omega arith in
      let up : us * 100000 + (p - 1) < p * ((us * 100000 + (p - 1)) / p + 1) = lt-mul-div-succ (us * 100000 + (p - 1)) some in
      let time : us * 100000 ≤ n * p = rw same (omega (arith, up)) in
      let one : 1 ≤ us = omega (arith, div-mul-le_self (us * 100000 + (p - 1)) p, mul-le-mul_right p its) in
      let at_least : max us 1 ≡ us = omega arith in
      let rate : 2560000 * p < us * (2560000 * p / us + 1) = lt-mul-div-succ (2560000 * p) one in
      let fits : 2560000 * p / us + 1 ≤ own_rate p us + 1 = rw at_least (omega arith) in
      let all : p * 512000000000 ≤ p * (n * (2 * own_rate p us + 2)) =
      omega (arith, rate, mul-le-mul_left us fits, mul-le-mul_right (2 * own_rate p us + 2) time) in
      le_of_mul-le-mul_left all some

about_own : (p us n high low : ℕ) → 0 < p → 0 < n → n ≡ min ((us * 100000 + (p - 1)) / p) (2 ^ 64 - 1) → IsAbout (own_rate p us) n high low
about_own p us n high low some lasts is = record {
  most = omega (arith, mul-le-mul_left 512000000000 (most_own p us n some lasts is));
  least = least_at_own 512000000000 (own_rate p us) (n - 1) n low (slow_own p us (n - 1) (own_rate p us) some (omega arith) (omega arith));
}

moving : (least both n : ℕ) → n ≡ time_at least both → 0 < both → n ≡ max ((512000000000 + both - 1) / both) least
moving least both n is some = grind (arith, nat_tests, is)

-- a line at its mean rate lasts no longer, but for one that is slower than a pulse in 256 seconds
short_at_mean : (p us k x y z : ℕ) → 0 < p → k + 1 ≡ max ((512000000000 + (x + y) - 1) / (x + y)) (min ((us * 100000 + (p - 1)) / p) (2 ^ 64 - 1))
    → x ≤ z → y ≤ z → z ≤ own_rate p us → (k * (x + y) ≤ 512000000000) ⊎ (x ≤ 1)
short_at_mean p us k x y z some is less less' within = chosen (cases_lt ((512000000000 + (x + y) - 1) / (x + y)) (k + 1)) where
  by_own : (k * (2 * z) ≤ 512000000000) ⊎ (z ≤ 1) → (k * (x + y) ≤ 512000000000) ⊎ (x ≤ 1)
  by_own (inl short) = let both : x + y ≤ 2 * z = omega arith in inl (omega (arith, short, mul-le-mul_left k both))
  by_own (inr slow) = inr (omega arith)

  chosen : ((512000000000 + (x + y) - 1) / (x + y) < k + 1) ⊎ (k + 1 ≤ (512000000000 + (x + y) - 1) / (x + y)) → (k * (x + y) ≤ 512000000000) ⊎ (x ≤ 1)
  chosen (inl more) = by_own (slow_own p us k z some (omega arith) within)
  chosen (inr its) = inl (omega (arith, div-mul-le_self (512000000000 + (x + y) - 1) (x + y), mul-le-mul_right (x + y) its))

about_mean : (x y n high low : ℕ) → 512000000000 ≤ n * (x + y) → ((n - 1) * (x + y) ≤ 512000000000) ⊎ (x ≤ 1)
    → x * x ≤ low + (y * y + 2 * y) → y * y ≤ high + (x * x + 2 * x) → IsAbout x n high low
about_mean x y n high low mean short falls grows = record {
  most = most_at_mean 512000000000 y x n high (omega (arith, mean)) grows;
  least = chosen short;
} where
  chosen : ((n - 1) * (x + y) ≤ 512000000000) ⊎ (x ≤ 1)
      → (n - 1) * (2 * x) * 512000000000 ≤ 512000000000 * 512000000000 + (n - 1) * low * n + 2 * (n - 1) * 512000000000
  chosen (inl few) = least_at_mean 512000000000 x y (n - 1) n low few mean falls
  chosen (inr slow) = least_at_own 512000000000 x (n - 1) n low (inr slow)

-- the line of a pulse, from one square to another, whose roots are these: neither is above that of its own time
pub record IsLine (p us from to n : ℕ) (ramp : Ramp) (x y : ℕ) : Type 0 where
  pub some : 0 < p
  pub lasts : 0 < n
  pub moves : 0 < x + y
  pub is_root : IsRoot from x
  pub is_root_to : IsRoot to y
  pub ramp_is : IsRamp ramp from to
  pub within : from ≤ own_square p us
  pub within_to : to ≤ own_square p us
  pub time : n ≡ (if (from == to) && (to == own_square p us) then min ((us * 100000 + (p - 1)) / p) (2 ^ 64 - 1)
      else time_at (min ((us * 100000 + (p - 1)) / p) (2 ^ 64 - 1)) (x + y))

root_at_own : (p us n r : ℕ) → IsRoot n r → n ≡ own_square p us → r ≡ own_rate p us
root_at_own p us n r root is = one_root n r (own_rate p us) root (record { reached = omega (arith, is); next = omega (arith, is) })

at_mean : (p us from to n : ℕ) (ramp : Ramp) (x y : ℕ) → IsLine p us from to n ramp x y
    → n ≡ time_at (min ((us * 100000 + (p - 1)) / p) (2 ^ 64 - 1)) (x + y) → IsAbout x n ramp.up ramp.down × IsAbout y n ramp.down ramp.up
at_mean p us from to n ramp x y line time =
    let least : ℕ = min ((us * 100000 + (p - 1)) / p) (2 ^ 64 - 1) in
    let its : n ≡ max ((512000000000 + (x + y) - 1) / (x + y)) least = moving least (x + y) n time line.moves in
    let mean : 512000000000 ≤ n * (x + y) = mean_time least (x + y) n time line.moves in
    let low : x ≤ own_rate p us = root_within from x (own_rate p us) line.is_root line.within in
    let low_to : y ≤ own_rate p us = root_within to y (own_rate p us) line.is_root_to line.within_to in
    let falls : x * x ≤ ramp.down + (y * y + 2 * y) = omega (arith, line.is_root.reached, line.is_root_to.next, line.ramp_is.falls) in
    let grows : y * y ≤ ramp.up + (x * x + 2 * x) = omega (arith, line.is_root_to.reached, line.is_root.next, line.ramp_is.grows) in
    let whole : n - 1 + 1 ≡ n = omega (arith, line.lasts) in
    let turned : y + x ≡ x + y = omega arith in
    let its_time : n - 1 + 1 ≡ max ((512000000000 + (x + y) - 1) / (x + y)) least = rw whole its in (
      about_mean x y n ramp.up ramp.down mean
          (short_at_mean p us (n - 1) x y (own_rate p us) line.some its_time low low_to (omega arith)) falls grows,
      about_mean y x n ramp.down ramp.up (rw turned mean)
          (short_at_mean p us (n - 1) y x (own_rate p us) line.some (rw turned its_time) low_to low (omega arith)) grows falls,
    )

pub about : (p us from to n : ℕ) (ramp : Ramp) (x y : ℕ) → IsLine p us from to n ramp x y
    → IsAbout x n ramp.up ramp.down × IsAbout y n ramp.down ramp.up
about p us from to n ramp x y line = chosen ((from == to) && (to == own_square p us)) refl where
  chosen : (b : Bool) → (from == to) && (to == own_square p us) ≡ b → IsAbout x n ramp.up ramp.down × IsAbout y n ramp.down ramp.up
  chosen true is =
      let at : to ≡ own_square p us = grind (arith, nat_tests, is) in
      let at_from : from ≡ own_square p us = grind (arith, nat_tests, is) in
      let its : (high low : ℕ) → IsAbout (own_rate p us) n high low = λ high low. about_own p us n high low line.some line.lasts (rw is at line.time) in
      (rw (root_at_own p us from x line.is_root at_from) (its ramp.up ramp.down), rw (root_at_own p us to y line.is_root_to at) (its ramp.down ramp.up))
  chosen false is = at_mean p us from to n ramp x y line (rw is at line.time)
