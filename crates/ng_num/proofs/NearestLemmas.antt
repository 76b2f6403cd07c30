-- The whole number nearest to a quotient is the one that `near_by` computes, and no other.
use Rattle.std.proofs.Common.{◌≡◌, ℕ, zero, suc, ◌+◌, ◌-◌, ◌*◌, ◌/◌, ◌%◌, ◌<◌, ◌≤◌, ℤ, pos, negsuc, neg_ℤ, ◌-ℤ◌}
use Rattle.std.proofs.Common.{◌*ℤ◌, unsigned_abs, refl, sym, ap, arith, inl, inr, ◌⊎◌, Result}
use Rattle.std.proofs.Math.IntN.{neg_ℤ-neg_ℤ, *ℤ-negsuc}
use Rattle.std.proofs.lemmas.Bool.{cases_lt}
use Rattle.std.proofs.Math.Nat.{div-eq_of_lt-le, div-add-mod, zero-mul}
use Rattle.std.proofs.lemmas.Int.{ints}
use Rattle.std.proofs.lemmas.Nat.{mod_below}
use Rattle.ng_num.specs.Range.{IsOnlyAnswer, in_range}
use Rattle.ng_num.specs.declared.fault.Fault.{Fault}
use Rattle.ng_num.specs.Rounding.{IsNearest, nearest, near, near_by, signed, is_unlike}

-- k times d is at most half of d above n, and below it by less
pub record IsNearestSize (n d k : ℕ) : Type 0 where
  pub low : 2 * (k * d) ≤ 2 * n + d
  pub high : 2 * n + d < 2 * (k * d) + 2 * d

pub twice_times : (d k : ℕ) → 2 * d * k ≡ 2 * (k * d)
twice_times d k = grind arith

pub times_twice : (d k : ℕ) → k * (2 * d) ≡ 2 * (k * d)
times_twice d k = grind arith

pub next_times_twice : (d k : ℕ) → (k + 1) * (2 * d) ≡ 2 * (k * d) + 2 * d
next_times_twice d k = grind arith

pub nearest-IsNearestSize : (n d : ℕ) → 0 < d → IsNearestSize n d (nearest n d)
nearest-IsNearestSize n d h =
    let k : ℕ = nearest n d in
    let parts : 2 * d * k + (2 * n + d) % (2 * d) ≡ 2 * n + d = div-add-mod (2 * n + d) (2 * d) in
    let rest : (2 * n + d) % (2 * d) < 2 * d = mod_below (2 * n + d) (2 * d) (omega arith) in
    let swapped : 2 * d * k ≡ 2 * (k * d) = twice_times d k in
    record { low = omega arith; high = omega arith }

pub nearest_from_IsNearestSize : (n d k : ℕ) → IsNearestSize n d k → nearest n d ≡ k
nearest_from_IsNearestSize n d k is =
    div-eq_of_lt-le {k = k} (2 * d) (omega (arith, is.low, times_twice d k)) (omega (arith, is.high, next_times_twice d k))

-- by the quotient and the rest
pub nearest_down : (n d : ℕ) → 0 < d → n % d < d - n % d → nearest n d ≡ n / d
nearest_down n d h low =
    let parts : d * (n / d) + n % d ≡ n = div-add-mod n d in
    let swapped : d * (n / d) ≡ n / d * d = grind arith in
    nearest_from_IsNearestSize n d (n / d) (record { low = omega arith; high = omega arith })

pub nearest_up : (n d : ℕ) → 0 < d → d - n % d ≤ n % d → nearest n d ≡ n / d + 1
nearest_up n d h high =
    let parts : d * (n / d) + n % d ≡ n = div-add-mod n d in
    let rest : n % d < d = mod_below n d h in
    let next : (n / d + 1) * d ≡ d * (n / d) + d = grind arith in
    nearest_from_IsNearestSize n d (n / d + 1) (record { low = omega arith; high = omega arith })

-- ---- signs
pub nearest-zero : (d : ℕ) → 0 < d → nearest 0 d ≡ 0
nearest-zero d h = nearest_from_IsNearestSize 0 d 0 (record { low = omega arith; high = omega arith })

pub near-neg : (k d : ℕ) → 0 < d → near (neg_ℤ (pos k)) d ≡ neg_ℤ (pos (nearest k d))
near-neg zero d h = rw (nearest-zero d h) refl
near-neg (suc k) d h = refl

pub near-product : (a b : ℤ) (d : ℕ) → 0 < d → near (a *ℤ b) d ≡ signed (is_unlike a b) (nearest (unsigned_abs a * unsigned_abs b) d)
near-product (pos a) (pos b) d h = refl
near-product (pos a) (negsuc b) d h = near-neg (a * suc b) d h
near-product (negsuc a) (pos b) d h = near-neg (suc a * b) d h
near-product (negsuc a) (negsuc b) d h = refl

pub near_by-product : (a b : ℤ) (m : ℕ) → 0 < unsigned_abs b → near_by (a *ℤ pos m) b ≡ signed (is_unlike a b) (nearest (unsigned_abs a * m) (unsigned_abs b))
near_by-product (pos a) (pos b) m h = refl
near_by-product (pos a) (negsuc b) m h = near-neg (a * m) (suc b) h
near_by-product (negsuc a) (pos b) m h = near-neg (suc a * m) b h
near_by-product (negsuc a) (negsuc b) m h = rw neg_ℤ-neg_ℤ refl

-- ---- sizes of differences
abs_both : (a x : ℕ) → (unsigned_abs (pos a -ℤ pos x) + x ≡ a) ⊎ (unsigned_abs (pos a -ℤ pos x) + a ≡ x)
abs_both a x = elim (cases_lt x a) [ inl h ↦ inl (omega (arith, ints)) | inr h ↦ inr (omega (arith, ints)) ]

abs_neither : (a x : ℕ) → (unsigned_abs (neg_ℤ (pos a) -ℤ neg_ℤ (pos x)) + x ≡ a) ⊎ (unsigned_abs (neg_ℤ (pos a) -ℤ neg_ℤ (pos x)) + a ≡ x)
abs_neither a x = elim (cases_lt x a) [ inl h ↦ inl (omega (arith, ints)) | inr h ↦ inr (omega (arith, ints)) ]

abs_apart : (a x : ℕ) → unsigned_abs (pos a -ℤ neg_ℤ (pos x)) ≡ a + x
abs_apart a x = omega (arith, ints)

abs_apart_swapped : (a x : ℕ) → unsigned_abs (neg_ℤ (pos a) -ℤ pos x) ≡ a + x
abs_apart_swapped a x = omega (arith, ints)

abs_neg : (p : ℤ) → unsigned_abs (neg_ℤ p) ≡ unsigned_abs p
abs_neg p = omega (arith, ints)

abs_flip : (p x : ℤ) → unsigned_abs (p -ℤ neg_ℤ x) ≡ unsigned_abs (neg_ℤ p -ℤ x)
abs_flip p x = omega (arith, ints)

neg-times : (k d : ℕ) → neg_ℤ (pos k) *ℤ pos d ≡ neg_ℤ (pos (k * d))
neg-times zero d = rw (zero-mul d) refl
neg-times (suc k) d = refl

-- ---- the statement, for sizes a and x and the size e of their difference
record IsHalf (a x e d : ℕ) : Type 0 where
  half : 2 * e ≤ d
  tie : 2 * e ≡ d → a < x

half_from_size : (a x e d : ℕ) → (e + x ≡ a) ⊎ (e + a ≡ x) → 2 * x ≤ 2 * a + d → 2 * a + d < 2 * x + 2 * d → IsHalf a x e d
half_from_size a x e d (inl s) low high = record { half = omega arith; tie = λ t. omega arith }
half_from_size a x e d (inr s) low high = record { half = omega arith; tie = λ t. omega arith }

low_from_half : (a x e d : ℕ) → 0 < d → (e + x ≡ a) ⊎ (e + a ≡ x) → IsHalf a x e d → 2 * x ≤ 2 * a + d
low_from_half a x e d some (inl s) is = omega (arith, is.half)
low_from_half a x e d some (inr s) is = omega (arith, is.half)

high_from_half : (a x e d : ℕ) → 0 < d → (e + x ≡ a) ⊎ (e + a ≡ x) → IsHalf a x e d → 2 * a + d < 2 * x + 2 * d
high_from_half a x e d some (inl s) is =
    elim (cases_lt (2 * e) d) [
      | inl h ↦ omega arith
      | inr h ↦ absurd (let t : 2 * e ≡ d = omega (arith, is.half) in let l : a < x = is.tie t in omega arith)
    ]
high_from_half a x e d some (inr s) is = omega (arith, is.half)

nearest_by_half : (a k e d : ℕ) → 0 < d → (e + k * d ≡ a) ⊎ (e + a ≡ k * d) → IsHalf a (k * d) e d → nearest a d ≡ k
nearest_by_half a k e d some s is =
    nearest_from_IsNearestSize a d k (record { low = low_from_half a (k * d) e d some s is; high = high_from_half a (k * d) e d some s is })

-- a number on the other side of zero is nearest only if it is zero
nearest_across : (a k e d : ℕ) → 0 < d → e ≡ a + k * d → IsHalf a (k * d) e d → (k ≡ 0) × (nearest a d ≡ 0)
nearest_across a zero e d some s is =
    let z : 0 * d ≡ 0 = zero-mul d in
    let strict : 2 * a < d = elim (cases_lt (2 * e) d) [
      | inl h ↦ omega arith
      | inr h ↦ absurd (let t : 2 * e ≡ d = omega (arith, is.half) in let l : a < 0 * d = is.tie t in omega arith)
    ] in
    (refl, nearest_from_IsNearestSize a d 0 (record { low = omega arith; high = omega arith }))
nearest_across a (suc k) e d some s is =
    let more : suc k * d ≡ k * d + d = grind arith in
    absurd (omega (arith, is.half))

half_of : (p d n : ℤ) → IsNearest p d n → IsHalf (unsigned_abs p) (unsigned_abs (n *ℤ d)) (unsigned_abs (p -ℤ n *ℤ d)) (unsigned_abs d)
half_of p d n is = record { half = is.within_half; tie = is.away_from_zero }

-- ---- a divisor above zero
near-IsNearest_above : (p : ℤ) (d : ℕ) → 0 < d → IsNearest p (pos d) (near p d)
near-IsNearest_above (pos a) d h =
    let k : ℕ = nearest a d in
    let size = nearest-IsNearestSize a d h in
    let is = half_from_size a (k * d) (unsigned_abs (pos a -ℤ pos (k * d))) d (abs_both a (k * d)) size.low size.high in
    record { within_half = is.half; away_from_zero = is.tie }
near-IsNearest_above (negsuc a) d h =
    let k : ℕ = nearest (suc a) d in
    let size = nearest-IsNearestSize (suc a) d h in
    let is = half_from_size (suc a) (k * d) (unsigned_abs (negsuc a -ℤ neg_ℤ (pos (k * d)))) d (abs_neither (suc a) (k * d)) size.low size.high in
    let times = neg-times k d in
    let size_of : unsigned_abs (neg_ℤ (pos (k * d))) ≡ k * d = abs_neg (pos (k * d)) in
    record { within_half = rw times is.half; away_from_zero = rw (times, size_of) is.tie }

near_from_IsNearest_above : (p : ℤ) (d : ℕ) (n : ℤ) → 0 < d → IsNearest p (pos d) n → n ≡ near p d
near_from_IsNearest_above (pos a) d (pos k) h is = ap pos (sym (nearest_by_half a k _ d h (abs_both a (k * d)) (half_of (pos a) (pos d) (pos k) is)))
near_from_IsNearest_above (pos a) d (negsuc k) h is =
    let half = half_of (pos a) (pos d) (negsuc k) is in
    let size_of : unsigned_abs (neg_ℤ (pos (suc k * d))) ≡ suc k * d = abs_neg (pos (suc k * d)) in
    let both = nearest_across a (suc k) _ d h (abs_apart a (suc k * d)) (rw size_of at half) in
    absurd (omega (arith, both.0))
near_from_IsNearest_above (negsuc a) d (pos k) h is =
    let half = half_of (negsuc a) (pos d) (pos k) is in
    let both = nearest_across (suc a) k _ d h (abs_apart_swapped (suc a) (k * d)) half in
    rw (both.0, both.1) refl
near_from_IsNearest_above (negsuc a) d (negsuc k) h is =
    let half = half_of (negsuc a) (pos d) (negsuc k) is in
    let size_of : unsigned_abs (neg_ℤ (pos (suc k * d))) ≡ suc k * d = abs_neg (pos (suc k * d)) in
    rw (nearest_by_half (suc a) (suc k) _ d h (abs_neither (suc a) (suc k * d)) (rw size_of at half)) refl

-- ---- a divisor of either sign
flip_sign : (p n : ℤ) (d : ℕ) → IsNearest (neg_ℤ p) (pos (suc d)) n → IsNearest p (negsuc d) n
flip_sign p n d is =
    let times = *ℤ-negsuc n d in
    record {
      within_half = rw (times, abs_flip p (n *ℤ pos (suc d))) is.within_half;
      away_from_zero = rw (times, abs_flip p (n *ℤ pos (suc d)), abs_neg (n *ℤ pos (suc d)), ← abs_neg p) is.away_from_zero;
    }

flip_back : (p n : ℤ) (d : ℕ) → IsNearest p (negsuc d) n → IsNearest (neg_ℤ p) (pos (suc d)) n
flip_back p n d is =
    let times = *ℤ-negsuc n d in
    record {
      within_half = rw (times, abs_flip p (n *ℤ pos (suc d))) at is.within_half;
      away_from_zero = rw (times, abs_flip p (n *ℤ pos (suc d)), abs_neg (n *ℤ pos (suc d)), ← abs_neg p) at is.away_from_zero;
    }

pub near_by-IsNearest : (p q : ℤ) → 0 < unsigned_abs q → IsNearest p q (near_by p q)
near_by-IsNearest p (pos d) h = near-IsNearest_above p d h
near_by-IsNearest p (negsuc d) h = flip_sign p _ d (near-IsNearest_above (neg_ℤ p) (suc d) h)

pub near_by_from_IsNearest : (p q n : ℤ) → 0 < unsigned_abs q → IsNearest p q n → n ≡ near_by p q
near_by_from_IsNearest p (pos d) n h is = near_from_IsNearest_above p d n h is
near_by_from_IsNearest p (negsuc d) n h is = near_from_IsNearest_above (neg_ℤ p) (suc d) n h (flip_back p n d is)

pub Answers_nearest : (p q : ℤ) (answer : Result ℤ Fault) → 0 < unsigned_abs q → answer ≡ in_range (near_by p q) → IsOnlyAnswer (IsNearest p q) answer
Answers_nearest p q answer h e = record {
  value = near_by p q;
  said = near_by-IsNearest p q h;
  only = λ other is. near_by_from_IsNearest p q other h is;
  answered = e;
}
