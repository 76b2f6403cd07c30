-- Two radii differ by at most a tolerance exactly if the test by squares says so.
use Rattle.std.proofs.Common.{arith, ℕ, zero, suc, ◌+◌, ◌-◌, ◌*◌, ◌^◌, ◌<◌, ◌≤◌, ◌≡◌, ◌⊎◌, inl, inr, refl, sym, ◌∙◌, IsTrue, true, ◌↔◌}
use Rattle.std.specs.Prelude.{nat_le, min, max}
use Rattle.std.proofs.lemmas.Nat.{mul-le, mul-lt}
use Rattle.std.proofs.lemmas.Bool.{cases_lt, leb-true, le-leb, lt-leb}
use Rattle.ng_arc.specs.Radii.{IsLongerByAtMost, AreAlike, excess, is_excess_allowed, are_alike}

square_le : (a b : ℕ) → a * a ≤ b * b → a ≤ b
square_le a b h = grind (arith, mul-lt)

-- the excess that the test allows is at most twice t times the root of v
allowed : (e v t p q : ℕ) → e * e ≤ 4 * (t * t) * v → v * (q * q) ≤ p * p → e * q ≤ 2 * t * p
allowed e v t p q small root =
    let first : (e * e) * (q * q) ≤ (4 * (t * t) * v) * (q * q) = mul-le _ _ _ _ small (omega arith) in
    let second : (4 * (t * t)) * (v * (q * q)) ≤ (4 * (t * t)) * (p * p) = mul-le _ _ _ _ (omega arith) root in
    square_le (e * q) (2 * t * p) (omega (arith, first, second))

pub longer : (e u v t : ℕ) → u ≤ e + v + t * t → e * e ≤ 4 * (t * t) * v → IsLongerByAtMost t u v
longer e u v t whole small p q some root =
    let most : e * q ≤ 2 * t * p = allowed e v t p q small root in
    let times : (e * q) * q ≤ (2 * t * p) * q = mul-le _ _ _ _ most (omega arith) in
    let parts : u * (q * q) ≤ (e + v + t * t) * (q * q) = mul-le _ _ _ _ whole (omega arith) in
    omega (arith, times, parts, root)

-- a root of a whole number, from above
record RootAbove (n : ℕ) : Type 0 where
  root : ℕ
  above : n ≤ root * root
  near : root * root ≤ n + 2 * root

root_next : (n : ℕ) (r : RootAbove n) → (r.root * r.root < suc n) ⊎ (suc n ≤ r.root * r.root) → RootAbove (suc n)
root_next n r (inl less) = record { root = suc r.root; above = omega (arith, r.above); near = omega (arith, r.above) }
root_next n r (inr more) = record { root = r.root; above = more; near = omega (arith, r.near) }

root_above : (n : ℕ) → RootAbove n
root_above zero = record { root = 0; above = omega arith; near = omega arith }
root_above (suc n) = let r = root_above n in root_next n r (cases_lt (r.root * r.root) (suc n))

-- such a root isn't long
short_by : (v q d : ℕ) → 0 < q → v * (q * q) + 2 * ((v + 2) * q + 1 + d) < ((v + 2) * q + 1 + d) * ((v + 2) * q + 1 + d)
short_by v q d some =
    let square : 1 * 1 ≤ q * q = mul-le 1 1 q q some some in
    omega arith

root_short : (v p q : ℕ) → 0 < q → p * p ≤ v * (q * q) + 2 * p → ((v + 2) * q < p) ⊎ (p ≤ (v + 2) * q) → p ≤ (v + 2) * q
root_short v p q some near (inr h) = h
root_short v p q some near (inl h) =
    let d : ℕ = p - ((v + 2) * q + 1) in
    let is : p ≡ (v + 2) * q + 1 + d = omega arith in
    let far = short_by v q d some in
    absurd (omega (arith, rw is at near))

-- how fine a fraction between the roots has to be
abbrev fineness : ℕ → ℕ → ℕ
fineness v t = v * (8 * t + 4) + 2 * (v + 2) * (4 * (t * t)) + 2 * (v + 2) * (8 * t + 4)

-- such a fine fraction separates the roots, if the test does
apart : (e v t p q : ℕ) → fineness v t < q → 4 * (t * t) * v < e * e → p * p ≤ v * (q * q) + 2 * p → p ≤ (v + 2) * q → e * (q * q) ≤ p * (2 * (t * q) + 2) → ⊥
apart e v t p q fine more near short less =
    let square : (e * (q * q)) * (e * (q * q)) ≤ (p * (2 * (t * q) + 2)) * (p * (2 * (t * q) + 2)) = mul-le _ _ _ _ less less in
    let root : p * p ≤ q * (v * q + 2 * (v + 2)) = omega arith in
    let times : (2 * (t * q) + 2) * (2 * (t * q) + 2) ≤ q * (4 * (t * t) * q + 8 * t + 4) = omega arith in
    let product : (p * p) * ((2 * (t * q) + 2) * (2 * (t * q) + 2)) ≤ (q * (v * q + 2 * (v + 2))) *
    (q * (4 * (t * t) * q + 8 * t + 4)) = mul-le _ _ _ _ root times in
    let large : (4 * (t * t) * v + 1) * ((q * q) * (q * q)) ≤ (e * e) * ((q * q) * (q * q)) = mul-le _ _ _ _ (omega arith) (omega arith) in
    let rest : (2 * (v + 2) * (8 * t + 4)) * (q * q * 1) ≤ (2 * (v + 2) * (8 * t + 4)) * (q * q * q) =
    mul-le _ _ _ _ (omega arith) (mul-le _ _ _ _ (omega arith) (omega arith)) in
    let some : 1 * 1 ≤ q * q = mul-le 1 1 q q (omega arith) (omega arith) in
    let cube : 1 * 1 ≤ (q * q) * q = mul-le 1 1 (q * q) q (omega arith) (omega arith) in
    let step : (fineness v t + 1) * (q * q * q) ≤ q * (q * q * q) = mul-le _ _ _ _ (omega arith) (omega arith) in
    omega (arith, square, product, large, rest, cube, step)

-- a longer radius that is within the tolerance doesn't fail the test
not_apart : (e u v t q : ℕ) → RootAbove (v * (q * q)) → fineness v t < q → u ≡ e + v + t * t → IsLongerByAtMost t u v → 4 * (t * t) * v < e * e → ⊥
not_apart e u v t q r fine is longer more =
    let within : u * (q * q) ≤ (r.root + t * q) * (r.root + t * q) = longer r.root q (omega arith) r.above in
    let short : r.root ≤ (v + 2) * q = root_short v r.root q (omega arith) r.near (cases_lt ((v + 2) * q) r.root) in
    let less : e * (q * q) ≤ r.root * (2 * (t * q) + 2) = omega (arith, rw is at within, r.near) in
    apart e v t r.root q fine more r.near short less

passes : (e u v t : ℕ) → e ≡ u - v - t * t → IsLongerByAtMost t u v → (4 * (t * t) * v < e * e) ⊎ (e * e ≤ 4 * (t * t) * v) → e * e ≤ 4 * (t * t) * v
passes e u v t is longer (inr h) = h
passes zero u v t is longer (inl h) = omega arith
passes (suc e) u v t is longer (inl h) =
    absurd (not_apart (suc e) u v t (fineness v t + 1) (root_above _) (omega arith) (omega arith) longer h)

alike_if : (n m t : ℕ) → IsTrue (are_alike n m t) → AreAlike n m t
unfolding is_excess_allowed
alike_if n m t h =
    let e : ℕ = excess t (max n m) (min n m) in
    let small : e * e ≤ 4 * (t * t) * min n m = leb-true (e * e) (4 * (t * t) * min n m) h in
    let first : (4 * (t * t)) * min n m ≤ (4 * (t * t)) * m = mul-le _ _ _ _ (omega arith) (omega arith) in
    let second : (4 * (t * t)) * min n m ≤ (4 * (t * t)) * n = mul-le _ _ _ _ (omega arith) (omega arith) in
    record { first = longer e n m t (omega arith) (omega arith); second = longer e m n t (omega arith) (omega arith) }

alike_only : (n m t : ℕ) → AreAlike n m t → (n < m) ⊎ (m ≤ n) → IsTrue (are_alike n m t)
unfolding is_excess_allowed
alike_only n m t h (inl less) =
    let e : ℕ = excess t (max n m) (min n m) in
    let small : e * e ≤ 4 * (t * t) * n = passes e m n t (omega arith) h.second (cases_lt _ _) in
    let same : (4 * (t * t)) * n ≤ (4 * (t * t)) * min n m = mul-le (4 * (t * t)) n (4 * (t * t)) (min n m) (omega arith) (omega arith) in
    le-leb (e * e) (4 * (t * t) * min n m) (omega arith)
alike_only n m t h (inr less) =
    let e : ℕ = excess t (max n m) (min n m) in
    let small : e * e ≤ 4 * (t * t) * m = passes e n m t (omega arith) h.first (cases_lt _ _) in
    let same : (4 * (t * t)) * m ≤ (4 * (t * t)) * min n m = mul-le (4 * (t * t)) m (4 * (t * t)) (min n m) (omega arith) (omega arith) in
    le-leb (e * e) (4 * (t * t) * min n m) (omega arith)

pub alike_law : (n m t : ℕ) → IsTrue (are_alike n m t) ↔ AreAlike n m t
alike_law n m t = (alike_if n m t, λ h. alike_only n m t h (cases_lt n m))

-- ---- what the code tests

pub within_allowed : (t u v : ℕ) → u ≤ v + t * t → true ≡ is_excess_allowed t u v
unfolding is_excess_allowed
within_allowed t u v h =
    let none : excess t u v ≡ 0 = omega arith in
    sym (le-leb (excess t u v * excess t u v) (4 * (t * t) * v) (rw none (omega arith)))

pub by_squares : (t u v e : ℕ) → e ≡ u - (v + t * t) → nat_le (e * e) (4 * (t * t) * v) ≡ is_excess_allowed t u v
unfolding is_excess_allowed
by_squares t u v e is =
    let same : e ≡ excess t u v = omega arith in
    rw same refl

far_square : (t v e : ℕ) → t ≤ 5_080 → v < 2 ^ 91 → 1_000_000_000_000_000_000 < e → 4 * (t * t) * v < e * e
far_square t v e small range far =
    let square : t * t ≤ 5_080 * 5_080 = mul-le t t 5_080 5_080 small small in
    let most : (4 * (t * t)) * v ≤ (4 * (5_080 * 5_080)) * (2 ^ 91) = mul-le (4 * (t * t)) v (4 * (5_080 * 5_080)) (2 ^ 91) (omega arith) (omega arith) in
    let least : 1_000_000_000_000_000_000 * 1_000_000_000_000_000_000 ≤ e * e =
    mul-le 1_000_000_000_000_000_000 1_000_000_000_000_000_000 e e (omega arith) (omega arith) in
    omega arith

-- a greater excess is more than any radii allow
pub too_far : (t u v e : ℕ) → t ≤ 5_080 → v < 2 ^ 91 → e ≡ u - (v + t * t) → 1_000_000_000_000_000_000 < e
    → nat_le e 1_000_000_000_000_000_000 ≡ is_excess_allowed t u v
unfolding is_excess_allowed
too_far t u v e small range is far =
    let same : e ≡ excess t u v = omega arith in
    let past : 4 * (t * t) * v < excess t u v * excess t u v = rw (← same) (far_square t v e small range far) in
    lt-leb e 1_000_000_000_000_000_000 far ∙ sym (lt-leb (excess t u v * excess t u v) (4 * (t * t) * v) past)
