-- The points of a sweep, without walking it.
use Rattle.std.proofs.Common.{arith, ℕ, zero, suc, ◌+◌, ◌-◌, ◌*◌, ◌/◌, ◌<◌, ◌≤◌, ◌≡◌, ◌⊎◌, ◌^◌, inl, inr, refl, subst}
use Rattle.std.proofs.lemmas.Nat.{mul-le}
use Rattle.std.proofs.lemmas.Bool.{cases_lt}
use Rattle.ng_step.specs.declared.sweep.QuadrantSweep.{QuadrantSweep}
use Rattle.ng_step.specs.declared.sweep.SweepSteps.{SweepSteps}
use Rattle.ng_step.specs.declared.sweep.QuadrantEnd.{QuadrantEnd}
use Rattle.ng_step.specs.Turned.{norm}
use Rattle.ng_step.specs.Periods.{ceil_div}
use Rattle.ng_step.specs.Private.Sweeps.{IsLeaving, inner_at, outer_at, OnWay, IsLast, IsPast, IsBefore, LeavesPast}
use Rattle.ng_step.specs.Private.Sweeps.{LeavesBefore, ComesInward, ComesOutward, IsFirstPast}

pub norm_le : (i o i' o' : ℕ) → i ≤ i' → o ≤ o' → norm i o ≤ norm i' o'
norm_le i o i' o' h k =
    let one : i * i ≤ i' * i' = mul-le i i i' i' h h in
    let two : o * o ≤ o' * o' = mul-le o o o' o' k k in
    omega arith

scaled_le : (j k s : ℕ) → j ≤ k → j * s ≤ k * s
scaled_le j k s h = mul-le j s k s h (omega arith)

quotient : (n s q : ℕ) → 0 < s → q ≡ n / s → (q * s ≤ n) × (n < (q + 1) * s)
quotient n s q some is = rw is (omega arith, omega arith)

root_ge : (o r : ℕ) → o * o < (r + 1) * (r + 1) → o ≤ r
root_ge o r h = elim (cases_lt r o) [
  | inl over ↦ (let product : (r + 1) * (r + 1) ≤ o * o = mul-le (r + 1) (r + 1) o o (omega arith) (omega arith) in absurd (omega arith))
  | inr fits ↦ fits
]

root_small : (r : ℕ) → r * r ≤ 2 ^ 94 → r ≤ 2 ^ 47
root_small r h = elim (cases_lt (2 ^ 47) r) [
  | inl over ↦ (let product : (2 ^ 47 + 1) * (2 ^ 47 + 1) ≤ r * r = mul-le (2 ^ 47 + 1) (2 ^ 47 + 1) r r (omega arith) (omega arith) in absurd (omega arith))
  | inr fits ↦ fits
]

-- ---- where it goes inward

pub leaving_now : (square i o s : ℕ) → square < norm i o → IsLeaving square i o s 0
leaving_now square i o s h = record { outside = omega arith; least = λ k none. absurd (omega arith) }

pub leaving_root : (square i o s r q : ℕ) → 0 < s → norm i o ≤ square → r * r ≤ square - i * i
    → square - i * i < (r + 1) * (r + 1) → q ≡ (r - o) / s → IsLeaving square i o s (q + 1)
leaving_root square i o s r q some inside low high is =
    let above : o ≤ r = root_ge o r (omega arith) in
    let parts = quotient (r - o) s q some is in
    let rest : r - o < (q + 1) * s = parts.1 in
    let far : r + 1 ≤ o + (q + 1) * s = omega arith in
    let product : (r + 1) * (r + 1) ≤ (o + (q + 1) * s) * (o + (q + 1) * s) = mul-le (r + 1) (r + 1) _ _ far far in
    let small : q * s ≤ r - o = parts.0 in
    record {
      outside = omega arith;
      least = λ k less.
          let near : k * s ≤ q * s = scaled_le k q s (omega arith) in
          let under : o + k * s ≤ r = omega arith in
          let below : (o + k * s) * (o + k * s) ≤ r * r = mul-le _ _ r r under under in
          omega arith;
    }

leaving_le : (square i o s m n : ℕ) → IsLeaving square i o s m → IsLeaving square i o s n → m ≤ n
leaving_le square i o s m n h k = elim (cases_lt n m) [
  | inl less ↦ (let within = h.least n less in let outside = k.outside in absurd (omega arith))
  | inr fits ↦ fits
]

leaving_only : (square i o s m n : ℕ) → IsLeaving square i o s m → IsLeaving square i o s n → m ≡ n
leaving_only square i o s m n h k = let one = leaving_le square i o s m n h k in let two = leaving_le square i o s n m k h in omega arith

-- a higher level isn't nearer to the axis
level_above : (p : QuadrantSweep) (j k : ℕ) → j ≤ k → inner_at p k ≤ inner_at p j
level_above p j k h = let product = scaled_le j k p.inner_step h in omega arith

outer_le : (p : QuadrantSweep) (m n : ℕ) → m ≤ n → outer_at p m ≤ outer_at p n
outer_le p m n h = let product = scaled_le m n p.outer_step h in omega arith

-- a point from which it goes inward is one that it reaches
pub on_way-leaving : (p : QuadrantSweep) (j m : ℕ) → j * p.inner_step < p.inner → IsLeaving p.square (inner_at p j) p.outer p.outer_step m → OnWay p j m
on_way-leaving p j m inside h = record {
  inside = inside;
  entered = inr (let more = norm_le (inner_at p j) (outer_at p m) (inner_at p (j - 1)) (outer_at p m)
      (level_above p (j - 1) j (omega arith)) (omega arith) in let outside = h.outside in omega arith);
  stayed = h.least;
}

pub last_is : (p : QuadrantSweep) (way : SweepSteps) → way.inward ≡ (p.inner - 1) / p.inner_step
    → IsLeaving p.square (inner_at p way.inward) p.outer p.outer_step way.outward → IsLast p way
last_is p way is h =
    let some : 0 < p.inner = p.inner_in_range.0 in
    let parts = quotient (p.inner - 1) p.inner_step way.inward p.inner_step_in_range.0 is in
    let near : p.inner ≤ (way.inward + 1) * p.inner_step = omega arith in
    let inside : way.inward * p.inner_step < p.inner = omega arith in
    record { on = on_way-leaving p way.inward way.outward inside h; outside = h.outside; near = near }

-- ---- the first point past an end

past_least : (p : QuadrantSweep) (e : QuadrantEnd) (j m n : ℕ) → IsPast p e j m → IsBefore p e j n → n < m
past_least p e j m n past before = elim (cases_lt n m) [
  | inl less ↦ less
  | inr le ↦ (let product = mul-le (outer_at p m) e.inner (outer_at p n) e.inner (outer_le p m n le) (omega arith) in absurd (omega arith))
]

-- it enters a level: with no outward steps, or with those of the level above
pub record Enters (p : QuadrantSweep) (e : QuadrantEnd) (j m : ℕ) : Type 0 where
  pub inside : j * p.inner_step < p.inner
  pub on : ((j ≡ 0) × (m ≡ 0)) ⊎ ComesInward p e j m

enters_entered : (p : QuadrantSweep) (e : QuadrantEnd) (j m n : ℕ) → m ≤ n → Enters p e j m → (j ≡ 0) ⊎ (p.square < norm (inner_at p (j - 1)) (outer_at p n))
enters_entered p e j m n le h = either h.on
  where
    either : ((j ≡ 0) × (m ≡ 0)) ⊎ ComesInward p e j m → (j ≡ 0) ⊎ (p.square < norm (inner_at p (j - 1)) (outer_at p n))
    either (inl first) = inl first.0
    either (inr down) = inr (let more = norm_le (inner_at p (j - 1)) (outer_at p m) (inner_at p (j - 1))
        (outer_at p n) (omega arith) (outer_le p m n le) in let outside = down.outside in omega arith)

comes : (p : QuadrantSweep) (e : QuadrantEnd) (j m more : ℕ) → Enters p e j m → p.outer * e.inner < p.inner * e.outer → LeavesPast p e j
    → IsPast p e j (m + more) → (0 < more → IsBefore p e j (m + more - 1)) → ComesInward p e j (m + more) ⊎ ComesOutward p e j (m + more)
comes p e j m zero h enters leaves past before =
    let same : m + 0 ≡ m = omega arith in
    rw same (either h.on (rw same at past))
  where
    either : ((j ≡ 0) × (m ≡ 0)) ⊎ ComesInward p e j m → IsPast p e j m → ComesInward p e j m ⊎ ComesOutward p e j m
    either (inr down) past = inl down
    either (inl first) past =
        let here : inner_at p 0 * e.outer ≤ outer_at p 0 * e.inner = rw (first.0, first.1) at past in
        let same_inner : p.inner - 0 * p.inner_step ≡ p.inner = omega arith in
        let same_outer : p.outer + 0 * p.outer_step ≡ p.outer = omega arith in
        let there : p.inner * e.outer ≤ p.outer * e.inner = rw (same_inner, same_outer) at here in
        absurd (omega arith)
comes p e j m (suc more) h enters leaves past before =
    let one : m + suc more - 1 ≡ m + more = omega arith in
    let open_at : IsBefore p e j (m + more) = rw one at (before (omega arith)) in
    let less : m + more < leaves.m = past_least p e j leaves.m (m + more) leaves.past open_at in
    let leaving = leaves.leaving in
    inr (record {
      some = omega arith;
      on = rw one (record {
        inside = h.inside;
        entered = enters_entered p e j m (m + more) (omega arith) h;
        stayed = λ k few. leaving.least k (omega arith);
      });
      within = rw one (leaving.least (m + more) less);
      before = rw one open_at;
    })

pub ceil_div_is : (a b : ℕ) → 0 < b → (a ≤ ceil_div a b * b) × (0 < ceil_div a b → (ceil_div a b - 1) * b < a)
ceil_div_is a b some =
    let q = (a + b - 1) / b in
    let low : q * b ≤ a + b - 1 = omega arith in
    let high : a + b - 1 < (q + 1) * b = omega arith in
    (omega arith, λ more. less q a b some more low)
  where
    less : (q a b : ℕ) → 0 < b → 0 < q → q * b ≤ a + b - 1 → (q - 1) * b < a
    less zero a b some more low = absurd (omega arith)
    less (suc q) a b some more low = let e : suc q - 1 ≡ q = omega arith in rw e (omega arith)

-- as many steps as the remaining way to the end takes
pub first_past_is : (p : QuadrantSweep) (e : QuadrantEnd) (j m more : ℕ) → Enters p e j m → p.outer * e.inner < p.inner * e.outer → LeavesPast p e j
    → more ≡ ceil_div (inner_at p j * e.outer - outer_at p m * e.inner) (p.outer_step * e.inner)
    → IsPast p e j (m + more) × (ComesInward p e j (m + more) ⊎ ComesOutward p e j (m + more))
first_past_is p e j m more h enters leaves is =
    let some : 1 * 1 ≤ p.outer_step * e.inner = mul-le 1 1 p.outer_step e.inner p.outer_step_in_range.0 e.inner_in_range.0 in
    let q = ceil_div_is (inner_at p j * e.outer - outer_at p m * e.inner) (p.outer_step * e.inner) (omega arith) in
    let enough : inner_at p j * e.outer - outer_at p m * e.inner ≤ more * (p.outer_step * e.inner) = rw is q.0 in
    let past = past_after (inner_at p j * e.outer) p.outer m more p.outer_step e.inner enough in (
      past,
      comes p e j m more h enters leaves past
          (λ some_more. before_less (inner_at p j * e.outer) p.outer m more p.outer_step e.inner some_more
          (rw is (q.1 (rw (← is) some_more)))),
    )
  where
    past_after : (x o m more s a : ℕ) → x - (o + m * s) * a ≤ more * (s * a) → x ≤ (o + (m + more) * s) * a
    past_after x o m more s a h = omega arith

    before_less : (x o m more s a : ℕ) → 0 < more → (more - 1) * (s * a) < x - (o + m * s) * a → (o + (m + more - 1) * s) * a < x
    before_less x o m zero s a some h = absurd (omega arith)
    before_less x o m (suc more) s a some h =
        let e : suc more - 1 ≡ more = omega arith in
        let f : m + suc more - 1 ≡ m + more = omega arith in
        let h' : more * (s * a) < x - (o + m * s) * a = rw e at h in
        rw f (omega arith)

pub enters_at_none : (p : QuadrantSweep) (e : QuadrantEnd) (j m : ℕ) → j ≡ 0 → m ≡ 0 → Enters p e j m
enters_at_none p e j m f g = record { inside = (let some = p.inner_in_range in rw f (omega arith)); on = inl (f, g) }

pub enters_below : (p : QuadrantSweep) (e : QuadrantEnd) (j m : ℕ) → 0 < j → j * p.inner_step < p.inner
    → IsLeaving p.square (inner_at p (j - 1)) p.outer p.outer_step m → LeavesBefore p e (j - 1) → Enters p e j m
enters_below p e j m some inside h before =
    let same = leaving_only p.square (inner_at p (j - 1)) p.outer p.outer_step before.m m before.leaving h in
    let product = scaled_le (j - 1) j p.inner_step (omega arith) in
    record {
      inside = inside;
      on = inr (record {
        some = some;
        on = on_way-leaving p (j - 1) m (omega arith) h;
        outside = h.outside;
        before = subst (λ (x : ℕ). IsBefore p e (j - 1) x) same before.before;
      });
    }

-- ---- the binary search: the level is one of those from the first on
pub record Halves (p : QuadrantSweep) (e : QuadrantEnd) (last first levels : ℕ) : Type 0 where
  pub some : 0 < levels
  pub within : first + levels ≤ last + 1
  pub past : LeavesPast p e (first + levels - 1)
  pub before : (first ≡ 0) ⊎ LeavesBefore p e (first - 1)

pub halves_all : (p : QuadrantSweep) (e : QuadrantEnd) (last : ℕ) → LeavesPast p e last → Halves p e last 0 (last + 1)
halves_all p e last past = record {
  some = omega arith;
  within = omega arith;
  past = (let e1 : 0 + (last + 1) - 1 ≡ last = omega arith in rw e1 past);
  before = inl refl;
}

pub halves_low : (p : QuadrantSweep) (e : QuadrantEnd) (last first levels half : ℕ) → Halves p e last first levels
    → 0 < half → half ≤ levels → LeavesPast p e (first + half - 1) → Halves p e last first half
halves_low p e last first levels half h some le past = record {
  some = some;
  within = omega (arith, h.within);
  past = past;
  before = h.before;
}

pub halves_high : (p : QuadrantSweep) (e : QuadrantEnd) (last first levels half : ℕ) → Halves p e last first levels
    → half < levels → LeavesBefore p e (first + half - 1) → Halves p e last (first + half) (levels - half)
halves_high p e last first levels half h less before = record {
  some = omega arith;
  within = omega (arith, h.within);
  past = (let e1 : first + half + (levels - half) - 1 ≡ first + levels - 1 = omega arith in rw e1 h.past);
  before = inr before;
}

-- each of its levels is in the quadrant
pub halves_inside : (p : QuadrantSweep) (e : QuadrantEnd) (last first levels level : ℕ)
    → last * p.inner_step < p.inner → Halves p e last first levels → level < first + levels
    → level * p.inner_step < p.inner
halves_inside p e last first levels level inside h less = let product = scaled_le level last p.inner_step (omega (arith, h.within)) in omega arith

-- at most the root and one step away
pub root_fits : (square i o s r q : ℕ) → 0 < s → s ≤ 2 ^ 47 → square ≤ 2 ^ 94 → norm i o ≤ square
    → r * r ≤ square - i * i → square - i * i < (r + 1) * (r + 1) → q ≡ (r - o) / s → o + (q + 1) * s ≤ 2 ^ 48
root_fits square i o s r q some small few inside low high is =
    let parts = quotient (r - o) s q some is in
    let above : o ≤ r = root_ge o r (omega arith) in
    let root : r ≤ 2 ^ 47 = root_small r (omega arith) in
    omega arith

-- a point inside the circle, and one more step
within_fits : (p : QuadrantSweep) (i m : ℕ) → norm i (outer_at p m) ≤ p.square → outer_at p (m + 1) ≤ 2 ^ 48
within_fits p i m h =
    let few = p.square_in_range in
    let step = p.outer_step_in_range.1 in
    let root : outer_at p m ≤ 2 ^ 47 = root_small (outer_at p m) (omega arith) in
    omega arith

on_way_fits : (p : QuadrantSweep) (j m : ℕ) → OnWay p j m → outer_at p m ≤ 2 ^ 48
on_way_fits p j zero h = let small = p.outer_in_range in omega arith
on_way_fits p j (suc m) h = let e : m + 1 ≡ suc m = omega arith in rw (← e) (within_fits p (inner_at p j) m (h.stayed m (omega arith)))

pub comes_fits : (p : QuadrantSweep) (e : QuadrantEnd) (way : SweepSteps) → IsFirstPast p e way → outer_at p way.outward ≤ 2 ^ 48
comes_fits p e way h = either h.comes
  where
    either : ComesInward p e way.inward way.outward ⊎ ComesOutward p e way.inward way.outward → outer_at p way.outward ≤ 2 ^ 48
    either (inl down) = on_way_fits p (way.inward - 1) way.outward down.on
    either (inr out) =
        let some = out.some in
        let one : way.outward - 1 + 1 ≡ way.outward = omega arith in
        rw one at (within_fits p (inner_at p way.inward) (way.outward - 1) out.within)

pub fits_few : (p : QuadrantSweep) (m : ℕ) → outer_at p m ≤ 2 ^ 48 → m ≤ 2 ^ 48
fits_few p m h = let product = mul-le m 1 m p.outer_step (omega arith) p.outer_step_in_range.0 in omega arith
