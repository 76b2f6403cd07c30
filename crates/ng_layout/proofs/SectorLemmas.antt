-- Sectors of values and of a text.
use Rattle.std.proofs.Common.{◌≡◌, ◌≢◌, ◌⊎◌, inl, inr, ⊎_elim, ℕ, zero, suc, ◌+◌, ◌-◌, ◌*◌, ◌<◌, ◌≤◌, min, List}
use Rattle.std.proofs.Common.{◌++◌, ℤ, pos, get_or, slice_index, length, length-append, take, drop, replicate, set}
use Rattle.std.proofs.Common.{lit≤, refl, sym, ◌∙◌, ap, subst, arith}
use Rattle.std.proofs.lemmas.Bool.{cases_eq}
use Rattle.std.proofs.lemmas.List.{drop-replicate, take-replicate, length-replicate, get_or-set_same}
use Rattle.std.proofs.lemmas.List.{get_or-set_other, get_or-take, get_or-drop, get_or_append_left}
use Rattle.std.proofs.lemmas.List.{get_or-append_right, get_or_past, length-take-le}
use Rattle.std.proofs.Common.{length-drop}
use Rattle.byteorder.specs.Endian.{little_number, little_from}
use Rattle.ng_num.specs.Range.{IsCount}
use Rattle.ng_layout.specs.Fields.{number_at, signed_at, bytes_at, AreZero, SameFrom, Puts}
use Rattle.ng_layout.specs.Sectors.{HoldsValues, HoldsText}
use Rattle.ng_layout.proofs.ByteLemmas.{signed-below, signed-from, bytes-from, from-more, from-further}

pub zero_at : (n i : ℕ) → ◌≡◌ {A = ℕ} (get_or (replicate n 0) i 0) 0
zero_at zero i = refl
zero_at (suc n) zero = refl
zero_at (suc n) (suc i) = zero_at n i

little_from-zeros : (i w n : ℕ) → little_from i w (replicate n 0) ≡ 0
little_from-zeros i zero n = refl
little_from-zeros i (suc w) n = let a = zero_at n i in let b = little_from-zeros (suc i) w n in omega (arith, a, b)

pub number-zeros : (w at n : ℕ) → number_at w at (replicate n 0) ≡ 0
unfolding number_at
number-zeros w at n = ap (little_number w) (drop-replicate at n 0) ∙ little_from-zeros 0 w (n - at)

pub signed-zeros : (at n : ℕ) → signed_at at (replicate n 0) ≡ pos 0
unfolding signed_at
signed-zeros at n = rw (number-zeros 8 at n) refl

pub bytes-zeros : (n at size : ℕ) → at + n ≤ size → AreZero n at (replicate size 0)
unfolding bytes_at
bytes-zeros n at size fits = ap (λ (l : List ℕ). take n l) (drop-replicate at size 0) ∙ take-replicate n (size - at) 0 (omega arith)

-- after this position the sector is like a sector of zeros
pub zeros-from : (m at : ℕ) (sector : List ℕ) → SameFrom m (replicate 512 0) sector → m ≤ at → at ≤ 512 → AreZero (512 - at) at sector
zeros-from m at sector same le within = bytes-from (512 - at) m at (replicate 512 0) sector same le ∙ bytes-zeros (512 - at) at 512 (omega arith)

-- the first k values are there, followed by zeros
pub record ValuesTo (table : List ℤ) (first k : ℕ) (sector : List ℕ) : Type 0 where
  pub each : (j : ℕ) → j < k → first + j < 5399 → signed_at (8 * j) sector ≡ get_or table (first + j) (pos 0)
  pub past : (j : ℕ) → j < k → j < 64 → 5399 ≤ first + j → AreZero (512 - 8 * j) (8 * j) sector
  pub counts : (j : ℕ) → j < k → first + j < 5399 → IsCount (signed_at (8 * j) sector)
  pub rest : SameFrom (8 * k) (replicate 512 0) sector

pub values-more : (table : List ℤ) (first k : ℕ) (old new : List ℕ) (value : ℤ) → ValuesTo table first k old
    → first + k < 5399 → Puts (signed_at (8 * k)) (8 * k) (8 * k + 8) value old new
    → value ≡ get_or table (first + k) (pos 0) → IsCount value → ValuesTo table first (k + 1) new
values-more table first k old new value so_far here put is small = record {
  each = λ j lt within. elim (cases_eq j k) [
    | inl same ↦ subst (λ (x : ℕ). signed_at (8 * x) new ≡ get_or table (first + x) (pos 0)) (sym same) (put.written ∙ is)
    | inr other ↦ signed-below (8 * j) (8 * k) old new put.below (omega arith) ∙ so_far.each j (omega arith) within
  ];
  past = λ j lt within beyond. absurd (omega arith);
  counts = λ j lt within. elim (cases_eq j k) [
    | inl same ↦ subst (λ (x : ℕ). IsCount (signed_at (8 * x) new)) (sym same) (subst IsCount (sym put.written) small)
    | inr other ↦ subst IsCount (sym (signed-below (8 * j) (8 * k) old new put.below (omega arith))) (so_far.counts j (omega arith) within)
  ];
  rest = from-further (8 * k + 8) (8 * (k + 1)) (replicate 512 0) new
      (from-more (8 * k) (8 * k + 8) (replicate 512 0) old new so_far.rest put.beyond (omega arith)) (omega arith);
}

pub values-past : (table : List ℤ) (first k : ℕ) (sector : List ℕ) → ValuesTo table first k sector → 5399 ≤ first + k → ValuesTo table first (k + 1) sector
values-past table first k sector so_far beyond = record {
  each = λ j lt within. so_far.each j (omega arith) within;
  past = λ j lt within later. elim (cases_eq j k) [
    | inl same ↦ zeros-from (8 * k) (8 * j) sector so_far.rest (omega arith) (omega arith)
    | inr other ↦ so_far.past j (omega arith) within later
  ];
  counts = λ j lt within. so_far.counts j (omega arith) within;
  rest = from-further (8 * k) (8 * (k + 1)) (replicate 512 0) sector so_far.rest (omega arith);
}

lt_cases : (k n : ℕ) → (k < n) ⊎ (n ≤ k)
lt_cases k n = grind arith

pub holds_text : (text sector : List ℕ) (first end : ℕ) → first ≤ length text
    → end ≡ min (length text) (first + 512) → sector ≡ take (end - first) (drop first text) ++ replicate
    (512 - length (take (end - first) (drop first text))) 0 → HoldsText text first sector
holds_text text sector first end within is bytes =
    let part = take (end - first) (drop first text) in
    let zeros = replicate (512 - length part) 0 in
    let long : length part ≡ end - first = length-take-le (end - first) (drop first text) (omega (arith, length-drop first text)) in
    record {
      whole = ap length bytes ∙ length-append part zeros ∙ omega (arith, length-replicate {A = ℕ} (512 - length part) 0);
      each = λ k lt. elim (lt_cases k (end - first)) [
        | inl here ↦ ap (λ (l : List ℕ). slice_index l k) bytes ∙ get_or_append_left part zeros 0 k (omega arith)
            ∙ get_or-take (end - first) (drop first text) k 0 here ∙ get_or-drop first text k 0
        | inr past ↦ ap (λ (l : List ℕ). slice_index l k) bytes ∙ get_or-append_right part zeros (end - first) k 0
            long past ∙ zero_at (512 - length part) (k - (end - first))
            ∙ sym (get_or_past text (first + k) 0 (omega arith))
      ];
    }

-- the first k values of a sector are copied
pub record TakenTo (old new : List ℤ) (first k : ℕ) (sector : List ℕ) : Type 0 where
  pub here : (j : ℕ) → j < k → first + j < 5399 → first + j < length old → get_or new (first + j) (pos 0) ≡ signed_at (8 * j) sector
  pub counts : (j : ℕ) → j < k → first + j < 5399 → IsCount (signed_at (8 * j) sector)
  pub before : (p : ℕ) → p < first → get_or new p (pos 0) ≡ get_or old p (pos 0)
  pub long : length new ≡ length old

-- A table whose values are all 0 but one.
value_zero : (n i : ℕ) → get_or (replicate n (pos 0)) i (pos 0) ≡ pos 0
value_zero zero i = refl
value_zero (suc n) zero = refl
value_zero (suc n) (suc i) = value_zero n i

other_value : (n p i : ℕ) (v : ℤ) → i ≢ p → get_or (set (replicate n (pos 0)) p v) i (pos 0) ≡ pos 0
other_value n p i v other = get_or-set_other (replicate n (pos 0)) p i v (pos 0) other ∙ value_zero n i

that_value : (n p : ℕ) (v : ℤ) → p < n → get_or (set (replicate n (pos 0)) p v) p (pos 0) ≡ v
that_value n p v lt = get_or-set_same (replicate n (pos 0)) p v (pos 0) (omega (arith, length-replicate n (pos 0)))

zero_count : IsCount (pos 0)
zero_count = lit≤ tt

-- a sector of zeros, if that one isn't in it
pub zeros_hold : (n p first : ℕ) (v : ℤ) → (p < first) ⊎ (first + 64 ≤ p) → HoldsValues (set (replicate n (pos 0)) p v) first (replicate 512 0)
zeros_hold n p first v outside = record {
  each = λ k lt within. signed-zeros (8 * k) 512 ∙ sym (other_value n p (first + k) v (λ e. ⊎_elim (λ before. omega arith) (λ after. omega arith) outside));
  past = λ k lt beyond. bytes-zeros (512 - 8 * k) (8 * k) 512 (omega arith);
  counts = λ k lt within. subst IsCount (sym (signed-zeros (8 * k) 512)) zero_count;
}

-- and the sector that contains it
pub one_holds : (n p first : ℕ) (v : ℤ) (sector : List ℕ) → p < n → p < 5399 → first ≤ p → p < first + 64
    → IsCount v → Puts (signed_at (8 * (p - first))) (8 * (p - first)) (8 * (p - first) + 8) v (replicate 512 0)
    sector → HoldsValues (set (replicate n (pos 0)) p v) first sector
one_holds n p first v sector there within from to small put = record {
  each = λ k lt here. elim (cases_eq k place) [
    | inl same ↦ ap (λ (x : ℕ). signed_at (8 * x) sector) same ∙ put.written
        ∙ sym (ap (λ (x : ℕ). get_or (set (replicate n (pos 0)) p v) x (pos 0)) (whole k same)
        ∙ that_value n p v there)
    | inr other ↦ zero_here k other ∙ sym (other_value n p (first + k) v (λ e. other (omega arith)))
  ];
  past = λ k lt beyond. zeros-from (8 * (p - first) + 8) (8 * k) sector put.beyond (omega arith) (omega arith);
  counts = λ k lt here. elim (cases_eq k place) [
    | inl same ↦ subst IsCount (sym (ap (λ (x : ℕ). signed_at (8 * x) sector) same ∙ put.written)) small
    | inr other ↦ subst IsCount (sym (zero_here k other)) zero_count
  ];
}
  where
    place : ℕ
    place = p - first

    whole : (k : ℕ) → k ≡ p - first → first + k ≡ p
    whole k same = omega arith

    zero_here : (k : ℕ) → k ≢ p - first → signed_at (8 * k) sector ≡ pos 0
    zero_here k other = elim (lt_cases k (p - first)) [
      | inl before ↦ signed-below (8 * k) (8 * (p - first)) (replicate 512 0) sector put.below (omega arith) ∙ signed-zeros (8 * k) 512
      | inr after ↦ signed-from (8 * (p - first) + 8) (8 * k) (replicate 512 0) sector put.beyond (omega arith) ∙ signed-zeros (8 * k) 512
    ]
