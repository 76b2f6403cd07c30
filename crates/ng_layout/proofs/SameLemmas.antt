-- Bytes that hold the same at a position are the same there.
use Rattle.std.proofs.Common.{◌≡◌, ◌⊎◌, inl, inr, ℕ, zero, suc, ◌+◌, ◌-◌, ◌^◌, ◌<◌, ◌≤◌, List, length, take, drop}
use Rattle.std.proofs.Common.{slice_index, sym, ◌∙◌, ap, subst, arith}
use Rattle.std.specs.Int.{w64, cast_unsigned}
use Rattle.std.proofs.lemmas.Bool.{cases_eq}
use Rattle.std.proofs.lemmas.Int.{of_z-to_z}
use Rattle.std.proofs.lemmas.List.{ext_get_or, get_or-drop, get_or-take, get_or_past, length-take-le}
use Rattle.byteorder.specs.Endian.{little_from}
use Rattle.byteorder.specs.Numbers.{little_from-lt}
use Rattle.ng_layout.specs.Fields.{number_at, signed_at, bytes_at, AreZero}
use Rattle.ng_layout.specs.Pinned.{AreBytes}

-- the bytes from one position up to another are the same
pub record SameBetween (from to : ℕ) (one other : List ℕ) : Type 0 where
  pub each : (k : ℕ) → from ≤ k → k < to → slice_index one k ≡ slice_index other k

pub lt_cases : (k n : ℕ) → (k < n) ⊎ (n ≤ k)
lt_cases k n = grind arith

pub join : {from mid to : ℕ} {one other : List ℕ} → SameBetween from mid one other → SameBetween mid to one other
    → SameBetween from to one other
join {mid = mid} first rest = record {
  each = λ k low high. elim (lt_cases k mid) [ inl before ↦ first.each k low before | inr after ↦ rest.each k after high ];
}

pub part-of : (from to low high : ℕ) (one other : List ℕ) → SameBetween from to one other → from ≤ low → high ≤ to
    → SameBetween low high one other
part-of from to low high one other same above below =
    record { each = λ k at before. same.each k (omega arith) (omega arith) }

-- what is from a position on
pub after : (at n : ℕ) (one other : List ℕ) → SameBetween 0 n (drop at one) (drop at other)
    → SameBetween at (at + n) one other
after at n one other same = record {
  each = λ k low high.
      let i = k - at in
      let place : at + i ≡ k = omega arith in
      subst (λ (x : ℕ). slice_index one x ≡ slice_index other x) place
      (sym (get_or-drop at one i 0) ∙ same.each i (omega arith) (omega arith) ∙ get_or-drop at other i 0);
}

pub bytes-same : (n at : ℕ) (one other : List ℕ) → bytes_at n at one ≡ bytes_at n at other
    → SameBetween at (at + n) one other
unfolding bytes_at
bytes-same n at one other is = after at n one other (record {
  each = λ k low high. sym (get_or-take n (drop at one) k 0 high) ∙ ap (λ (l : List ℕ). slice_index l k) is
      ∙ get_or-take n (drop at other) k 0 high;
})

pub zeros-same : (n at : ℕ) (one other : List ℕ) → AreZero n at one → AreZero n at other
    → SameBetween at (at + n) one other
zeros-same n at one other zeros zeros' = bytes-same n at one other (zeros ∙ sym zeros')

-- A byte past the end counts as 0.
small : (bytes : List ℕ) → AreBytes bytes → (k : ℕ) → slice_index bytes k < 256
small bytes are k = elim (lt_cases k (length bytes)) [
  | inl here ↦ are k 0 here
  | inr past ↦ subst (λ (n : ℕ). n < 256) (sym (get_or_past bytes k 0 past)) (omega arith)
]

small-after : (at : ℕ) (bytes : List ℕ) → AreBytes bytes → (k : ℕ) → slice_index (drop at bytes) k < 256
small-after at bytes are k = subst (λ (n : ℕ). n < 256) (sym (get_or-drop at bytes k 0)) (small bytes are (at + k))

-- The same number is of the same bytes.
from-same : (i n : ℕ) (one other : List ℕ) → ((k : ℕ) → slice_index one k < 256)
    → ((k : ℕ) → slice_index other k < 256) → little_from i n one ≡ little_from i n other
    → (k : ℕ) → i ≤ k → k < i + n → slice_index one k ≡ slice_index other k
from-same i zero one other low low' is k above below = absurd (omega arith)
from-same i (suc n) one other low low' is k above below =
    let a = low i in
    let b = low' i in
    let first : slice_index one i ≡ slice_index other i = omega arith in
    let rest : little_from (suc i) n one ≡ little_from (suc i) n other = omega arith in
    elim (cases_eq k i) [
      | inl here ↦ ap (slice_index one) here ∙ first ∙ sym (ap (slice_index other) here)
      | inr later ↦ from-same (suc i) n one other low low' rest k (omega arith) (omega arith)
    ]

fits : (at : ℕ) (bytes : List ℕ) → AreBytes bytes → number_at 8 at bytes < 2 ^ 64
unfolding number_at
fits at bytes are = little_from-lt 0 8 (drop at bytes) (small-after at bytes are)

module _ (one other : List ℕ) (are : AreBytes one) (are' : AreBytes other) where
  pub number-same : (w at : ℕ) → number_at w at one ≡ number_at w at other → SameBetween at (at + w) one other
  unfolding number_at
  number-same w at is = after at w one other (record {
    each = λ k low high. from-same 0 w (drop at one) (drop at other) (small-after at one are)
        (small-after at other are') is k low (omega arith);
  })

  pub signed-same : (at : ℕ) → signed_at at one ≡ signed_at at other → SameBetween at (at + 8) one other
  unfolding signed_at
  signed-same at is = number-same 8 at (sym (of_z-to_z w64 (number_at 8 at one) (fits at one are))
      ∙ ap (cast_unsigned w64) is ∙ of_z-to_z w64 (number_at 8 at other) (fits at other are'))

-- the bytes up to a position as a list
pub same-take : (n : ℕ) (one other : List ℕ) → n ≤ length one → n ≤ length other → SameBetween 0 n one other
    → take n one ≡ take n other
same-take n one other long long' same =
    let a : length (take n one) ≡ n = length-take-le n one long in
    let b : length (take n other) ≡ n = length-take-le n other long' in
    ext_get_or 0 (take n one) (take n other) (a ∙ sym b) (λ k lt.
    get_or-take n one k 0 (omega arith) ∙ same.each k (omega arith) (omega arith)
    ∙ sym (get_or-take n other k 0 (omega arith)))

pub same-whole : (n : ℕ) (one other : List ℕ) → length one ≡ n → length other ≡ n → SameBetween 0 n one other
    → one ≡ other
same-whole n one other long long' same =
    ext_get_or 0 one other (long ∙ sym long') (λ k lt. same.each k (omega arith) (omega arith))
