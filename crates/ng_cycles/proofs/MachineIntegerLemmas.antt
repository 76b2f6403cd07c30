-- Lengths, and sums and products of them, as machine integers.
use Rattle.std.proofs.Common.{arith, ℕ, ◌*◌, ◌/◌, ◌^◌, ◌<◌, ◌≡◌, suc, ℤ, pos, negsuc, ◌+ℤ◌, ◌*ℤ◌, to_z, of_z, unsigned_abs}
use mir.Syntax.{w64, w128}
use mir.Val.{SFits}
use Rattle.std.proofs.lemmas.Int.{ints}
use Rattle.std.proofs.lemmas.Nat.{mul-lt, mul-le, div_below}
use Rattle.ng_num.specs.Range.{IsCount}

-- a length times a count
small_product : (n : ℕ) (l : ℤ) → n < 2 ^ 32 → IsCount l → unsigned_abs (pos n *ℤ l) < 2 ^ 100
small_product n (pos s) few near = let h : n * s < 2 ^ 32 * 2 ^ 44 = mul-lt n s (2 ^ 32) (2 ^ 44) few (omega (arith, near)) in omega (arith, ints, h)
small_product n (negsuc s) few near = let h : n * suc s < 2 ^ 32 * 2 ^ 44 = mul-lt n (suc s) (2 ^ 32) (2 ^ 44) few
    (omega (arith, near)) in omega (arith, ints, h)

pub record IsStored (p product : ℤ) : Type 0 where
  pub fits : SFits w128 p
  pub value : to_z w128 (of_z w128 p) ≡ product
  pub small : unsigned_abs (to_z w128 (of_z w128 p)) < 2 ^ 100

small_stored : (p : ℤ) → unsigned_abs p < 2 ^ 100 → IsStored p p
small_stored p h = record { fits = omega (arith, ints, h); value = omega (arith, ints, h); small = omega (arith, ints, h) }

pub product_stored : (n : ℕ) (l m : ℤ) → n < 2 ^ 32 → IsCount l → m ≡ l → IsStored (to_z w128 n *ℤ to_z w128 (of_z w128 (to_z w64 (of_z w64 m)))) (pos n *ℤ l)
product_stored n l m few near e =
    let count : to_z w128 n ≡ pos n = omega (arith, ints) in
    let length : to_z w128 (of_z w128 (to_z w64 (of_z w64 m))) ≡ l = omega (arith, ints) in
    rw (count, length) (small_stored (pos n *ℤ l) (small_product n l few near))

-- a length plus an addend
pub sum_stored : (n l t : ℤ) → n ≡ l → IsCount l → unsigned_abs t < 2 ^ 100
    → to_z w128 (of_z w128 (to_z w128 (of_z w128 (to_z w64 (of_z w64 n))) +ℤ to_z w128 (of_z w128 t))) ≡ l +ℤ t
sum_stored n l t e near small = omega (arith, ints)

pub few_parts : (n q : ℕ) → 0 < q → n < 40_000_000_000_000 → n / q < 40_000_000_000_000
few_parts n q some h = let m = mul-le 40_000_000_000_000 1 40_000_000_000_000 q (omega arith) some in div_below n q
    40_000_000_000_000 some (omega (arith, m, h))
