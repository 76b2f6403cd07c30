-- A coordinate between two that are in range.
use Rattle.std.proofs.Common.{arith, ℕ, suc, ◌*◌, ◌≤◌, ℤ, pos, negsuc, ◌+ℤ◌, ◌*ℤ◌}
use Rattle.std.proofs.lemmas.Int.{ints}
use Rattle.std.proofs.lemmas.Nat.{mul-le}
use Rattle.ng_num.specs.Range.{IsCount}

pub between : (from step : ℤ) (k n : ℕ) → k ≤ n → IsCount from → IsCount (from +ℤ pos n *ℤ step) → IsCount (from +ℤ pos k *ℤ step)
between from (pos s) k n below first last =
    let h : k * s ≤ n * s = mul-le k s n s below (omega arith) in
    omega (arith, ints, h)
between from (negsuc s) k n below first last =
    let h : k * suc s ≤ n * suc s = mul-le k (suc s) n (suc s) below (omega arith) in
    omega (arith, ints, h)
