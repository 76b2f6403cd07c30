-- A coordinate, shifted and shifted back.
use Rattle.std.proofs.Common.{◌≡◌, ◌≤◌, ℤ, ◌+ℤ◌, ◌-ℤ◌, unsigned_abs, to_z, of_z, Result, Ok, Err, IfOk, ap, sym, ◌∙◌, arith}
use mir.Syntax.{w64, w128}
use Rattle.std.proofs.lemmas.Int.{ints}
use Rattle.std.proofs.lemmas.Bool.Decides.{nat_tests}
use Rattle.ng_num.specs.Range.{IsCount, in_range}
use Rattle.ng_num.specs.declared.fault.Fault.{Fault}
use Rattle.ng_offsets.proofs.WantedLemmas.{itself}

-- at most as large as a shift
abbrev IsSmall : ℤ → Type 0
IsSmall n = unsigned_abs n ≤ 29_999_999_999_997

pub small : (n a : ℤ) → IsCount n → a ≡ n → IsSmall a
small n a h e =
    let k : unsigned_abs n ≤ 29_999_999_999_997 = omega arith in
    rw e k

-- a sum of machine integers is the sum, and a difference the difference
pub stored_sum : (n m a b : ℤ) → IsSmall a → IsSmall b → a ≡ n → b ≡ m → to_z w64 (of_z w64 (to_z w64 (of_z w64 a) +ℤ to_z w64 (of_z w64 b))) ≡ n +ℤ m
stored_sum n m a b h k e f = omega (arith, ints)

pub stored_more : (n m a b : ℤ) → IsSmall a → IsSmall b → a ≡ n → b ≡ m
    → to_z w128 (of_z w128 (to_z w64 (of_z w64 (to_z w64 (of_z w64 a) +ℤ to_z w64 (of_z w64 b))))) ≡ n +ℤ m
stored_more n m a b h k e f = omega (arith, ints)

pub stored_less : (n m a b : ℤ) → IsSmall a → IsSmall b → a ≡ n → b ≡ m
    → to_z w128 (of_z w128 (to_z w64 (of_z w64 (to_z w64 (of_z w64 a) -ℤ to_z w64 (of_z w64 b))))) ≡ n -ℤ m
stored_less n m a b h k e f = omega (arith, ints)

-- ---- and back

counted : (n : ℤ) → IsCount n → in_range n ≡ Ok n
counted n h = grind (arith, nat_tests)

pub back_by_less : (n shift : ℤ) (answer : Result ℤ Fault) → IsCount n → answer ≡ in_range (n +ℤ shift) → IfOk answer (λ m. in_range (m -ℤ shift) ≡ Ok n)
back_by_less n shift (Ok m) h e =
    let there : m ≡ n +ℤ shift = itself (n +ℤ shift) m (sym e) in
    let back : m -ℤ shift ≡ n = omega (arith, ints, there) in
    ap in_range back ∙ counted n h
back_by_less n shift (Err _) h e = tt

pub back_by_more : (n shift : ℤ) (answer : Result ℤ Fault) → IsCount n → answer ≡ in_range (n -ℤ shift) → IfOk answer (λ m. in_range (m +ℤ shift) ≡ Ok n)
back_by_more n shift (Ok m) h e =
    let there : m ≡ n -ℤ shift = itself (n -ℤ shift) m (sym e) in
    let back : m +ℤ shift ≡ n = omega (arith, ints, there) in
    ap in_range back ∙ counted n h
back_by_more n shift (Err _) h e = tt
