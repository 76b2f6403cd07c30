-- What is read of a number that was written.
use Rattle.std.proofs.Common.{◌≡◌, ℕ, ◌≤◌, Bool, true, false, nat_le, ℤ, pos, unsigned_abs, Some}
use Rattle.std.proofs.Common.{None, refl, sym, ◌∙◌, ap, arith}
use Rattle.std.proofs.lemmas.Bool.Decides.{nat_tests}
use Rattle.std.proofs.lemmas.Int.{to_z-of_z}
use Rattle.std.specs.Int.{w64, cast_signed, cast_unsigned}
use Rattle.ng_num.specs.Range.{IsCount, greatest}
use Rattle.ng_params.specs.Numbers.{system_of}
use Rattle.ng_layout.specs.Decoding.{up_to, count_of}

pub up_to-back : (limit n : ℕ) → n ≤ limit → up_to limit n ≡ Some n
up_to-back limit n le = grind (arith, nat_tests)

pub count-back : (z : ℤ) → IsCount z → count_of z ≡ Some z
count-back z small = grind (arith, nat_tests)

pub system-back : (n : ℕ) → 1 ≤ n → n ≤ 9 → system_of (pos n) ≡ Some n
system-back n low high = grind (arith, nat_tests)

-- a number that passes through an i64
pub wrap : (z : ℤ) → IsCount z → cast_signed w64 (cast_unsigned w64 z) ≡ z
wrap z small = grind (arith, to_z-of_z)

pub wrapped : (z y : ℤ) → count_of z ≡ Some y → count_of (cast_signed w64 (cast_unsigned w64 z)) ≡ Some y
wrapped z y is = go (nat_le (unsigned_abs z) greatest) refl
  where
    go : (b : Bool) → nat_le (unsigned_abs z) greatest ≡ b → count_of (cast_signed w64 (cast_unsigned w64 z)) ≡ Some y
    go true le = ap count_of (wrap z (grind (arith, nat_tests))) ∙ is
    go false gt = let none : count_of z ≡ None = grind (arith, nat_tests) in absurd (never (sym none ∙ is))
      where
        never : {A : Type 0} {x : A} → None ≡ Some x → ⊥
        never p = cc
