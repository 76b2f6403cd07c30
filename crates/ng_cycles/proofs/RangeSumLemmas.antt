-- Sums whose range is checked one after another.
use Rattle.std.proofs.Common.{arith, ℕ, ◌≡◌, ℤ, ap, refl, Bool, true, false, not, ◌||◌, nat_lt, nat_le, unsigned_abs, [], ◌∷◌, Ok, Err, if◌then◌else◌}
use Rattle.std.proofs.lemmas.Bool.Decides.{nat_tests}
use Rattle.ng_num.specs.Range.{greatest, in_range}
use Rattle.ng_num.specs.declared.fault.Fault.{Fault}
use Rattle.ng_num.specs.declared.fault.Fault.TheVariants.{OutOfRange}
use Rattle.ng_cycles.specs.Heights.{is_far, far_unless}

pub beyond_is_far : (n : ℤ) (size : ℕ) → size ≡ unsigned_abs n → nat_lt greatest size ≡ is_far n
beyond_is_far n size e = grind (arith, nat_tests)

ok_by : (near : Bool) (n m : ℤ) → Ok m ≡ (if near then Ok n else Err OutOfRange) → (m ≡ n) × (near ≡ true)
ok_by true n m e = (cc e, refl)
ok_by false n m e = absurd (cc e)

pub near_ok : (n m : ℤ) → Ok m ≡ in_range n → (m ≡ n) × (is_far n ≡ false)
near_ok n m e = let h = ok_by (nat_le (unsigned_abs n) greatest) n m e in (h.0, ap not h.1)

err_by : (near : Bool) (n : ℤ) (fault : Fault) → Err fault ≡ (if near then Ok n else Err OutOfRange) → (fault ≡ OutOfRange) × (near ≡ false)
err_by true n fault e = absurd (cc e)
err_by false n fault e = (cc e, refl)

pub near_err : (n : ℤ) (fault : Fault) → Err fault ≡ in_range n → (fault ≡ OutOfRange) × (is_far n ≡ true)
near_err n fault e = let h = err_by (nat_le (unsigned_abs n) greatest) n fault e in (h.0, ap not h.1)

alone_by : (near : Bool) (n : ℤ) → (if near then Ok n else Err OutOfRange) ≡ (if not near || false then Err OutOfRange else Ok n)
alone_by true n = refl
alone_by false n = refl

pub far_alone : (n : ℤ) → in_range n ≡ far_unless (n ∷ []) n
far_alone n = alone_by (nat_le (unsigned_abs n) greatest) n

pub far_second : (a n : ℤ) → is_far a ≡ false → in_range n ≡ far_unless (a ∷ n ∷ []) n
far_second a n e = rw e (far_alone n)

pub far_third : (a b n : ℤ) → is_far a ≡ false → is_far b ≡ false → in_range n ≡ far_unless (a ∷ b ∷ n ∷ []) n
far_third a b n e f = rw (e, f) (far_alone n)
