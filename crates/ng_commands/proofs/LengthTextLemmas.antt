-- A text that is a number has no blank, and stands for at most one length.
use Rattle.std.proofs.Common.{◌≡◌, ◌<◌, ◌≤◌, ℕ, ℤ, unsigned_abs, nat_le, Bool, true, false, if◌then◌else◌, List, []}
use Rattle.std.proofs.Common.{◌∷◌, Option, Some, None, Result, Ok, Err, MatchOption, refl, sym, ◌∙◌, ap, subst}
use Rattle.std.proofs.Common.{arith}
use Rattle.std.proofs.lemmas.Bool.Decides.{nat_tests}
use Rattle.std.specs.Result.{result_ok}
use Rattle.ng_num.specs.Range.{IsCount, greatest, in_range}
use Rattle.ng_num.specs.declared.fault.Fault.{Fault}
use Rattle.ng_num.specs.declared.fault.Fault.TheVariants.{OutOfRange}
use Rattle.ng_words.specs.Grammar.{IsNumber}
use Rattle.ng_words.proofs.BlanklessNumberLemmas.{AreBytes, number_bytes}
use Rattle.ng_commands.specs.Commands.{HasNo, SpellsLength}

pub bytes_without : (c : ℕ) (bytes : List ℕ) → c < 43 → AreBytes bytes → HasNo c bytes
bytes_without c [] below are = tt
bytes_without c (b ∷ bytes) below are = (λ same. absurd (omega (arith, below, same, are.0)), bytes_without c bytes below are.2)

-- a length has no blank
pub length_bare : (text : List ℕ) (nm : ℤ) → SpellsLength text nm → HasNo 32 text
length_bare text nm writes = bytes_without 32 text (omega arith) (number_bytes text nm writes.0)

in_range_count : (z : ℤ) → IsCount z → in_range z ≡ Ok z
in_range_count z small = at (nat_le (unsigned_abs z) greatest) (grind (arith, nat_tests, small))
  where
    at : (t : Bool) → t ≡ true → (if t then Ok z else Err OutOfRange) ≡ Ok z
    at true e = refl
    at false e = absurd cc

-- the value read from the text of a length is that length
length_only : (text : List ℕ) (read : Result ℤ Fault) → ((z : ℤ) → IsNumber text z → read ≡ in_range z) → (nm : ℤ) → SpellsLength text nm → read ≡ Ok nm
length_only text read value nm writes = value nm writes.0 ∙ in_range_count nm writes.1

pub length_unread : (text : List ℕ) (e : Fault) (read : Result ℤ Fault) → read ≡ Err e
    → ((z : ℤ) → IsNumber text z → read ≡ in_range z) → (nm : ℤ) → SpellsLength text nm → ⊥
length_unread text e read is value nm writes = out e nm (sym is ∙ length_only text read value nm writes)
  where
    out : (e : Fault) (nm : ℤ) → ◌≡◌ {A = Result ℤ Fault} (Err e) (Ok nm) → ⊥
    out e nm same = absurd cc

ok_same : (m n : ℤ) → ◌≡◌ {A = Result ℤ Fault} (Ok m) (Ok n) → m ≡ n
ok_same m n e = cc

pub length_read : (text : List ℕ) (n : ℤ) (read : Result ℤ Fault) (r : Option ℤ) → read ≡ Ok n
    → ((z : ℤ) → IsNumber text z → read ≡ in_range z) → IsNumber text n
    → r ≡ result_ok (in_range n) → MatchOption r ((nm : ℤ) → SpellsLength text nm → ⊥) (SpellsLength text)
length_read text n read r is value number found = at (nat_le (unsigned_abs n) greatest) refl
  where
    at : (t : Bool) → nat_le (unsigned_abs n) greatest ≡ t → MatchOption r ((nm : ℤ) → SpellsLength text nm → ⊥) (SpellsLength text)
    at true e =
        let small : IsCount n = grind (arith, nat_tests, e) in
        let some : r ≡ Some n = found ∙ ap result_ok (in_range_count n small) in
        subst (λ (o : Option ℤ). MatchOption o ((nm : ℤ) → SpellsLength text nm → ⊥) (SpellsLength text)) (sym some) (number, small)
    at false e =
        let none : r ≡ None = found ∙ ap (λ (t : Bool). result_ok {T = ℤ} {E = Fault} (if t then Ok n else Err OutOfRange)) e in
        subst (λ (o : Option ℤ). MatchOption o ((nm : ℤ) → SpellsLength text nm → ⊥) (SpellsLength text)) (sym none) (λ nm writes.
        let same : n ≡ nm = ok_same n nm (sym is ∙ length_only text read value nm writes) in
        let small : IsCount n = subst IsCount (sym same) writes.1 in
        grind (arith, nat_tests, small, e))
