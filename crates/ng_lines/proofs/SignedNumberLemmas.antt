-- The text of a number, with its sign.
use Rattle.std.proofs.Common.{◌≡◌, ◌∙◌, ◌<◌, ◌≤◌, ◌/◌, ◌^◌, ℕ, zero, suc, ℤ, pos, negsuc, neg_ℤ, unwrap_or}
use Rattle.std.proofs.Common.{unsigned_abs, Bool, true, false, List, [], ◌∷◌, length, drop, get_or, ap, arith, refl}
use Rattle.std.proofs.Common.{subst, sym, Option, Some, IfSome, nat_le, le-leb, if◌then◌else◌, Ok, Err}
use Rattle.std.proofs.lemmas.List.{get_or_append_left}
use Rattle.std.proofs.lemmas.Fmt.{decimal_nonempty, digits_decimal}
use Rattle.std.proofs.lemmas.Str.Parse.{tells_all_ascii_digits}
use Rattle.std.specs.Result.{result_ok}
use Rattle.std.specs.Str.{all_ascii_digits}
use Rattle.std.specs.Fmt.{decimal}
use Rattle.ng_num.specs.Range.{IsCount, greatest, in_range}
use Rattle.ng_num.specs.Printing.{number_text, six_digits}
use Rattle.ng_num.specs.declared.fault.Fault.TheVariants.{OutOfRange}
use Rattle.ng_lines.specs.Parts.{HasNone, size_text}
use Rattle.ng_lines.proofs.ByteLemmas.{HasNone-append, digits_have_none}
use Rattle.ng_lines.proofs.DigitLemmas.{own}
use Rattle.ng_lines.proofs.MillionthLemmas.{six_digits_digits}

-- what holds of a count holds of what is made of it
pub made : (P : ℤ → Type 0) (z : ℤ) (r : Option ℤ) → r ≡ result_ok (in_range z) → P z → IfSome r P
made P z r is holds = subst (λ o. IfSome o P) (sym is) (go (nat_le (unsigned_abs z) greatest))
  where
    go : (b : Bool) → IfSome (result_ok (if b then Ok z else Err OutOfRange)) P
    go true = holds
    go false = tt

-- something is made of a count
pub makes : (z : ℤ) (r : Option ℤ) → r ≡ result_ok (in_range z) → IsCount z → r ≡ Some z
makes z r is small = is ∙ ap (λ b. result_ok (if b then Ok z else Err OutOfRange)) (le-leb (unsigned_abs z) greatest small)

pub text_pos : (n : ℕ) → number_text (pos n) ≡ size_text n
unfolding number_text
text_pos n = refl

pub text_negsuc : (n : ℕ) → number_text (negsuc n) ≡ 45 ∷ size_text (suc n)
unfolding number_text
text_negsuc n = refl

-- what is written of a size below 0
pub text_below : (n : ℕ) → (n ≡ 0 → ⊥) → number_text (neg_ℤ (pos n)) ≡ 45 ∷ size_text n
text_below zero some = absurd (some refl)
text_below (suc n) some = text_negsuc n

-- a number begins with a digit
first_digit : (n : ℕ) → n ≤ greatest → get_or (size_text n) 0 0 ≡ 45 → ⊥
first_digit n small is =
    let whole = decimal (n / 1_000_000) in
    let fits : n / 1_000_000 < 2 ^ 64 = omega (arith, small) in
    let some : 0 < length whole = decimal_nonempty (n / 1_000_000) fits in
    let first : get_or (size_text n) 0 0 ≡ get_or whole 0 0 = get_or_append_left whole (46 ∷ six_digits n) 0 0 some in
    go whole (digits_decimal own (n / 1_000_000) fits) some (sym first ∙ is)
  where
    go : (ds : List ℕ) → all_ascii_digits ds ≡ true → 0 < length ds → get_or ds 0 0 ≡ 45 → ⊥
    go [] digits some is = omega (arith, some)
    go (c ∷ cs) digits some is = omega (arith, (tells_all_ascii_digits.parts c cs digits).0.0, is)

-- a number that isn't below 0 has no minus
pub no_minus : (n : ℕ) (more : List ℕ) → n ≤ greatest → size_text n ≡ 45 ∷ more → ⊥
no_minus n more small is = first_digit n small (ap (λ (l : List ℕ). get_or l 0 0) is)

pub decimal_has_none : (e n : ℕ) → e < 48 → n < 2 ^ 64 → HasNone e (decimal n)
decimal_has_none e n small fits = digits_have_none e _ small (digits_decimal own n fits)

size_no_blank : (n : ℕ) → n ≤ greatest → HasNone 32 (size_text n)
size_no_blank n small =
    HasNone-append 32 (decimal (n / 1_000_000)) (46 ∷ six_digits n) (decimal_has_none 32 (n / 1_000_000) (omega arith) (omega (arith, small)))
    ((λ is. omega (arith, is)), digits_have_none 32 (six_digits n) (omega arith) (six_digits_digits n))

-- no blank is in the text of a number
pub number_no_blank : (z : ℤ) → IsCount z → HasNone 32 (number_text z)
number_no_blank (pos n) small = subst (HasNone 32) (sym (text_pos n)) (size_no_blank n small)
number_no_blank (negsuc n) small = subst (HasNone 32) (sym (text_negsuc n)) ((λ is. omega (arith, is)), size_no_blank (suc n) small)

-- numbers that are written so are read so
pub read_signed : (z : ℤ) (text size : List ℕ) (r : Option ℤ) → IsCount z → number_text z ≡ text → text ≡ 45 ∷ size
    → ((n : ℕ) → suc n ≤ greatest → size_text (suc n) ≡ size → r ≡ Some (negsuc n)) → r ≡ Some z
read_signed (pos n) text size r small written minus below = absurd (no_minus n size small (sym (text_pos n) ∙ written ∙ minus))
read_signed (negsuc n) text size r small written minus below = below n small (ap (drop 1) (sym (text_negsuc n) ∙ written ∙ minus))

pub read_unsigned : (z : ℤ) (text : List ℕ) (r : Option ℤ) → IsCount z → number_text z ≡ text → ((size : List ℕ) → text ≡ 45 ∷ size → ⊥)
    → ((n : ℕ) → n ≤ greatest → size_text n ≡ text → r ≡ Some (pos n)) → r ≡ Some z
read_unsigned (pos n) text r small written none from = from n small (sym (text_pos n) ∙ written)
read_unsigned (negsuc n) text r small written none from = absurd (none (size_text (suc n)) (sym written ∙ text_negsuc n))

-- the size is that which was written
pub same_size : (m n : ℕ) → Some m ≡ Some n → m ≡ n
same_size m n is = ap (λ (o : Option ℕ). unwrap_or o m) is

pub same_number : (y z : ℤ) → Some y ≡ Some z → y ≡ z
same_number y z is = ap (λ (o : Option ℤ). unwrap_or o y) is
