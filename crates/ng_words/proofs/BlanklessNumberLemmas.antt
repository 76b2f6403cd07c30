-- A text without blanks is a number exactly if its bytes that count are one: they are all of its bytes, unchanged.
use Rattle.std.proofs.Common.{◌≡◌, ◌≤◌, ℕ, ℤ, unsigned_abs, Bool, true, false, if◌then◌else◌, ◌==◌, nat_le, ◌||◌}
use Rattle.std.proofs.Common.{List, [], ◌∷◌, ◌++◌, Option, Some, None, Result, Ok, Err, IfOk, refl, sym, ◌∙◌, ap}
use Rattle.std.proofs.Common.{subst, inl, inr, arith, append-nil}
use Rattle.std.proofs.lemmas.Bool.Decides.{nat_tests}
use Rattle.std.specs.List.{list_any}
use Rattle.std.specs.Option.{ok_or}
use Rattle.ng_num.specs.Range.{greatest, in_range}
use Rattle.ng_num.specs.declared.fault.Fault.{Fault}
use Rattle.ng_num.specs.declared.fault.Fault.TheVariants.{OutOfRange, Unreadable}
use Rattle.ng_words.specs.Plain.{plain, is_blank, capital}
use Rattle.ng_words.specs.Grammar.{AreDigits, IsUnsigned, IsNumber, count_of}
use Rattle.ng_words.specs.Scan.{number_at}
use Rattle.ng_words.proofs.NumberGrammarLemmas.{number_again, number_sound}

-- ---- the bytes of numbers: digits, signs and points

abbrev pub AreBytes : List ℕ → Type 0
AreBytes [] = Unit {0}
AreBytes (b ∷ bytes) = (43 ≤ b) × (b ≤ 57) × AreBytes bytes

pub digits_bytes : (digits : List ℕ) → AreDigits digits → AreBytes digits
digits_bytes [] are = tt
digits_bytes (b ∷ digits) are = (grind (arith, nat_tests, are.0), grind (arith, nat_tests, are.0), digits_bytes digits are.1)

bytes_both : (front back : List ℕ) → AreBytes front → AreBytes back → AreBytes (front ++ back)
bytes_both [] back are also = also
bytes_both (b ∷ front) back are also = (are.0, are.1, bytes_both front back are.2 also)

unsigned_bytes : (bytes : List ℕ) (n : ℕ) → IsUnsigned bytes n → AreBytes bytes
unsigned_bytes bytes n u = elim u.spelled [
  | inl e ↦ subst AreBytes (sym e.0) (digits_bytes u.whole u.whole_digits)
  | inr e ↦ subst AreBytes (sym e) (bytes_both u.whole (46 ∷ u.fraction) (digits_bytes u.whole u.whole_digits)
      (omega arith, omega arith, digits_bytes u.fraction u.fraction_digits))
]

pub number_bytes : (bytes : List ℕ) (z : ℤ) → IsNumber bytes z → AreBytes bytes
number_bytes bytes z is =
    let bytes : AreBytes is.1 = unsigned_bytes is.1 is.0 is.2 in
    elim is.3 [
      | inl e ↦ subst AreBytes (sym e.0) bytes
      | inr other ↦ elim other [
        | inl e ↦ subst AreBytes (sym e.0) (omega arith, omega arith, bytes)
        | inr e ↦ subst AreBytes (sym e.0) (omega arith, omega arith, bytes)
      ]
    ]

-- none of them is a blank
bytes_blank : (bytes : List ℕ) → AreBytes bytes → list_any is_blank bytes ≡ false
bytes_blank [] are = refl
bytes_blank (b ∷ bytes) are =
    let counts : is_blank b ≡ false = grind (arith, nat_tests, are.0) in
    rw counts (bytes_blank bytes are.2)

-- they count unchanged
plain_bytes : (bytes : List ℕ) → AreBytes bytes → plain false bytes ≡ bytes
plain_bytes [] are = refl
plain_bytes (b ∷ bytes) are =
    let counts : is_blank b ≡ false = grind (arith, nat_tests, are.0) in
    let same : capital b ≡ b = grind (arith, nat_tests, are.0, are.1) in
    let goes : (b == 40) ≡ false = grind (arith, nat_tests, are.0) in
    rw (counts, same, goes) (ap (λ l. b ∷ l) (plain_bytes bytes are.2))

-- if no blank is dropped, only such bytes count as such bytes
bytes_again : (text : List ℕ) → list_any is_blank text ≡ false → AreBytes (plain false text) → plain false text ≡ text
bytes_again [] none are = refl
bytes_again (b ∷ text) none are =
    let counts : is_blank b ≡ false = first (is_blank b) none in
    let others : list_any is_blank text ≡ false = later (is_blank b) none in
    let found : AreBytes (capital b ∷ plain (b == 40) text) =
    subst (λ (t : Bool). AreBytes (if t then plain false text else (capital b ∷ plain (b == 40) text))) counts
    are in
    let same : capital b ≡ b = grind (arith, nat_tests, found.0, found.1) in
    let goes : (b == 40) ≡ false = grind (arith, nat_tests, found.0, same) in
    let rest : AreBytes (plain false text) = subst (λ (t : Bool). AreBytes (plain t text)) goes found.2 in
    rw (counts, same, goes) (ap (λ l. b ∷ l) (bytes_again text others rest))
  where
    first : (t : Bool) → (t || list_any is_blank text) ≡ false → t ≡ false
    first true none = none
    first false none = refl

    later : (t : Bool) → (t || list_any is_blank text) ≡ false → list_any is_blank text ≡ false
    later true none = absurd cc
    later false none = none

-- ---- a text that is a number

pub number_blank : (text : List ℕ) (z : ℤ) → IsNumber text z → list_any is_blank text ≡ false
number_blank text z is = bytes_blank text (number_bytes text z is)

pub number_whole : (text : List ℕ) (z : ℤ) → IsNumber text z → number_at (plain false text) ≡ Some (count_of z, [])
number_whole text z is =
    ap number_at (plain_bytes text (number_bytes text z is) ∙ sym (append-nil text)) ∙ number_again text [] z is tt

-- if a number is found at the front of a text without blanks, and nothing is left after it, it is the text's number
pub number_found : (text : List ℕ) (v : Option ℤ) → list_any is_blank text ≡ false → number_at (plain false text) ≡ Some (v, [])
    → (z : ℤ) × IsNumber text z × (v ≡ count_of z)
number_found text v none e =
    let found = number_sound (plain false text) (v, []) e in
    let whole : plain false text ≡ found.0 = found.3 ∙ append-nil found.0 in
    let is : IsNumber (plain false text) found.1 = subst (λ (l : List ℕ). IsNumber l found.1) (sym whole) found.2 in
    let same : plain false text ≡ text = bytes_again text none (number_bytes (plain false text) found.1 is) in
    (found.1, subst (λ (l : List ℕ). IsNumber l found.1) same is, found.4)

-- ---- the answer

range_of : (z : ℤ) → ok_or (count_of z) OutOfRange ≡ in_range z
range_of z = at (nat_le (unsigned_abs z) greatest)
  where
    at : (t : Bool) → ok_or (if t then Some z else None) OutOfRange ≡ (if t then Ok z else Err OutOfRange)
    at true = refl
    at false = refl

both_same : (v w : Option ℤ) (xs ys : List ℕ) → ◌≡◌ {A = Option (Option ℤ × List ℕ)} (Some (v, xs)) (Some (w, ys)) → (v ≡ w) × (xs ≡ ys)
both_same v w xs ys e =
    let same : ◌≡◌ {A = Option ℤ × List ℕ} (v, xs) (w, ys) = cc in
    (ap (λ p. p.0) same, ap (λ p. p.1) same)

-- a text is only one number
number_one : (text : List ℕ) (y z : ℤ) → IsNumber text y → IsNumber text z → count_of y ≡ count_of z
number_one text y z is also = (both_same _ _ _ _ (sym (number_whole text y is) ∙ number_whole text z also)).0

pub answer_value : (text : List ℕ) (v : Option ℤ) (r : Result ℤ Fault) → list_any is_blank text ≡ false
    → number_at (plain false text) ≡ Some (v, []) → r ≡ ok_or v OutOfRange
    → (z : ℤ) → IsNumber text z → r ≡ in_range z
answer_value text v r none e is z writes =
    let found = number_found text v none e in
    is ∙ ap (λ (c : Option ℤ). ok_or c OutOfRange) (found.2 ∙ number_one text found.0 z found.1 writes) ∙ range_of z

in_range_ok : (z n : ℤ) → in_range z ≡ Ok n → z ≡ n
in_range_ok z n e = at (nat_le (unsigned_abs z) greatest) e
  where
    at : (t : Bool) → (if t then Ok z else Err OutOfRange) ≡ Ok n → z ≡ n
    at true e = cc
    at false e = absurd cc

pub answer_reads : (text : List ℕ) (v : Option ℤ) (r : Result ℤ Fault) → list_any is_blank text ≡ false
    → number_at (plain false text) ≡ Some (v, []) → r ≡ ok_or v OutOfRange
    → IfOk r (IsNumber text)
answer_reads text v (Err e) none at is = tt
answer_reads text v (Ok n) none at is =
    let found = number_found text v none at in
    let same : found.0 ≡ n = in_range_ok found.0 n (sym (answer_value text v (Ok n) none at is found.0 found.1)) in
    subst (IsNumber text) same found.1

pub answer_unreadable : (text : List ℕ) (v : Option ℤ) (r : Result ℤ Fault) → list_any is_blank text ≡ false
    → number_at (plain false text) ≡ Some (v, []) → r ≡ ok_or v OutOfRange
    → (r ≡ Err Unreadable → (z : ℤ) → IsNumber text z → ⊥) × (((z : ℤ) → IsNumber text z → ⊥) → r ≡ Err Unreadable)
answer_unreadable text v r none e is = (
  λ refused z writes. out v (sym is ∙ refused),
  λ no. let found = number_found text v none e in absurd (no found.0 found.1),
)
  where
    out : (v : Option ℤ) → ok_or v OutOfRange ≡ Err Unreadable → ⊥
    out None e = absurd cc
    out (Some n) e = absurd cc

-- there is no value for a text whose bytes that count aren't a number, or go on after it
pub no_number : (text : List ℕ) (z : ℤ) → IsNumber text z → number_at (plain false text) ≡ None → ⊥
no_number text z is e = out (count_of z, []) (sym e ∙ number_whole text z is)
  where
    out : (x : Option ℤ × List ℕ) → None ≡ Some x → ⊥
    out x e = absurd cc

pub goes_on : (text : List ℕ) (v : Option ℤ) (rest : List ℕ) (z : ℤ) → IsNumber text z → number_at (plain false text) ≡ Some (v, rest) → rest ≡ []
goes_on text v rest z is e = (both_same _ _ _ _ (sym e ∙ number_whole text z is)).1
