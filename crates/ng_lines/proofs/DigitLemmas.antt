-- What digits stand for.
use Rattle.std.proofs.Common.{◌≡◌, ◌∙◌, ◌<◌, ◌≤◌, ◌+◌, ◌-◌, ◌*◌, ◌^◌, ◌&&◌, ℕ, suc, true, List, [], ◌∷◌, length}
use Rattle.std.proofs.Common.{drop, get_or, ap, arith, subst, sym, zero, add-one, rules, Option, None, Some, IfSome}
use Rattle.std.proofs.lemmas.List.{drop_all}
use Rattle.std.specs.Option.{SomeIff}
use Rattle.std.proofs.Math.Seq.{drop-cons}
use Rattle.std.specs.Str.{all_ascii_digits}
use Rattle.std.specs.Char.{is_ascii_digit}
use Rattle.std.specs.Fmt.{decimal}
use Rattle.std.proofs.lemmas.Str.Parse.{IsNumeralModel, numerals_by_fold}
use Rattle.std.proofs.lemmas.Fmt.{digits_decimal, digits_value-decimal, decimal-digits_value, first_decimal, decimal_nonempty, decimal_digit}
use Rattle.ng_lines.specs.Whole.{read_on}

-- digits that follow make no number less
pub read_on_grows : (n : ℕ) (cs : List ℕ) → n ≤ read_on n cs
read_on_grows n [] = omega arith
read_on_grows n (c ∷ cs) = omega (arith, read_on_grows (n * 10 + (c - 48)) cs)

-- the next digit
pub read_on_next : (n i : ℕ) (ds : List ℕ) → i < length ds → read_on n (drop i ds) ≡ read_on (n * 10 + (get_or ds i 0 - 48)) (drop (i + 1) ds)
read_on_next n i ds lt = ap (read_on n) (drop-cons ds i 0 lt) ∙ ap (λ k. read_on (n * 10 + (get_or ds i 0 - 48)) (drop k ds)) (sym (add-one i))

pub digits_next : (i : ℕ) (ds : List ℕ) → i < length ds → all_ascii_digits (drop i ds) ≡ (is_ascii_digit (get_or ds i 0) && all_ascii_digits (drop (i + 1) ds))
digits_next i ds lt = ap all_ascii_digits (drop-cons ds i 0 lt) ∙ ap (λ k. is_ascii_digit (get_or ds i 0) && all_ascii_digits (drop k ds)) (sym (add-one i))

pub own : IsNumeralModel (λ ds. all_ascii_digits ds ≡ true) (read_on 0)
own = numerals_by_fold _ (search rules) read_on (search rules)

-- a number with one more digit is beyond 64 bits
pub beyond : (n i : ℕ) (ds : List ℕ) → i < length ds → read_on n (drop i ds) ≡ read_on 0 ds → 2 ^ 64 ≤ n * 10 + (get_or ds i 0 - 48) → 2 ^ 64 ≤ read_on 0 ds
beyond n i ds lt so_far more =
    omega (arith, so_far, read_on_next n i ds lt, read_on_grows (n * 10 + (get_or ds i 0 - 48)) (drop (i + 1) ds), more)

-- all digits are read
pub finished : (n i : ℕ) (ds : List ℕ) → length ds ≤ i → n < 2 ^ 64 → read_on n (drop i ds) ≡ read_on 0 ds → all_ascii_digits (drop i ds) ≡ all_ascii_digits ds
    → ((all_ascii_digits ds ≡ true) × (read_on 0 ds < 2 ^ 64)) × (n ≡ read_on 0 ds)
finished n i ds past fits so_far digits =
    let nothing : drop i ds ≡ [] = drop_all i ds past in
    let is : n ≡ read_on 0 ds = sym (ap (read_on n) nothing) ∙ so_far in
    ((sym digits ∙ ap all_ascii_digits nothing, omega (arith, is, fits)), is)

-- a number that is written has a leading zero only if it is one
pub no_leading_zero : (n : ℕ) (ds : List ℕ) → n < 2 ^ 64 → decimal n ≡ ds → get_or ds 0 0 ≡ 48 → length ds ≡ 1
no_leading_zero zero ds fits is zeros = sym (ap length is) ∙ ap length (decimal_digit 0 (omega arith))
no_leading_zero (suc n) ds fits is zeros =
    let first = first_decimal (suc n) (omega arith) fits in
    let same : get_or (decimal (suc n)) 0 0 ≡ get_or ds 0 0 = ap (λ (l : List ℕ). get_or l 0 0) is in
    absurd (omega (arith, first, same, zeros))

-- digits without a leading zero are those of their value
pub is_written : (ds : List ℕ) (r : Option ℕ) → SomeIff r ((all_ascii_digits ds ≡ true) × (read_on 0 ds < 2 ^ 64)) (read_on 0 ds) → 0 < length ds
    → (get_or ds 0 0 ≡ 48 → length ds ≡ 1) → IfSome r (λ n. decimal n ≡ ds)
is_written ds None is some no_zero = tt
is_written ds (Some n) is some no_zero = ap decimal is.1 ∙ decimal-digits_value own ds is.0.0 some no_zero is.0.1

-- what is written of a number is read
pub is_read : (ds : List ℕ) (r : Option ℕ) → SomeIff r ((all_ascii_digits ds ≡ true) × (read_on 0 ds < 2 ^ 64)) (read_on 0 ds)
    → (n : ℕ) → n < 2 ^ 64 → decimal n ≡ ds → r ≡ Some n
is_read ds r is n fits written = go r is
  where
    digits : all_ascii_digits ds ≡ true
    digits = subst (λ (l : List ℕ). all_ascii_digits l ≡ true) written (digits_decimal own n fits)

    value : read_on 0 ds ≡ n
    value = subst (λ (l : List ℕ). read_on 0 l ≡ n) written (digits_value-decimal own n fits)

    go : (r : Option ℕ) → SomeIff r ((all_ascii_digits ds ≡ true) × (read_on 0 ds < 2 ^ 64)) (read_on 0 ds) → r ≡ Some n
    go None not_so = absurd (not_so (digits, omega (arith, value, fits)))
    go (Some m) (fine, same) = ap Some (same ∙ value)

-- what doesn't begin as a number does isn't one
pub begins_badly : (n : ℕ) (ds : List ℕ) → n < 2 ^ 64 → decimal n ≡ ds → (0 < length ds → (get_or ds 0 0 ≡ 48) × (1 < length ds)) → ⊥
begins_badly n ds fits is bad =
    let some : 0 < length ds = omega (arith, decimal_nonempty n fits, ap length is) in
    let two = bad some in
    omega (arith, no_leading_zero n ds fits is two.0, two.1)
