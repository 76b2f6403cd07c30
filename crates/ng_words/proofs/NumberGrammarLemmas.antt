-- The number found at the front is the one that the grammar says, in both directions.
use Rattle.std.proofs.Common.{ℕ, zero, suc, unsigned_abs, ◌+◌, ◌*◌, ◌/◌, ◌<◌, ◌≤◌, ◌≡◌, ◌≢◌, ◌⊎◌, inl, inr, List}
use Rattle.std.proofs.Common.{[], ◌∷◌, ◌++◌, length, Bool, true, false, cond, ◌&&◌, ◌==◌, nat_lt, ℤ, pos, neg_ℤ}
use Rattle.std.proofs.Common.{Option, Some, None, min, refl, sym, ap, ◌∙◌, subst, arith, append_assoc, nat_le}
use Rattle.std.specs.Option.{option_map}
use Rattle.std.proofs.lemmas.Bool.Decides.{nat_tests, Decides-eqb}
use Rattle.std.proofs.Common.{rules}
use Rattle.ng_words.specs.Grammar.{is_digit, AreDigits, written_after, millionths, IsUnsigned, IsNumber, count_of}
use Rattle.ng_words.proofs.SeventhDigitLemmas.{fraction_is}
use Rattle.ng_num.specs.Rounding.{signed}
use Rattle.ng_words.specs.Scan.{fraction_from, front_digits, after_digits, whole_after, point_at, is_empty, unsigned_parts, unsigned_at, sign_at, number_at}

-- a number can't go on with these bytes
abbrev pub Stops : List ℕ → Type 0
Stops [] = Unit {0}
Stops (b ∷ bs) = (is_digit b ≡ false) × (b ≢ 46)

-- no digit comes first
abbrev pub NoDigit : List ℕ → Type 0
NoDigit [] = Unit {0}
NoDigit (b ∷ bs) = is_digit b ≡ false

NoDigit-stops : (bs : List ℕ) → Stops bs → NoDigit bs
NoDigit-stops [] s = tt
NoDigit-stops (b ∷ bs) s = s.0

pub option_map_some : {A B : Type 0} (f : A → B) (o : Option A) (y : B) → option_map f o ≡ Some y → (x : A) × (o ≡ Some x) × (f x ≡ y)
option_map_some f None y e = absurd (cc)
option_map_some f (Some x) y e = (x, refl, cc)

-- ---- digits

pub front_digits_again : (ds rest : List ℕ) → AreDigits ds → NoDigit rest → (front_digits (ds ++ rest) ≡ ds) × (after_digits (ds ++ rest) ≡ rest)
front_digits_again [] [] d s = (refl, refl)
front_digits_again [] (b ∷ rest) d s = (rw s refl, rw s refl)
front_digits_again (b ∷ ds) rest d s =
    let t : is_digit b ≡ true = search rules in
    let again = front_digits_again ds rest d.1 s in (rw t (ap (λ l. b ∷ l) again.0), rw t again.1)

digits_split_at : (b : ℕ) (bs : List ℕ) (t : Bool) → is_digit b ≡ t → (bs ≡ front_digits bs ++ after_digits bs) × AreDigits (front_digits bs)
    → ((b ∷ bs) ≡ cond t (b ∷ front_digits bs) [] ++ cond t (after_digits bs) (b ∷ bs)) × AreDigits (cond t (b ∷ front_digits bs) [])
digits_split_at b bs true e h = (ap (λ l. b ∷ l) h.0, (search (rules, e), h.1))
digits_split_at b bs false e h = (refl, tt)

pub digits_split : (bs : List ℕ) → (bs ≡ front_digits bs ++ after_digits bs) × AreDigits (front_digits bs)
digits_split [] = (refl, tt)
digits_split (b ∷ bs) = digits_split_at b bs (is_digit b) refl (digits_split bs)

-- ---- numbers

-- the digits before or after a point, then what stops a number
pub Stops_front : (rest : List ℕ) → Stops rest → point_at rest ≡ None
Stops_front [] s = refl
Stops_front (b ∷ rest) s = grind (arith, nat_tests, s.1)

-- the value of an unsigned number, if its whole part is kept below ten million
abbrev pub capped : List ℕ → List ℕ → ℕ
capped whole fraction = whole_after 0 whole * 1000000 + (fraction_from 1000000 fraction + 5) / 10

unsigned_again_whole : (whole rest : List ℕ) → AreDigits whole → 0 < length whole → Stops rest
    → unsigned_at (whole ++ rest) ≡ Some (whole_after 0 whole * 1000000, rest)
unsigned_again_whole [] rest d some s = absurd (omega arith)
unsigned_again_whole (b ∷ whole) rest d some s =
    let again = front_digits_again (b ∷ whole) rest d (NoDigit-stops rest s) in
    rw (again.0, again.1, Stops_front rest s) refl

not_both_empty : (xs ys : List ℕ) → 0 < length xs + length ys → (is_empty xs && is_empty ys) ≡ false
not_both_empty [] [] h = absurd (omega arith)
not_both_empty [] (y ∷ ys) h = refl
not_both_empty (x ∷ xs) ys h = refl

unsigned_again_point : (whole fraction rest : List ℕ) → AreDigits whole → AreDigits fraction → 0 < length whole + length fraction → Stops rest
    → unsigned_at (whole ++ (46 ∷ (fraction ++ rest))) ≡ Some (capped whole fraction, rest)
unsigned_again_point whole fraction rest d e some s =
    let before = front_digits_again whole (46 ∷ (fraction ++ rest)) d refl in
    let after = front_digits_again fraction rest e (NoDigit-stops rest s) in
    let some_digit : (is_empty whole && is_empty fraction) ≡ false = not_both_empty whole fraction some in
    rw (before.0, before.1, after.0, after.1, some_digit) refl

-- the whole part stops at ten million
pub whole_after_is : (ds : List ℕ) (n m : ℕ) → n ≡ min 10000000 m → whole_after n ds ≡ min 10000000 (written_after m ds)
whole_after_is [] n m e = e
whole_after_is (b ∷ ds) n m e = whole_after_is ds _ _ (omega arith)

unsigned_abs-signed : (negative : Bool) (n : ℕ) → unsigned_abs (signed negative n) ≡ n
unsigned_abs-signed false n = refl
unsigned_abs-signed true zero = refl
unsigned_abs-signed true (suc n) = refl

count_of-past : (negative : Bool) (n : ℕ) → 9999999999999 < n → count_of (signed negative n) ≡ None
count_of-past negative n h =
    let past : nat_le (unsigned_abs (signed negative n)) 9999999999999 ≡ false = rw unsigned_abs-signed (grind (arith, nat_tests)) in
    rw past refl

count_of_capped_at : (negative : Bool) (whole f : ℕ) (t : Bool) → nat_lt 10000000 whole ≡ t
    → count_of (signed negative (min 10000000 whole * 1000000 + f)) ≡ count_of (signed negative (whole * 1000000 + f))
count_of_capped_at negative whole f true e =
    let above : 10000000 < whole = grind (arith, nat_tests) in
    count_of-past negative _ (omega arith) ∙ sym (count_of-past negative _ (omega arith))
count_of_capped_at negative whole f false e =
    let below : whole ≤ 10000000 = grind (arith, nat_tests) in
    let same : min 10000000 whole ≡ whole = omega arith in
    ap (λ w. count_of (signed negative (w * 1000000 + f))) same

-- past ten million every count is out of range
pub count_of_capped : (negative : Bool) (whole f : ℕ)
    → count_of (signed negative (min 10000000 whole * 1000000 + f)) ≡ count_of
    (signed negative (whole * 1000000 + f))
count_of_capped negative whole f = count_of_capped_at negative whole f (nat_lt 10000000 whole) refl

count_of-capped : (negative : Bool) (whole fraction : List ℕ) → AreDigits fraction
    → count_of (signed negative (capped whole fraction)) ≡ count_of (signed negative (millionths whole fraction))
count_of-capped negative whole fraction d =
    ap (λ f. count_of (signed negative (whole_after 0 whole * 1000000 + f))) (fraction_is fraction d)
    ∙ rw (whole_after_is whole 0 0 (omega arith)) (count_of_capped negative (written_after 0 whole) _)

-- ---- unsigned numbers, in both directions

unsigned_again : (digits rest : List ℕ) (n : ℕ) → IsUnsigned digits n → Stops rest
    → (m : ℕ) × (unsigned_at (digits ++ rest) ≡ Some (m, rest)) × ((negative : Bool) → count_of (signed negative m) ≡ count_of (signed negative n))
unsigned_again digits rest n u s = elim u.spelled [
  | inl e ↦
      let none : length u.fraction ≡ 0 = ap length e.1 in
      let zero_more : whole_after 0 u.whole * 1000000 + 0 ≡ whole_after 0 u.whole * 1000000 = omega arith in (
        whole_after 0 u.whole * 1000000,
        ap (λ l. unsigned_at (l ++ rest)) e.0 ∙ unsigned_again_whole u.whole rest u.whole_digits (omega arith) s,
        λ negative. ap (λ m. count_of (signed negative m)) (sym zero_more) ∙ count_of-capped negative u.whole [] tt
            ∙ ap (λ f. count_of (signed negative (millionths u.whole f))) (sym e.1) ∙ ap (λ m. count_of (signed negative m)) (sym u.count),
      )
  | inr e ↦ (
    capped u.whole u.fraction,
    ap unsigned_at (ap (λ l. l ++ rest) e ∙ append_assoc u.whole (46 ∷ u.fraction) rest)
        ∙ unsigned_again_point u.whole u.fraction rest u.whole_digits u.fraction_digits u.some s,
    λ negative. count_of-capped negative u.whole u.fraction u.fraction_digits ∙ ap (λ m. count_of (signed negative m)) (sym u.count),
  )
]

-- a byte that isn't a sign comes first
record BeginsUnsigned (digits : List ℕ) : Type 0 where
  first : ℕ
  others : List ℕ
  is : digits ≡ first ∷ others
  no_plus : first ≢ 43
  no_minus : first ≢ 45

begins_unsigned : (whole fraction digits : List ℕ) → AreDigits whole → 0 < length whole + length fraction
    → ((digits ≡ whole) × (fraction ≡ [])) ⊎ (digits ≡ whole ++ (46 ∷ fraction)) → BeginsUnsigned digits
begins_unsigned [] fraction digits d some (inl e) =
    let none : length fraction ≡ 0 = ap length e.1 in absurd (omega arith)
begins_unsigned [] fraction digits d some (inr e) = record { first = 46; others = fraction; is = e; no_plus = omega arith; no_minus = omega arith }
begins_unsigned (b ∷ whole) fraction digits d some (inl e) =
    record { first = b; others = whole; is = e.0; no_plus = grind (arith, nat_tests, d.0); no_minus = grind (arith, nat_tests, d.0) }
begins_unsigned (b ∷ whole) fraction digits d some (inr e) =
    record { first = b; others = whole ++ (46 ∷ fraction); is = e; no_plus = grind (arith, nat_tests, d.0); no_minus = grind (arith, nat_tests, d.0) }

sign_at_none : (b : ℕ) (bs : List ℕ) → b ≢ 43 → b ≢ 45 → sign_at (b ∷ bs) ≡ (false, b ∷ bs)
sign_at_none b bs p m = grind (arith, nat_tests)

sign_at_unsigned : (digits rest : List ℕ) (n : ℕ) → IsUnsigned digits n → sign_at (digits ++ rest) ≡ (false, digits ++ rest)
sign_at_unsigned digits rest n u =
    let h = begins_unsigned u.whole u.fraction digits u.whole_digits u.some u.spelled in
    ap (λ l. sign_at (l ++ rest)) h.is ∙ sign_at_none h.first (h.others ++ rest) h.no_plus h.no_minus ∙ ap (λ l. (false, l ++ rest)) (sym h.is)

number_at_from : (bytes digits rest : List ℕ) (negative : Bool) (m : ℕ) → sign_at bytes ≡ (negative, digits) → unsigned_at digits ≡ Some (m, rest)
    → number_at bytes ≡ Some (count_of (signed negative m), rest)
number_at_from bytes digits rest negative m e f =
    ap (λ s. option_map (λ x. (count_of (signed s.0 x.0), x.1)) (unsigned_at s.1)) e
    ∙ ap (option_map (λ x. (count_of (signed negative x.0), x.1))) f

pub number_again : (bytes rest : List ℕ) (z : ℤ) → IsNumber bytes z → Stops rest → number_at (bytes ++ rest) ≡ Some (count_of z, rest)
number_again bytes rest z h s =
    let digits = h.1 in
    let again = unsigned_again digits rest h.0 h.2 s in
    let same = λ (negative : Bool) (e : z ≡ signed negative h.0). ap {B = Option (Option ℤ × List ℕ)}
    (λ c. Some (c, rest)) (again.2 negative ∙ ap count_of (sym e)) in
    elim h.3 [
      | inl e ↦ number_at_from (bytes ++ rest) (digits ++ rest) rest false again.0
          (ap (λ l. sign_at (l ++ rest)) e.0 ∙ sign_at_unsigned digits rest h.0 h.2) again.1 ∙ same false e.1
      | inr other ↦ elim other [
        | inl e ↦ number_at_from (bytes ++ rest) (digits ++ rest) rest false again.0 (ap (λ l. sign_at (l ++ rest)) e.0) again.1 ∙ same false e.1
        | inr e ↦ number_at_from (bytes ++ rest) (digits ++ rest) rest true again.0 (ap (λ l. sign_at (l ++ rest)) e.0) again.1 ∙ same true e.1
      ]
    ]

-- ---- what is found is spelled so

point_at_some_at : (b : ℕ) (bs after : List ℕ) (t : Bool) → (b == 46) ≡ t → cond t (Some bs) None ≡ Some after → b ∷ bs ≡ 46 ∷ after
point_at_some_at b bs after true e f = let same : b ≡ 46 = (Decides-eqb b 46).0 e in cc
point_at_some_at b bs after false e f = absurd (cc)

point_at_some : (bs after : List ℕ) → point_at bs ≡ Some after → bs ≡ 46 ∷ after
point_at_some [] after e = absurd (cc)
point_at_some (b ∷ bs) after e = point_at_some_at b bs after (b == 46) refl e

if_some : {A : Type 0} (t : Bool) (y x : A) → cond t None (Some y) ≡ Some x → (t ≡ false) × (y ≡ x)
if_some true y x e = absurd (cc)
if_some false y x e = (refl, cc)

not_empty : (xs : List ℕ) → is_empty xs ≡ false → 0 < length xs
not_empty [] e = absurd (cc)
not_empty (x ∷ xs) e = omega arith

some_not_empty : (xs ys : List ℕ) → (is_empty xs && is_empty ys) ≡ false → 0 < length xs + length ys
some_not_empty [] [] e = absurd (cc)
some_not_empty [] (y ∷ ys) e = omega arith
some_not_empty (x ∷ xs) ys e = omega arith

abbrev FoundUnsigned : List ℕ → ℕ × List ℕ → Type 0
FoundUnsigned bytes x = (digits : List ℕ) × (n : ℕ) × IsUnsigned digits n × (bytes ≡ digits ++ x.1)
    × ((negative : Bool) → count_of (signed negative x.0) ≡ count_of (signed negative n))

unsigned_sound_at : (bytes : List ℕ) (x : ℕ × List ℕ) (o : Option (List ℕ)) → point_at (after_digits bytes) ≡ o
    → unsigned_parts (front_digits bytes) (after_digits bytes) o ≡ Some x → FoundUnsigned bytes x
unsigned_sound_at bytes x None o_is e =
    let whole = front_digits bytes in
    let found = if_some (is_empty whole) (whole_after 0 whole * 1000000, after_digits bytes) x e in
    let zero_more : whole_after 0 whole * 1000000 + 0 ≡ whole_after 0 whole * 1000000 = omega arith in
    let some : 0 < length whole = not_empty whole found.0 in
    subst (FoundUnsigned bytes) found.1 (
      whole,
      millionths whole [],
      record {
        whole = whole;
        fraction = [];
        whole_digits = (digits_split bytes).1;
        fraction_digits = tt;
        some =
            omega arith;
        spelled = inl (refl, refl);
        count = refl;
      },
      (digits_split bytes).0,
      λ negative. ap (λ m. count_of (signed negative m)) (sym zero_more) ∙ count_of-capped negative whole [] tt,
    )
unsigned_sound_at bytes x (Some after) o_is e =
    let whole = front_digits bytes in
    let fraction = front_digits after in
    let found = if_some (is_empty whole && is_empty fraction) (capped whole fraction, after_digits after) x e in
    let joined : bytes ≡ (whole ++ (46 ∷ fraction)) ++ after_digits after =
    (digits_split bytes).0 ∙ ap (λ l. whole ++ l) (point_at_some (after_digits bytes) after o_is ∙ ap (λ l. 46 ∷ l) (digits_split after).0)
    ∙ sym (append_assoc whole (46 ∷ fraction) (after_digits after)) in
    subst (FoundUnsigned bytes) found.1 (
      whole ++ (46 ∷ fraction),
      millionths whole fraction,
      record {
        whole = whole;
        fraction = fraction;
        whole_digits = (digits_split bytes).1;
        fraction_digits =
            (digits_split after).1;
        some = some_not_empty whole fraction found.0;
        spelled = inr refl;
        count = refl;
      },
      joined,
      λ negative. count_of-capped negative whole fraction (digits_split after).1,
    )

unsigned_sound : (bytes : List ℕ) (x : ℕ × List ℕ) → unsigned_at bytes ≡ Some x → FoundUnsigned bytes x
unsigned_sound bytes x e = unsigned_sound_at bytes x (point_at (after_digits bytes)) refl e

-- a sign, or none
abbrev IsSign : List ℕ → Bool × List ℕ → Type 0
IsSign bytes s = ((bytes ≡ s.1) × (s.0 ≡ false)) ⊎ (((bytes ≡ 43 ∷ s.1) × (s.0 ≡ false)) ⊎ ((bytes ≡ 45 ∷ s.1) × (s.0 ≡ true)))

sign_is_at : (b : ℕ) (bs : List ℕ) (p q : Bool) → (b == 43) ≡ p → (b == 45) ≡ q → IsSign (b ∷ bs) (cond p (false, bs) (cond q (true, bs) (false, b ∷ bs)))
sign_is_at b bs true q e f = inr (inl (ap (λ c. c ∷ bs) ((Decides-eqb b 43).0 e), refl))
sign_is_at b bs false true e f = inr (inr (ap (λ c. c ∷ bs) ((Decides-eqb b 45).0 f), refl))
sign_is_at b bs false false e f = inl (refl, refl)

sign_is : (bytes : List ℕ) → IsSign bytes (sign_at bytes)
sign_is [] = inl (refl, refl)
sign_is (b ∷ bs) = sign_is_at b bs (b == 43) (b == 45) refl refl

pub number_sound : (bytes : List ℕ) (x : Option ℤ × List ℕ) → number_at bytes ≡ Some x
    → (front : List ℕ) × (z : ℤ) × IsNumber front z × (bytes ≡ front ++ x.1) × (x.0 ≡ count_of z)
number_sound bytes x e =
    let found = option_map_some (λ y. (count_of (signed (sign_at bytes).0 y.0), y.1)) (unsigned_at (sign_at bytes).1) x e in
    let u = unsigned_sound (sign_at bytes).1 found.0 found.1 in
    let rest : found.0.1 ≡ x.1 = ap (λ p. p.1) found.2 in
    let digits : (sign_at bytes).1 ≡ u.0 ++ x.1 = u.3 ∙ ap (λ l. u.0 ++ l) rest in
    let value = λ (negative : Bool) (is : (sign_at bytes).0 ≡ negative).
    sym (ap (λ p. p.0) found.2) ∙ ap (λ s. count_of (signed s found.0.0)) is ∙ u.4 negative in
    elim (sign_is bytes) [
      | inl s ↦ (u.0, pos u.1, (u.1, u.0, u.2, inl (refl, refl)), s.0 ∙ digits, value false s.1)
      | inr other ↦ elim other [
        | inl s ↦ (43 ∷ u.0, pos u.1, (u.1, u.0, u.2, inr (inl (refl, refl))), s.0 ∙ ap (λ l. 43 ∷ l) digits, value false s.1)
        | inr s ↦ (45 ∷ u.0, neg_ℤ (pos u.1), (u.1, u.0, u.2, inr (inr (refl, refl))), s.0 ∙ ap (λ l. 45 ∷ l) digits, value true s.1)
      ]
    ]

-- a number has at least one byte
pub length-number : (bytes : List ℕ) (z : ℤ) → IsNumber bytes z → 1 ≤ length bytes
length-number bytes z h =
    let u = h.2 in
    let begins = begins_unsigned u.whole u.fraction h.1 u.whole_digits u.some u.spelled in
    let some : 1 ≤ length h.1 = subst (λ (l : List ℕ). 1 ≤ length l) (sym begins.is) (omega arith) in
    elim h.3 [
      | inl e ↦ subst (λ (l : List ℕ). 1 ≤ length l) (sym e.0) some
      | inr other ↦ elim other [
        | inl e ↦ subst (λ (l : List ℕ). 1 ≤ length l) (sym e.0) (omega arith)
        | inr e ↦ subst (λ (l : List ℕ). 1 ≤ length l) (sym e.0) (omega arith)
      ]
    ]
