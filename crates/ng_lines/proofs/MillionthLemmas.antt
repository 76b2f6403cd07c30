-- Six decimals, and the counts of millionths that end in them.
use Rattle.std.proofs.Common.{◌≡◌, ◌∙◌, ◌<◌, ◌≤◌, ◌+◌, ◌-◌, ◌*◌, ◌/◌, ◌%◌, ◌^◌, ℕ, List, [], ◌∷◌, ◌++◌, length}
use Rattle.std.proofs.Common.{take, drop, ap, ap₂, arith, subst, sym, true, Option, None, Some, IfSome, unwrap_or}
use Rattle.std.proofs.Common.{length-append}
use Rattle.std.proofs.Math.Seq.{drop-append_seam, take-append_seam}
use Rattle.std.proofs.lemmas.List.{take-append-drop}
use Rattle.std.specs.Option.{SomeIff}
use Rattle.std.specs.Str.{all_ascii_digits}
use Rattle.std.specs.Int.{IsInRange}
use Rattle.std.specs.Fmt.{decimal}
use Rattle.std.proofs.lemmas.Str.Parse.{tells_all_ascii_digits, digits_value_short}
use Rattle.ng_num.specs.Printing.{six_digits}
use Rattle.ng_lines.specs.Whole.{read_on}
use Rattle.ng_lines.specs.Parts.{size_text}
use Rattle.ng_lines.proofs.DigitLemmas.{own}

abbrev Reads : List ℕ → Option ℕ → Type 0
Reads ds r = SomeIff r ((all_ascii_digits ds ≡ true) × (read_on 0 ds < 2 ^ 64)) (read_on 0 ds)

same_six : {a b c d e f u v w x y z : ℕ} → a ≡ u → b ≡ v → c ≡ w → d ≡ x → e ≡ y → f ≡ z
    → a ∷ b ∷ c ∷ d ∷ e ∷ f ∷ [] ≡ u ∷ v ∷ w ∷ x ∷ y ∷ z ∷ []
same_six p q r s t u = cc

-- the six digits of the number that six digits make
six_of : (a b c d e f n : ℕ) → a < 10 → b < 10 → c < 10 → d < 10 → e < 10 → f < 10 → n ≡ ((((a * 10 + b) * 10 + c) * 10 + d) * 10 + e) * 10 + f
    → six_digits n ≡ (48 + a) ∷ (48 + b) ∷ (48 + c) ∷ (48 + d) ∷ (48 + e) ∷ (48 + f) ∷ []
six_of a b c d e f n la lb lc ld le lf is =
    same_six (omega arith) (omega arith) (omega arith) (omega arith) (omega arith) (omega arith)

six_are : (ds : List ℕ) (n : ℕ) → length ds ≡ 6 → all_ascii_digits ds ≡ true → n ≡ read_on 0 ds → six_digits n ≡ ds
six_are [] n len digits is = absurd (omega (arith, len))
six_are (a ∷ []) n len digits is = absurd (omega (arith, len))
six_are (a ∷ b ∷ []) n len digits is = absurd (omega (arith, len))
six_are (a ∷ b ∷ c ∷ []) n len digits is = absurd (omega (arith, len))
six_are (a ∷ b ∷ c ∷ d ∷ []) n len digits is = absurd (omega (arith, len))
six_are (a ∷ b ∷ c ∷ d ∷ e ∷ []) n len digits is = absurd (omega (arith, len))
six_are (a ∷ b ∷ c ∷ d ∷ e ∷ f ∷ g ∷ more) n len digits is = absurd (omega (arith, len))
six_are (a ∷ b ∷ c ∷ d ∷ e ∷ f ∷ []) n len digits is =
    let pa = tells_all_ascii_digits.parts a (b ∷ c ∷ d ∷ e ∷ f ∷ []) digits in
    let pb = tells_all_ascii_digits.parts b (c ∷ d ∷ e ∷ f ∷ []) pa.1 in
    let pc = tells_all_ascii_digits.parts c (d ∷ e ∷ f ∷ []) pb.1 in
    let pd = tells_all_ascii_digits.parts d (e ∷ f ∷ []) pc.1 in
    let pe = tells_all_ascii_digits.parts e (f ∷ []) pd.1 in
    let pf = tells_all_ascii_digits.parts f ([]) pe.1 in
    six_of (a - 48) (b - 48) (c - 48) (d - 48) (e - 48) (f - 48) n (omega (arith, pa.0)) (omega (arith, pb.0))
    (omega (arith, pc.0)) (omega (arith, pd.0)) (omega (arith, pe.0)) (omega (arith, pf.0)) (omega (arith, is))
    ∙ same_six (omega (arith, pa.0)) (omega (arith, pb.0)) (omega (arith, pc.0)) (omega (arith, pd.0)) (omega (arith, pe.0)) (omega (arith, pf.0))

pub six_found : (ds : List ℕ) (r : Option ℕ) → length ds ≡ 6 → Reads ds r → IfSome r (λ n. (n < 1_000_000) × (six_digits n ≡ ds))
six_found ds None len is = tt
six_found ds (Some n) len (fine, same) = (omega (arith, same, digits_value_short own ds 6 fine.0 (omega (arith, len))), six_are ds n len fine.0 same)

-- the digits of a number are digits
digit_range : (m : ℕ) → IsInRange 48 57 (48 + m % 10)
digit_range m = (omega arith, omega arith)

pub six_digits_digits : (n : ℕ) → all_ascii_digits (six_digits n) ≡ true
six_digits_digits n =
    let t = tells_all_ascii_digits in
    t.more (48 + n / 100000 % 10) ((48 + n / 10000 % 10) ∷ (48 + n / 1000 % 10) ∷ (48 + n / 100 % 10) ∷
    (48 + n / 10 % 10) ∷ (48 + n / 1 % 10) ∷ []) (digit_range (n / 100000))
    (t.more (48 + n / 10000 % 10) ((48 + n / 1000 % 10) ∷ (48 + n / 100 % 10) ∷ (48 + n / 10 % 10) ∷
    (48 + n / 1 % 10) ∷ []) (digit_range (n / 10000))
    (t.more (48 + n / 1000 % 10) ((48 + n / 100 % 10) ∷ (48 + n / 10 % 10) ∷ (48 + n / 1 % 10) ∷ [])
    (digit_range (n / 1000)) (t.more (48 + n / 100 % 10) ((48 + n / 10 % 10) ∷ (48 + n / 1 % 10) ∷ [])
    (digit_range (n / 100)) (t.more (48 + n / 10 % 10) ((48 + n / 1 % 10) ∷ []) (digit_range (n / 10))
    (t.more (48 + n / 1 % 10) [] (digit_range (n / 1)) t.empty)))))

-- and they stand for its last six
six_digits_value : (n : ℕ) → read_on 0 (six_digits n) ≡ n % 1_000_000
six_digits_value n =
    let one : n / 1 % 10 ≡ n % 10 = omega arith in
    let two : n % 100 ≡ n / 10 % 10 * 10 + n % 10 = omega arith in
    let three : n % 1_000 ≡ n / 100 % 10 * 100 + n % 100 = omega arith in
    let four : n % 10_000 ≡ n / 1_000 % 10 * 1_000 + n % 1_000 = omega arith in
    let five : n % 100_000 ≡ n / 10_000 % 10 * 10_000 + n % 10_000 = omega arith in
    let six : n % 1_000_000 ≡ n / 100_000 % 10 * 100_000 + n % 100_000 = omega arith in
    sums (n / 100_000 % 10) (n / 10_000 % 10) (n / 1_000 % 10) (n / 100 % 10) (n / 10 % 10) (n / 1 % 10) (n % 10)
    (n % 100) (n % 1_000) (n % 10_000) (n % 100_000) (n % 1_000_000) one two three four five six
  where
    sums : (a b c d e f m1 m2 m3 m4 m5 m6 : ℕ) → f ≡ m1 → m2 ≡ e * 10 + m1 → m3 ≡ d * 100 + m2 → m4 ≡ c * 1_000 + m3
        → m5 ≡ b * 10_000 + m4 → m6 ≡ a * 100_000 + m5
        → read_on 0 ((48 + a) ∷ (48 + b) ∷ (48 + c) ∷ (48 + d) ∷ (48 + e) ∷ (48 + f) ∷ []) ≡ m6
    sums a b c d e f m1 m2 m3 m4 m5 m6 p q r s t u = omega arith

pub six_read : (ds : List ℕ) (r : Option ℕ) → Reads ds r → (n : ℕ) → six_digits n ≡ ds → r ≡ Some (n % 1_000_000)
six_read ds r is n written = go r is
  where
    digits : all_ascii_digits ds ≡ true
    digits = subst (λ (l : List ℕ). all_ascii_digits l ≡ true) written (six_digits_digits n)

    value : read_on 0 ds ≡ n % 1_000_000
    value = subst (λ (l : List ℕ). read_on 0 l ≡ n % 1_000_000) written (six_digits_value n)

    go : (r : Option ℕ) → Reads ds r → r ≡ Some (n % 1_000_000)
    go None not_so = absurd (not_so (digits, omega (arith, value)))
    go (Some m) (fine, same) = ap Some (same ∙ value)

-- the text of whole units and millionths
pub size_text_of : (w m : ℕ) → m < 1_000_000 → size_text (w * 1_000_000 + m) ≡ decimal w ++ 46 ∷ six_digits m
size_text_of w m small =
    let units : (w * 1_000_000 + m) / 1_000_000 ≡ w = omega arith in
    let six : six_digits (w * 1_000_000 + m) ≡ six_digits m = same_six (omega arith) (omega arith) (omega arith) (omega arith) (omega arith) (omega arith) in
    ap₂ (λ (k : ℕ) (l : List ℕ). decimal k ++ 46 ∷ l) units six

-- a number's text is cut seven bytes before its end
pub size_parts : (n : ℕ) (text : List ℕ) → size_text n ≡ text
    → (take (length text - 7) text ≡ decimal (n / 1_000_000)) × (drop (length text - 7) text ≡ 46 ∷ six_digits n) × (7 ≤ length text)
size_parts n text is =
    let front = decimal (n / 1_000_000) in
    let len : length text ≡ length front + 7 = sym (ap length is) ∙ length-append front (46 ∷ six_digits n) in
    let at : length text - 7 ≡ length front = omega arith in (
      ap₂ take at (sym is) ∙ take-append_seam front (46 ∷ six_digits n),
      ap₂ drop at (sym is) ∙ drop-append_seam front (46 ∷ six_digits n),
      omega arith,
    )

-- what is read so is written so
pub size_found : (w m at : ℕ) (front back text : List ℕ) (r : Option ℕ) → SomeIff r (w * 1_000_000 + m < 2 ^ 64) (w * 1_000_000 + m) → m < 1_000_000
    → decimal w ≡ front → 46 ∷ six_digits m ≡ back → front ≡ take at text → back ≡ drop at text → IfSome r (λ n. size_text n ≡ text)
size_found w m at front back text None is small whole six before after = tt
size_found w m at front back text (Some n) (fine, same) small whole six before after =
    ap size_text same ∙ size_text_of w m small ∙ ap₂ (λ (f : List ℕ) (b : List ℕ). f ++ b) (whole ∙ before) (six ∙ after) ∙ take-append-drop at text

-- what is written so is read so
pub size_read : (n w m : ℕ) (r : Option ℕ) → SomeIff r (w * 1_000_000 + m < 2 ^ 64) (w * 1_000_000 + m) → n < 2 ^ 64
    → Some w ≡ Some (n / 1_000_000) → Some m ≡ Some (n % 1_000_000) → r ≡ Some n
size_read n w m r is fits whole six = go r is
  where
    w_is : w ≡ n / 1_000_000
    w_is = ap (λ (o : Option ℕ). unwrap_or o w) whole

    m_is : m ≡ n % 1_000_000
    m_is = ap (λ (o : Option ℕ). unwrap_or o m) six

    sum : w * 1_000_000 + m ≡ n
    sum = omega (arith, w_is, m_is)

    go : (r : Option ℕ) → SomeIff r (w * 1_000_000 + m < 2 ^ 64) (w * 1_000_000 + m) → r ≡ Some n
    go None beyond = absurd (beyond (omega (arith, sum, fits)))
    go (Some k) (fine, same) = ap Some (same ∙ sum)
