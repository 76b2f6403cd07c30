-- Words that are separated at their first blank.
use Rattle.std.proofs.Common.{◌≡◌, ◌≢◌, ◌≤◌, ◌<◌, ◌+◌, ◌-◌, ℕ, ℤ, zero, suc, List, [], ◌∷◌, ◌++◌, length, take}
use Rattle.std.proofs.Common.{drop, get_or, Option, Some, None, MatchOption, refl, sym, ◌∙◌, ap, subst, arith}
use Rattle.std.proofs.lemmas.List.{take_all}
use Rattle.ng_num.specs.declared.point.Point.{Point}
use Rattle.ng_commands.specs.Commands.{AreDigitsOf, HasNo, SpellsLength, SpellsPoint, SpellsTool}
use Rattle.ng_words.specs.Grammar.{AreDigits}
use Rattle.ng_words.proofs.BlanklessNumberLemmas.{digits_bytes}
use Rattle.ng_commands.proofs.LengthTextLemmas.{bytes_without, length_bare}

blank_within : (words : List ℕ) (n m : ℕ) → n < length words → m ≡ n + 1 → get_or words n 0 ≢ 32 → HasNo 32 (take n words) → HasNo 32 (take m words)
blank_within [] n m less next none before = absurd (omega (arith, less))
blank_within (b ∷ words) n zero less next none before = tt
blank_within (b ∷ words) zero (suc zero) less next none before = (none, tt)
blank_within (b ∷ words) zero (suc (suc m)) less next none before = absurd (omega (arith, next))
blank_within (b ∷ words) (suc n) (suc m) less next none before = (before.0, blank_within words n m (omega (arith, less)) (omega (arith, next)) none before.1)

pub blank_after : (words : List ℕ) (n : ℕ) → n < length words → get_or words n 0 ≢ 32 → HasNo 32 (take n words) → HasNo 32 (take (n + 1) words)
blank_after words n less none before = blank_within words n (n + 1) less refl none before

pub none_among : (words : List ℕ) (n : ℕ) → length words ≤ n → HasNo 32 (take n words) → HasNo 32 words
none_among words n end before = subst (HasNo 32) (take_all n words end) before

blank_at : (words : List ℕ) (n m k : ℕ) → n < length words → m ≡ n + 1 → length words ≤ k + m
    → get_or words n 0 ≡ 32 → words ≡ take n words ++ 32 ∷ take k (drop m words)
blank_at [] n m k less next size is = absurd (omega (arith, less))
blank_at (b ∷ words) n zero k less next size is = absurd (omega (arith, next))
blank_at (b ∷ words) zero (suc zero) k less next size is = ap (λ l. b ∷ l) (sym (take_all k words (omega (arith, size)))) ∙ ap (λ c. c ∷ take k words) is
blank_at (b ∷ words) zero (suc (suc m)) k less next size is = absurd (omega (arith, next))
blank_at (b ∷ words) (suc n) (suc m) k less next size is =
    ap (λ l. b ∷ l) (blank_at words n m k (omega (arith, less)) (omega (arith, next)) (omega (arith, size)) is)

pub first_blank : (words : List ℕ) (n : ℕ) → n < length words → get_or words n 0 ≡ 32
    → words ≡ take n words ++ 32 ∷ take (length words - (n + 1)) (drop (n + 1) words)
first_blank words n less is = blank_at words n (n + 1) (length words - (n + 1)) less refl (omega (arith, less)) is

-- there is only one way to separate words at their first blank
one_part : (x y xs ys : List ℕ) → HasNo 32 x → HasNo 32 y → x ++ 32 ∷ xs ≡ y ++ 32 ∷ ys → (x ≡ y) × (xs ≡ ys)
one_part [] [] xs ys none also same = (refl, ap (drop 1) same)
one_part [] (b ∷ y) xs ys none also same = absurd (also.0 (sym (ap (λ l. get_or l 0 0) same)))
one_part (b ∷ x) [] xs ys none also same = absurd (none.0 (ap (λ l. get_or l 0 0) same))
one_part (b ∷ x) (c ∷ y) xs ys none also same =
    let first : b ≡ c = ap (λ l. get_or l 0 0) same in
    let rest = one_part x y xs ys none.1 also.1 (ap (drop 1) same) in
    (ap (λ l. b ∷ l) rest.0 ∙ ap (λ d. d ∷ y) first, rest.1)

not_whole : (words x xs : List ℕ) → HasNo 32 words → words ≡ x ++ 32 ∷ xs → ⊥
not_whole [] [] xs none is = absurd (let size : 0 ≡ suc (length xs) = ap length is in omega (arith, size))
not_whole [] (b ∷ x) xs none is = absurd (let size = ap length is in omega (arith, size))
not_whole (c ∷ words) [] xs none is = none.0 (ap (λ l. get_or l 0 0) is)
not_whole (c ∷ words) (b ∷ x) xs none is = not_whole words x xs none.1 (ap (drop 1) is)

-- the lengths of a point are where its words are separated
pub placed : (words x others y z : List ℕ) → words ≡ x ++ 32 ∷ others → HasNo 32 x → others ≡ y ++ 32 ∷ z → HasNo 32 y → (p : Point) → SpellsPoint words p
    → SpellsLength x p.x × SpellsLength y p.y × SpellsLength z p.z
placed words x others y z is bare also bare_too p (x_as, y_as, z_as, are, writes_x, writes_y, writes_z) =
    let first = one_part x x_as others (y_as ++ 32 ∷ z_as) bare (length_bare x_as p.x writes_x) (sym is ∙ are) in
    let second = one_part y y_as z z_as bare_too (length_bare y_as p.y writes_y) (sym also ∙ first.1) in (
      subst (λ (l : List ℕ). SpellsLength l p.x) (sym first.0) writes_x,
      subst (λ (l : List ℕ). SpellsLength l p.y)
          (sym second.0) writes_y,
      subst (λ (l : List ℕ). SpellsLength l p.z) (sym second.1) writes_z,
    )

-- words without a first or a second blank aren't a point
pub one_word : (words : List ℕ) → HasNo 32 words → (p : Point) → SpellsPoint words p → ⊥
one_word words none p writes = not_whole words writes.0 (writes.1 ++ 32 ∷ writes.2) none writes.3

pub two_words : (words x others : List ℕ) → words ≡ x ++ 32 ∷ others → HasNo 32 x → HasNo 32 others → (p : Point) → SpellsPoint words p → ⊥
two_words words x others is bare none p writes =
    let first = one_part x writes.0 others (writes.1 ++ 32 ∷ writes.2) bare (length_bare writes.0 p.x writes.4) (sym is ∙ writes.3) in
    not_whole others writes.1 writes.2 none first.1

pub refused : (words : List ℕ) (r : Option Point) → r ≡ None → ((p : Point) → SpellsPoint words p → ⊥)
    → MatchOption r ((p : Point) → SpellsPoint words p → ⊥) (SpellsPoint words)
refused words None e none = none
refused words (Some p) e none = absurd cc

-- digits have no blank
digits_whole : (digits : List ℕ) → AreDigits digits → HasNo 32 digits
digits_whole digits are = bytes_without 32 digits (omega arith) (digits_bytes digits are)

-- a slot and a length are where their words are separated
pub tooled : (words digits text : List ℕ) → words ≡ digits ++ 32 ∷ text → HasNo 32 digits → (slot : ℕ) (nm : ℤ) → SpellsTool words slot nm
    → AreDigitsOf digits slot × (length digits ≤ 3) × SpellsLength text nm
tooled words digits text is bare slot nm (digits_as, text_as, are, written, short, writes) =
    let first = one_part digits digits_as text text_as bare (digits_whole digits_as written.0) (sym is ∙ are) in (
      subst (λ (l : List ℕ). AreDigitsOf l slot) (sym first.0) written,
      subst (λ (l : List ℕ). length l ≤ 3)
          (sym first.0) short,
      subst (λ (l : List ℕ). SpellsLength l nm) (sym first.1) writes,
    )

pub no_tool : (words : List ℕ) → HasNo 32 words → (slot : ℕ) (nm : ℤ) → SpellsTool words slot nm → ⊥
no_tool words none slot nm writes = not_whole words writes.0 writes.1 none writes.2

pub refused_tool : (words : List ℕ) (r : Option (ℕ × ℤ)) → r ≡ None
    → ((slot : ℕ) (nm : ℤ) → SpellsTool words slot nm → ⊥)
    → MatchOption r ((slot : ℕ) (nm : ℤ) → SpellsTool words slot nm → ⊥) (λ t. SpellsTool words t.0 t.1)
refused_tool words None e none = none
refused_tool words (Some t) e none = absurd cc
