-- What a beginning of a text decides about its first line, byte by byte.
use Rattle.std.proofs.Common.{◌≡◌, ◌≢◌, ◌⊎◌, inl, inr, ℕ, suc, ◌+◌, ◌-◌, ◌==◌, Bool, true, false, cond, List, []}
use Rattle.std.proofs.Common.{◌∷◌, ◌++◌, length, take, drop, get_or, refl, sym, ◌∙◌, ap, subst, arith, append_assoc}
use Rattle.std.proofs.Common.{append-nil, take-append-drop, ◌&&◌, ◌≤◌, ◌<◌, nat_le}
use Rattle.std.proofs.lemmas.Bool.Decides.{nat_tests}
use Rattle.std.proofs.lemmas.List.{take_all}
use Rattle.std.proofs.Math.Seq.{take-suc}
use Rattle.std.specs.Str.Lines.{strip_carriage_return}
use Rattle.ng_words.specs.Plain.{is_blank, capital, plain}
use Rattle.ng_words.specs.Start.{kind, kind_of}
use Rattle.ng_words.specs.declared.start.LineKind.{LineKind}
use Rattle.ng_words.specs.declared.start.LineKind.TheVariants.{Percent, Other}
use Rattle.ng_text.specs.Percent.{first_kind, kind_before}
use Rattle.ng_text.specs.Split.{HasNoNewline}
use Rattle.ng_text.proofs.NewlineLemmas.{lines-newline, lines-alone, split, HasNoNewline-append}
use Rattle.ng_text.proofs.PercentLemmas.{kind_before-blank}
use Rattle.ng_text.specs.FirstLine.{kind_in, shortest, DecidesFirstLine, IsDecided}
use Rattle.ng_text.specs.declared.first_line.FirstLine.{FirstLine}
use Rattle.ng_text.specs.declared.first_line.FirstLine.TheVariants as seen

-- the carriage return at the end of a line
abbrev strip_at : List ℕ → ℕ → List ℕ
strip_at l n = cond (get_or l n 0 == 13) (take n l) l

strip-more : (b c : ℕ) (x : List ℕ) → strip_carriage_return (b ∷ (c ∷ x)) ≡ b ∷ strip_carriage_return (c ∷ x)
strip-more b c x =
    let long : length (b ∷ (c ∷ x)) - 1 ≡ suc (length x) = omega arith in
    let short : length (c ∷ x) - 1 ≡ length x = omega arith in
    ap (strip_at (b ∷ (c ∷ x))) long ∙ by (get_or (c ∷ x) (length x) 0 == 13) ∙ sym (ap (λ (n : ℕ). b ∷ strip_at (c ∷ x) n) short)
  where
    by : (t : Bool) → cond t (b ∷ take (length x) (c ∷ x)) (b ∷ (c ∷ x)) ≡ b ∷ cond t (take (length x) (c ∷ x)) (c ∷ x)
    by true = refl
    by false = refl

strip-after : (f : List ℕ) (c : ℕ) (x : List ℕ) → strip_carriage_return (f ++ (c ∷ x)) ≡ f ++ strip_carriage_return (c ∷ x)
strip-after [] c x = refl
strip-after (b ∷ []) c x = strip-more b c x
strip-after (b ∷ (d ∷ f)) c x = strip-more b d (f ++ (c ∷ x)) ∙ ap (λ (l : List ℕ). b ∷ l) (strip-after (d ∷ f) c x)

-- the kind of a text, by its first line
kind_in-alone : (b : ℕ) (f : List ℕ) → HasNoNewline (b ∷ f) → kind_in (b ∷ f) ≡ kind_of (b ∷ f)
kind_in-alone b f plain = ap first_kind (lines-alone b f plain) ∙ kind_before-blank (kind_of (b ∷ f))

kind_in-newline : (raw rest : List ℕ) → HasNoNewline raw → kind_in (raw ++ (10 ∷ rest)) ≡ kind_before (kind_of (strip_carriage_return raw)) (kind_in rest)
kind_in-newline raw rest plain = ap first_kind (lines-newline raw rest plain)

-- A line that begins so has this kind, whatever follows on it.
abbrev Begins : List ℕ → LineKind → Type 0
Begins f k = ((x : List ℕ) → kind_of (f ++ x) ≡ k) × (kind_of (strip_carriage_return f) ≡ k)

begins : (b : ℕ) (f : List ℕ) → HasNoNewline (b ∷ f) → Begins (b ∷ f) Other → (more : List ℕ) → kind_in ((b ∷ f) ++ more) ≡ Other
begins b f plain is more = elim (split more) [
  | inl alone ↦ kind_in-alone b (f ++ more) (HasNoNewline-append (b ∷ f) more plain alone) ∙ is.0 more
  | inr p ↦
      let whole : (b ∷ f) ++ more ≡ ((b ∷ f) ++ p.0) ++ (10 ∷ p.1) = ap (λ (l : List ℕ). (b ∷ f) ++ l) p.2 ∙ sym (append_assoc (b ∷ f) p.0 (10 ∷ p.1)) in
      ap kind_in whole ∙ kind_in-newline ((b ∷ f) ++ p.0) p.1 (HasNoNewline-append (b ∷ f) p.0 plain p.3)
      ∙ ap (λ (k : LineKind). kind_before k (kind_in p.1)) (stripped p.0)
]
  where
    stripped : (x : List ℕ) → kind_of (strip_carriage_return ((b ∷ f) ++ x)) ≡ Other
    stripped [] = ap (λ (l : List ℕ). kind_of (strip_carriage_return l)) (append-nil (b ∷ f)) ∙ is.1
    stripped (c ∷ x) = ap kind_of (strip-after (b ∷ f) c x) ∙ is.0 (strip_carriage_return (c ∷ x))

-- ---- the kinds of lines by their first bytes

kind-other : (c : ℕ) (l : List ℕ) → (c == 37) ≡ false → kind (c ∷ l) ≡ Other
kind-other c [] e = rw e refl
kind-other c (d ∷ l) e = refl

not_sign : (b : ℕ) → b ≢ 37 → (capital b == 37) ≡ false
not_sign b other = by (nat_le 97 b && nat_le b 122) refl
  where
    low : (x y : Bool) → (x && y) ≡ true → x ≡ true
    low true y e = refl
    low false y e = e

    by : (t : Bool) → (nat_le 97 b && nat_le b 122) ≡ t → (cond t (b - 32) b == 37) ≡ false
    by true e =
        let small : nat_le 97 b ≡ true = low (nat_le 97 b) (nat_le b 122) e in
        let letter : 97 ≤ b = grind (arith, nat_tests) in
        grind (arith, nat_tests)
    by false e = grind (arith, nat_tests)

kind_of-other : (b : ℕ) (x : List ℕ) → is_blank b ≡ false → b ≢ 37 → kind_of (b ∷ x) ≡ Other
kind_of-other b x full other = rw full (kind-other (capital b) (plain (b == 40) x) (not_sign b other))

kind_of-sign_other : (b : ℕ) (x : List ℕ) → is_blank b ≡ false → kind_of (37 ∷ (b ∷ x)) ≡ Other
kind_of-sign_other b x full = rw full refl

kind_of-blank : (b : ℕ) (x : List ℕ) → is_blank b ≡ true → kind_of (b ∷ x) ≡ kind_of x
kind_of-blank b x e = rw e refl

kind_of-sign_blank : (b : ℕ) (x : List ℕ) → is_blank b ≡ true → kind_of (37 ∷ (b ∷ x)) ≡ kind_of (37 ∷ x)
kind_of-sign_blank b x e = rw e refl

strip_last : (b : ℕ) → b ≢ 13 → (b == 13) ≡ false
strip_last b other = grind (arith, nat_tests)

-- ---- one more byte

pub newline_more : (more : List ℕ) → kind_in (10 ∷ more) ≡ kind_in more
newline_more more = kind_in-newline [] more tt

pub return_newline : (more : List ℕ) → kind_in (13 ∷ (10 ∷ more)) ≡ kind_in more
return_newline more = kind_in-newline (13 ∷ []) more (λ e. cc e, tt)

pub sign_newline : (more : List ℕ) → kind_in (37 ∷ (10 ∷ more)) ≡ Percent
sign_newline more = kind_in-newline (37 ∷ []) more (λ e. cc e, tt)

pub sign_return_newline : (more : List ℕ) → kind_in (37 ∷ (13 ∷ (10 ∷ more))) ≡ Percent
sign_return_newline more = kind_in-newline (37 ∷ (13 ∷ [])) more (λ e. cc e, (λ e. cc e, tt))

pub other_more : (b : ℕ) (more : List ℕ) → is_blank b ≡ false → b ≢ 10 → b ≢ 13 → b ≢ 37 → kind_in (b ∷ more) ≡ Other
other_more b more full line no_return no_sign =
    begins b [] (line, tt) (λ x. kind_of-other b x full no_sign, rw (strip_last b no_return) (kind_of-other b [] full no_sign)) more

pub return_other : (b : ℕ) (more : List ℕ) → b ≢ 10 → kind_in (13 ∷ (b ∷ more)) ≡ Other
return_other b more line =
    begins 13 (b ∷ []) (λ e. cc e, (line, tt)) (λ x. kind_of-other 13 (b ∷ x) refl (λ e. cc e), by (b == 13)) more
  where
    by : (t : Bool) → kind_of (cond t (13 ∷ []) (13 ∷ (b ∷ []))) ≡ Other
    by true = refl
    by false = kind_of-other 13 (b ∷ []) refl (λ e. cc e)

pub sign_other : (b : ℕ) (more : List ℕ) → is_blank b ≡ false → b ≢ 10 → b ≢ 13 → kind_in (37 ∷ (b ∷ more)) ≡ Other
sign_other b more full line no_return =
    begins 37 (b ∷ []) (λ e. cc e, (line, tt)) (λ x. kind_of-sign_other b x full, rw (strip_last b no_return) (kind_of-sign_other b [] full)) more

pub sign_return_other : (b : ℕ) (more : List ℕ) → b ≢ 10 → kind_in (37 ∷ (13 ∷ (b ∷ more))) ≡ Other
sign_return_other b more line =
    begins 37 (13 ∷ (b ∷ [])) (λ e. cc e, (λ e. cc e, (line, tt))) (λ x. kind_of-sign_other 13 (b ∷ x) refl, by (b == 13)) more
  where
    by : (t : Bool) → kind_of (cond t (37 ∷ (13 ∷ [])) (37 ∷ (13 ∷ (b ∷ [])))) ≡ Other
    by true = refl
    by false = kind_of-sign_other 13 (b ∷ []) refl

-- a blank byte decides nothing
no_newline : (b : ℕ) → is_blank b ≡ true → b ≢ 10
no_newline b e is = let P : ℕ → Type 0 = λ n. is_blank n ≡ true in let absurdly : is_blank 10 ≡ true = subst P is e in cc

no_return : (b : ℕ) → is_blank b ≡ true → (b == 13) ≡ false
no_return b e = strip_last b (λ is. let P : ℕ → Type 0 = λ n. is_blank n ≡ true in let absurdly : is_blank 13 ≡ true = subst P is e in cc)

pub blank_more : (b : ℕ) (more : List ℕ) → is_blank b ≡ true → kind_in (b ∷ more) ≡ kind_in more
blank_more b more e = elim (split more) [
  | inl alone ↦ kind_in-alone b more (no_newline b e, alone) ∙ kind_of-blank b more e ∙ itself more alone
  | inr p ↦
      ap (λ (l : List ℕ). kind_in (b ∷ l)) p.2
      ∙ kind_in-newline (b ∷ p.0) p.1 (no_newline b e, p.3)
      ∙ ap (λ (k : LineKind). kind_before k (kind_in p.1)) (stripped p.0)
      ∙ sym (kind_in-newline p.0 p.1 p.3)
      ∙ ap kind_in (sym p.2)
]
  where
    itself : (t : List ℕ) → HasNoNewline t → kind_of t ≡ kind_in t
    itself [] plain = refl
    itself (c ∷ t) plain = sym (kind_in-alone c t plain)

    stripped : (x : List ℕ) → kind_of (strip_carriage_return (b ∷ x)) ≡ kind_of (strip_carriage_return x)
    stripped [] = rw (no_return b e) (kind_of-blank b [] e)
    stripped (c ∷ x) = ap kind_of (strip-more b c x) ∙ kind_of-blank b (strip_carriage_return (c ∷ x)) e

pub sign_blank : (b : ℕ) (more : List ℕ) → is_blank b ≡ true → kind_in (37 ∷ (b ∷ more)) ≡ kind_in (37 ∷ more)
sign_blank b more e = elim (split more) [
  | inl alone ↦
      kind_in-alone 37 (b ∷ more) (λ x. cc x, (no_newline b e, alone)) ∙ kind_of-sign_blank b more e ∙ sym (kind_in-alone 37 more (λ x. cc x, alone))
  | inr p ↦
      ap (λ (l : List ℕ). kind_in (37 ∷ (b ∷ l))) p.2
      ∙ kind_in-newline (37 ∷ (b ∷ p.0)) p.1 (λ x. cc x, (no_newline b e, p.3))
      ∙ ap (λ (k : LineKind). kind_before k (kind_in p.1)) (stripped p.0)
      ∙ sym (kind_in-newline (37 ∷ p.0) p.1 (λ x. cc x, p.3))
      ∙ ap (λ (l : List ℕ). kind_in (37 ∷ l)) (sym p.2)
]
  where
    stripped : (x : List ℕ) → kind_of (strip_carriage_return (37 ∷ (b ∷ x))) ≡ kind_of (strip_carriage_return (37 ∷ x))
    stripped [] = rw (no_return b e) (kind_of-sign_blank b [] e)
    stripped (c ∷ x) =
        ap kind_of (strip-after (37 ∷ (b ∷ [])) c x)
        ∙ kind_of-sign_blank b (strip_carriage_return (c ∷ x)) e
        ∙ sym (ap kind_of (strip-after (37 ∷ []) c x))

-- ---- what decides it

differ : (front one other : List ℕ) (kind : LineKind) → kind_in (front ++ one) ≢ kind_in (front ++ other) → IsDecided front kind → ⊥
differ front one other kind apart is = apart (is one ∙ sym (is other))

undecided_as : (seen : FirstLine) (one other : List ℕ) (kind : LineKind) → kind_in (shortest seen ++ one) ≢ kind_in (shortest seen ++ other)
    → (now : FirstLine) → now ≡ seen → IsDecided (shortest now) kind → ⊥
undecided_as seen one other kind apart now is = subst (λ (s : FirstLine). IsDecided (shortest s) kind → ⊥) (sym is)
    (differ (shortest seen) one other kind apart)

-- a digit or a newline may follow, or nothing
pub undecided : (now : FirstLine) → (now ≡ seen.Unseen)
    ⊎ ((now ≡ seen.Return) ⊎ ((now ≡ seen.Sign) ⊎ (now ≡ seen.SignReturn))) → (kind : LineKind)
    → IsDecided (shortest now) kind → ⊥
undecided now (inl is) kind = undecided_as seen.Unseen [] (48 ∷ []) kind (λ e. cc e) now is
undecided now (inr (inl is)) kind = undecided_as seen.Return [] (10 ∷ []) kind (λ e. cc e) now is
undecided now (inr (inr (inl is))) kind = undecided_as seen.Sign [] (48 ∷ []) kind (λ e. cc e) now is
undecided now (inr (inr (inr is))) kind = undecided_as seen.SignReturn [] (10 ∷ []) kind (λ e. cc e) now is

-- ---- what one more byte decides

abbrev byte_is : (front : List ℕ) (b n : ℕ) → b ≡ n → (more : List ℕ) → kind_in (front ++ (b ∷ more)) ≡ kind_in (front ++ (n ∷ more))
byte_is front b n is more = ap (λ (x : ℕ). kind_in (front ++ (x ∷ more))) is

pub known_other : (more : List ℕ) → kind_in (48 ∷ more) ≡ Other
known_other more = other_more 48 more refl (λ e. cc e) (λ e. cc e) (λ e. cc e)

pub decided_newline : (b : ℕ) → b ≡ 10 → DecidesFirstLine (b ∷ []) seen.Unseen
decided_newline b is more = byte_is [] b 10 is more ∙ newline_more more

pub decided_return : (b : ℕ) → b ≡ 13 → DecidesFirstLine (b ∷ []) seen.Return
decided_return b is more = byte_is [] b 13 is more

pub decided_sign : (b : ℕ) → b ≡ 37 → DecidesFirstLine (b ∷ []) seen.Sign
decided_sign b is more = byte_is [] b 37 is more

pub decided_blank : (b : ℕ) → is_blank b ≡ true → DecidesFirstLine (b ∷ []) seen.Unseen
decided_blank b is more = blank_more b more is

pub decided_other : (b : ℕ) → b ≢ 10 → b ≢ 13 → b ≢ 37 → is_blank b ≡ false → DecidesFirstLine (b ∷ []) seen.Other
decided_other b line no_return no_sign full more = other_more b more full line no_return no_sign ∙ sym (known_other more)

pub sign_decided_newline : (b : ℕ) → b ≡ 10 → DecidesFirstLine (37 ∷ (b ∷ [])) seen.Percent
sign_decided_newline b is more = byte_is (37 ∷ []) b 10 is more

pub sign_decided_return : (b : ℕ) → b ≡ 13 → DecidesFirstLine (37 ∷ (b ∷ [])) seen.SignReturn
sign_decided_return b is more = byte_is (37 ∷ []) b 13 is more

pub sign_decided_blank : (b : ℕ) → is_blank b ≡ true → DecidesFirstLine (37 ∷ (b ∷ [])) seen.Sign
sign_decided_blank b is more = sign_blank b more is

pub sign_decided_other : (b : ℕ) → b ≢ 10 → b ≢ 13 → is_blank b ≡ false → DecidesFirstLine (37 ∷ (b ∷ [])) seen.Other
sign_decided_other b line no_return full more = sign_other b more full line no_return ∙ sym (known_other more)

by_newline : (b : ℕ) → (b ≡ 10) ⊎ (b ≢ 10)
by_newline b = at (b == 10) refl
  where
    at : (t : Bool) → (b == 10) ≡ t → (b ≡ 10) ⊎ (b ≢ 10)
    at true e = inl (grind (arith, nat_tests))
    at false e = inr (grind (arith, nat_tests))

-- after a carriage return
return_decided_as : (front : List ℕ) (b : ℕ) (ended new : FirstLine) → (b ≡ 10 → new ≡ ended) → (b ≢ 10 → new ≡ seen.Other)
    → ((more : List ℕ) → kind_in (front ++ (10 ∷ more)) ≡ kind_in (shortest ended ++ more)) → ((more : List ℕ) → b ≢ 10 → kind_in (front ++ (b ∷ more)) ≡ Other)
    → (more : List ℕ) → kind_in (front ++ (b ∷ more)) ≡ kind_in (shortest new ++ more)
return_decided_as front b ended new is is_other line other more = elim (by_newline b) [
  | inl e ↦ byte_is front b 10 e more ∙ line more ∙ sym (ap (λ (s : FirstLine). kind_in (shortest s ++ more)) (is e))
  | inr e ↦ other more e ∙ sym (known_other more) ∙ sym (ap (λ (s : FirstLine). kind_in (shortest s ++ more)) (is_other e))
]

pub return_decided : (b : ℕ) (new : FirstLine) → (b ≡ 10 → new ≡ seen.Unseen) → (b ≢ 10 → new ≡ seen.Other) → DecidesFirstLine (13 ∷ (b ∷ [])) new
return_decided b new is other = return_decided_as (13 ∷ []) b seen.Unseen new is other return_newline (λ more e. return_other b more e)

pub sign_return_decided : (b : ℕ) (new : FirstLine) → (b ≡ 10 → new ≡ seen.Percent) → (b ≢ 10 → new ≡ seen.Other) → DecidesFirstLine (37 ∷ (13 ∷ (b ∷ []))) new
sign_return_decided b new is other =
    return_decided_as (37 ∷ (13 ∷ [])) b seen.Percent new is other (λ more. sign_return_newline more
    ∙ sym (sign_newline more)) (λ more e. sign_return_other b more e)

pub percent_decided : (b : ℕ) → DecidesFirstLine (37 ∷ (10 ∷ (b ∷ []))) seen.Percent
percent_decided b more = sign_newline (b ∷ more) ∙ sym (sign_newline more)

pub other_decided : (b : ℕ) → DecidesFirstLine (48 ∷ (b ∷ [])) seen.Other
other_decided b more = known_other (b ∷ more) ∙ sym (known_other more)

-- a beginning, and then another part
pub decides_more : (front part : List ℕ) (old new : FirstLine) → DecidesFirstLine front old
    → DecidesFirstLine (shortest old ++ part) new → DecidesFirstLine (front ++ part) new
decides_more front part old new first then_part more =
    ap kind_in (append_assoc front part more) ∙ first (part ++ more) ∙ sym (ap kind_in (append_assoc (shortest old) part more)) ∙ then_part more

-- one byte of some, and all of them
pub decides_one : (front bytes : List ℕ) (i : ℕ) (old new : FirstLine) → i < length bytes
    → DecidesFirstLine (front ++ take i bytes) old → DecidesFirstLine (shortest old ++ (get_or bytes i 0 ∷ [])) new
    → DecidesFirstLine (front ++ take (i + 1) bytes) new
decides_one front bytes i old new lt told one =
    let next : suc i ≡ i + 1 = omega arith in
    let whole : (front ++ take i bytes) ++ (get_or bytes i 0 ∷ []) ≡ front ++ take (i + 1) bytes =
    append_assoc front (take i bytes) (get_or bytes i 0 ∷ [])
    ∙ ap (λ (l : List ℕ). front ++ l) (sym (take-suc bytes i 0 lt))
    ∙ ap (λ (n : ℕ). front ++ take n bytes) next in
    subst (λ (l : List ℕ). DecidesFirstLine l new) whole (decides_more (front ++ take i bytes) (get_or bytes i 0 ∷ []) old new told one)

pub decides_all : (front bytes : List ℕ) (n : ℕ) (new : FirstLine) → length bytes ≤ n
    → DecidesFirstLine (front ++ take n bytes) new → DecidesFirstLine (front ++ bytes) new
decides_all front bytes n new all told = subst (λ (l : List ℕ). DecidesFirstLine (front ++ l) new) (take_all n bytes all) told

-- ---- the whole text

pub known_in : (text : List ℕ) (n : ℕ) (seen : FirstLine) (kind : LineKind) → DecidesFirstLine (take n text) seen
    → ((more : List ℕ) → kind_in (shortest seen ++ more) ≡ kind) → kind ≡ kind_in text
known_in text n seen kind told known = sym (ap kind_in (sym (take-append-drop n text)) ∙ told (drop n text) ∙ known (drop n text))

pub all_in : (text : List ℕ) (n : ℕ) (seen : FirstLine) (kind : LineKind) → length text ≤ n
    → DecidesFirstLine (take n text) seen → kind ≡ kind_in (shortest seen) → kind ≡ kind_in text
all_in text n seen kind all told is =
    is ∙ sym (ap kind_in (append-nil (shortest seen))) ∙ sym (told []) ∙ ap kind_in (append-nil (take n text) ∙ take_all n text all)
