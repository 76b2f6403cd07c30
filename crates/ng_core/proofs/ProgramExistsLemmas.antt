-- For whatever a device returns there is a program that has such a line: any kind of line before a place, and any place
-- at which the next line begins.
use Rattle.std.proofs.Common.{◌≡◌, ℕ, zero, suc, ◌-◌, ◌≤◌, List, [], ◌∷◌, length, drop, refl, sym, ◌∙◌, ap, arith}
use Rattle.std.specs.Str.Lines.{lines}
use Rattle.std.proofs.lemmas.List.{take_all}
use Rattle.ng_words.specs.declared.start.LineKind.{LineKind}
use Rattle.ng_words.specs.declared.start.LineKind.TheVariants.{Blank, Percent, Other}
use Rattle.ng_text.specs.Percent.{first_kind}
use Rattle.ng_text.specs.Programs.{lines_before, next_line_start, span}

-- a text whose first line that isn't blank is of the given kind; it is blank if there is no such line
abbrev text_of : LineKind → List ℕ
text_of Blank = []
text_of Percent = 37 ∷ []
text_of Other = 48 ∷ []

text_kind : (kind : LineKind) → kind ≡ first_kind (lines (text_of kind))
text_kind Blank = refl
text_kind Percent = refl
text_kind Other = refl

text_short : (kind : LineKind) (n : ℕ) → length (text_of kind) ≤ suc n
text_short Blank n = omega arith
text_short Percent n = omega arith
text_short Other n = omega arith

-- before a place, the first line of some program that isn't blank is of the given kind; before the beginning there is
-- no line
pub has_kind : (kind : LineKind) (place : ℕ) → (place ≡ 0 → kind ≡ Blank) → (program : List ℕ) × (kind ≡ first_kind (lines_before program place))
has_kind kind zero blank = ([], blank refl)
has_kind kind (suc n) blank =
    (text_of kind, text_kind kind ∙ sym (ap (λ (text : List ℕ). first_kind (lines text)) (take_all (suc n) (text_of kind) (text_short kind n))))

-- a text whose first line, with its newline, has this many bytes, and such a text from a place on
abbrev text_with : ℕ → List ℕ
text_with zero = []
text_with (suc zero) = 10 ∷ []
text_with (suc (suc n)) = 0 ∷ text_with (suc n)

span_with : (n : ℕ) → span (text_with n) ≡ n
span_with zero = refl
span_with (suc zero) = refl
span_with (suc (suc n)) = let s = span_with (suc n) in omega (arith, s)

abbrev text_from : ℕ → List ℕ → List ℕ
text_from zero rest = rest
text_from (suc n) rest = 0 ∷ text_from n rest

drop_from : (n : ℕ) (rest : List ℕ) → drop n (text_from n rest) ≡ rest
drop_from zero rest = refl
drop_from (suc n) rest = drop_from n rest

-- from a place on, the next line of some program begins at the given place
pub has_next : (place next : ℕ) → place ≤ next → (program : List ℕ) × (next ≡ next_line_start program place)
unfolding next_line_start
has_next place next beyond =
    let rest = text_with (next - place) in
    let long : span (drop place (text_from place rest)) ≡ next - place = ap span (drop_from place rest) ∙ span_with (next - place) in
    (text_from place rest, omega (arith, long, beyond))
