-- Lines and their places: how long a line is, and where the next one begins.
use Rattle.std.proofs.Common.{◌≡◌, ℕ, ◌+◌, ◌==◌, Bool, true, false, cond, List, [], ◌∷◌, ◌++◌, length, take, drop, Some, None, refl, sym, ◌∙◌, ap, arith}
use Rattle.std.specs.List.{onto_first}
use Rattle.std.specs.Str.Lines.{lines, lines_of_parts}
use Rattle.ng_text.specs.Split.{HasNoNewline}
use Rattle.ng_text.specs.Programs.{ProgramLineModel, span, next_line_start, first_line, program_line_at}
use Rattle.ng_text.proofs.NewlineLemmas.{parts, parts-some, not_newline, some_length}

-- ---- how long the first line is

pub span-newline : (raw more : List ℕ) → HasNoNewline raw → span (raw ++ (10 ∷ more)) ≡ length raw + 1
span-newline [] more plain = refl
span-newline (b ∷ raw) more plain = let e = not_newline b plain.0 in let s = span-newline raw more plain.1 in rw e (omega (arith, s))

pub span-alone : (raw : List ℕ) → HasNoNewline raw → span raw ≡ length raw
span-alone [] plain = refl
span-alone (b ∷ raw) plain = let e = not_newline b plain.0 in let s = span-alone raw plain.1 in rw e (omega (arith, s))

-- ---- where the next line begins

pub first_found : (ls : List (List ℕ)) (n : ℕ) (line : ProgramLineModel) → first_line ls n ≡ Some line
    → (l : List ℕ) × (more : List (List ℕ)) × (ls ≡ l ∷ more) × (take 257 l ≡ line.text) × (n ≡ line.next)
first_found [] n line e = absurd (cc e)
first_found (l ∷ ls) n line e = let is : record { text = take 257 l; next = n } ≡ line =
    cc e in (l, ls, refl, ap (λ (x : ProgramLineModel). x.text) is, ap (λ (x : ProgramLineModel). x.next) is)

-- after a line that was found at a place
first_next : (ls : List (List ℕ)) (next : ℕ) (line : ProgramLineModel) → first_line ls next ≡ Some line → line.next ≡ next
first_next ls next line e = let found = first_found ls next line e in sym found.4

pub line_next : (program : List ℕ) (place : ℕ) (line : ProgramLineModel) → program_line_at program place ≡ Some line → line.next ≡ next_line_start program place
unfolding program_line_at
line_next program place line e = first_next (lines (drop place program)) (next_line_start program place) line e

-- a text that isn't empty has a line
some_line : (b : ℕ) (x : List ℕ) (xs : List (List ℕ)) (next : ℕ) → None ≡ first_line (lines_of_parts ((b ∷ x) ∷ xs)) next → ⊥
some_line b x [] next e =
    let one : lines_of_parts ((b ∷ x) ∷ []) ≡ (b ∷ x) ∷ [] = rw (some_length (length x)) refl in
    let none : None ≡ first_line ((b ∷ x) ∷ []) next = e ∙ ap (λ (ls : List (List ℕ)). first_line ls next) one in
    cc none
some_line b x (y ∷ more) next e = cc e

line_some : (b : ℕ) (bs : List ℕ) (next : ℕ) → None ≡ first_line (lines (b ∷ bs)) next → ⊥
line_some b bs next e = at (b == 10) (parts-some bs) e
  where
    at : (t : Bool) → ((x : List ℕ) × (xs : List (List ℕ)) × (parts bs ≡ x ∷ xs))
        → None ≡ first_line (lines_of_parts (cond t ([] ∷ parts bs) (onto_first b (parts bs)))) next → ⊥
    at true tail e =
        let none : None ≡ first_line (lines_of_parts ([] ∷ (tail.0 ∷ tail.1))) next = e
        ∙ ap (λ (ps : List (List ℕ)). first_line (lines_of_parts ([] ∷ ps)) next) tail.2 in
        cc none
    at false tail e = some_line b tail.0 tail.1 next (e ∙ ap (λ (ps : List (List ℕ)). first_line (lines_of_parts (onto_first b ps)) next) tail.2)

none_left : (rest : List ℕ) (next : ℕ) → None ≡ first_line (lines rest) next → rest ≡ []
none_left [] next e = refl
none_left (b ∷ rest) next e = absurd (line_some b rest next e)

-- after the last line the place stays
pub after_end : (program : List ℕ) (place : ℕ) → None ≡ program_line_at program place → place ≡ next_line_start program place
unfolding program_line_at next_line_start
after_end program place e =
    let none : span (drop place program) ≡ 0 = ap span (none_left (drop place program) (next_line_start program place) e) in
    omega (arith, none)
