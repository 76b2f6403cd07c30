-- What the beginning of a text decides about its first line that isn't blank (own).
use Rattle.std.specs.Prelude.{◌≡◌, ℕ, List, [], ◌∷◌, ◌++◌}
use Rattle.std.specs.Str.Lines.{lines}
use Rattle.ng_words.specs.declared.start.LineKind.{LineKind}
use Rattle.ng_text.specs.Percent.{first_kind}
use Rattle.ng_text.specs.declared.first_line.FirstLine.{FirstLine}
use Rattle.ng_text.specs.declared.first_line.FirstLine.TheVariants.{Unseen, Return, Sign, SignReturn, Percent, Other}

-- the kind of the first line of a text that isn't blank
abbrev pub kind_in : List ℕ → LineKind
kind_in text = first_kind (lines text)

-- a shortest text that decides the same: the empty text, a carriage return, a percent sign, both, a percent sign on a
-- line that has ended, or a digit
abbrev pub shortest : FirstLine → List ℕ
shortest Unseen = []
shortest Return = 13 ∷ []
shortest Sign = 37 ∷ []
shortest SignReturn = 37 ∷ (13 ∷ [])
shortest Percent = 37 ∷ (10 ∷ [])
shortest Other = 48 ∷ []

-- the beginning of a text decides as much as this shortest text, whatever follows
abbrev pub DecidesFirstLine : List ℕ → FirstLine → Type 0
DecidesFirstLine front seen = (more : List ℕ) → kind_in (front ++ more) ≡ kind_in (shortest seen ++ more)

-- the beginning of a text decides the kind of its first line that isn't blank: it is this kind, whatever follows
abbrev pub IsDecided : List ℕ → LineKind → Type 0
IsDecided front kind = (more : List ℕ) → kind_in (front ++ more) ≡ kind
