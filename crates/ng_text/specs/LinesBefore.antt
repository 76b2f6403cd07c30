-- What is known about the lines before a place of a program (own).
use Rattle.std.specs.Prelude.{◌≡◌, ℕ, List, ◌++◌, drop, Some, IfSome}
use Rattle.std.specs.Str.Lines.{lines}
use Rattle.ng_words.specs.declared.start.LineKind.{LineKind}
use Rattle.ng_text.specs.Percent.{first_kind}
use Rattle.ng_text.specs.Programs.{lines_before, program_line_at}
use Rattle.ng_text.specs.declared.lines_before.LinesBefore.{LinesBefore}

-- it is true of a program: a line begins at the place, and the first line before it that isn't blank has this kind
pub record IsTrueOf (program : List ℕ) (known : LinesBefore) : Type 0 where
  pub parts : lines program ≡ lines_before program known.place ++ lines (drop known.place program)
  pub first : IfSome known.first (λ kind. kind ≡ first_kind (lines_before program known.place))

-- this is the line of a program at a place, and the next line begins there; the first line before it that isn't blank
-- has this kind
pub record IsLineBetween (program : List ℕ) (place : ℕ) (first : LineKind) (text : List ℕ) (next : ℕ) : Type 0 where
  pub line : program_line_at program place ≡ Some (record { text = text; next = next })
  pub kind : first ≡ first_kind (lines_before program place)
