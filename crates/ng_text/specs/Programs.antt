-- The lines of a program, each with the place at which it begins: a number of bytes (own).
use Rattle.std.specs.Prelude.{ℕ, ◌+◌, ◌==◌, List, [], ◌∷◌, take, drop, Option, Some, None, if◌then◌else◌}
use Rattle.std.specs.Str.Lines.{lines}

-- a line without its line end, and the place at which the next one begins
pub record ProgramLineModel : Type 0 where
  pub text : List ℕ
  pub next : ℕ

-- the number of bytes of a text's first line, with its newline if it has one
abbrev pub span : List ℕ → ℕ
span [] = 0
span (b ∷ bs) = if b == 10 then 1 else span bs + 1

-- the place after the line at a place, where the next line begins; at the program's end it stays
unfoldable pub next_line_start : List ℕ → ℕ → ℕ
next_line_start program place = place + span (drop place program)

-- the first of these lines, cut after the first excess byte
abbrev pub first_line : List (List ℕ) → ℕ → Option ProgramLineModel
first_line [] next = None
first_line (l ∷ ls) next = Some (record { text = take 257 l; next = next })

-- the line that begins at this place; `None` at the program's end
unfoldable pub program_line_at : List ℕ → ℕ → Option ProgramLineModel
program_line_at program place = first_line (lines (drop place program)) (next_line_start program place)

-- the lines before a place
abbrev pub lines_before : List ℕ → ℕ → List (List ℕ)
lines_before program place = lines (take place program)
