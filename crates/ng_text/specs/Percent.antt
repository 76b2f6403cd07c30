-- Percent programs: if the first line that isn't blank is a percent sign alone, the next such line ends the program
-- (NISTIR 6556, 3.3).
use Rattle.std.specs.Prelude.{ℕ, List, [], ◌∷◌, Bool, true, false, not, ◌&&◌, Option, Some, None, if◌then◌else◌}
use Rattle.ng_num.specs.declared.fault.Fault.{Fault}
use Rattle.ng_num.specs.declared.fault.Fault.TheVariants.{NoProgramEnd, MissingPercent}
use Rattle.ng_words.specs.Grammar.{is_too_long}
use Rattle.ng_words.specs.Start.{kind_of}
use Rattle.ng_words.specs.declared.start.LineKind.{LineKind}
use Rattle.ng_words.specs.declared.start.LineKind.TheVariants.{Blank, Percent, Other}
use Rattle.ng_text.specs.declared.percent.PercentLine.{PercentLine}
use Rattle.ng_text.specs.declared.percent.PercentLine.TheVariants.{Opens, Closes}

abbrev pub is_alone : LineKind → Bool
is_alone Blank = false
is_alone Percent = true
is_alone Other = false

-- of two kinds, the first that isn't blank
abbrev pub kind_before : LineKind → LineKind → LineKind
kind_before Blank after = after
kind_before Percent after = Percent
kind_before Other after = Other

-- the kind of the first line that isn't blank; blank if all lines are
abbrev pub first_kind : List (List ℕ) → LineKind
first_kind [] = Blank
first_kind (l ∷ ls) = kind_before (kind_of l) (first_kind ls)

-- what a percent line does after lines whose first that isn't blank has this kind: it opens the program, it closes it,
-- or it does neither
abbrev pub percent_after : LineKind → Option PercentLine
percent_after Blank = Some Opens
percent_after Percent = Some Closes
percent_after Other = None

-- a percent sign alone on a line that isn't too long
abbrev pub is_percent : List ℕ → Bool
is_percent line = not (is_too_long line) && is_alone (kind_of line)

-- what a line does as a percent line, given the kind of the first line before it that isn't blank; nothing if it isn't
-- one
abbrev pub percent_line_by : LineKind → List ℕ → Option PercentLine
percent_line_by first line = if is_percent line then percent_after first else None

-- what a line does as a percent line, given the lines before it
abbrev pub percent_line_at : List (List ℕ) → List ℕ → Option PercentLine
percent_line_at lines_before line = percent_line_by (first_kind lines_before) line

-- the fault of a text that ends before the program does: in a percent program the closing line is missing
abbrev pub missing_end : LineKind → Fault
missing_end Blank = NoProgramEnd
missing_end Percent = MissingPercent
missing_end Other = NoProgramEnd
