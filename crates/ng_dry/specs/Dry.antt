-- What a dry run writes, and how it ends (own): the canonical text of the lines, folded from a state.
use Rattle.std.specs.Prelude.{ℕ, ◌+◌, ◌≡◌, List, [], ◌∷◌, ◌++◌, Option, Result, Ok, Err, length, flat_map, if◌then◌else◌, codes}
use Rattle.std.specs.Fmt.{decimal}
use Rattle.std.specs.Str.Lines.{lines}
use Rattle.std.specs.Io.KnownBytes.{Appends}
use Rattle.ng_num.specs.declared.fault.Fault.{Fault}
use Rattle.ng_num.specs.Fault.{text as fault_text}
use Rattle.ng_canon.specs.Printing.{CanonModel, canonical_text}
use Rattle.ng_state.specs.State.{StateModel, fresh}
use Rattle.ng_block.specs.Effects.{Done}
use Rattle.ng_block.specs.Program.{TermsModel, executed_in_program, is_end}
use Rattle.ng_text.specs.Percent.{first_kind, missing_end}
use Rattle.ng_dry.specs.declared.ending.Ended.{Ended}
use Rattle.ng_dry.specs.declared.ending.Ended.TheVariants as ended
use Rattle.ng_dry.specs.declared.ending.DryFault.{DryFault}

-- what is written, and how the run ends
pub record Output : Type 0 where
  pub text : List ℕ
  pub ended : Ended

abbrev pub commands_text : List CanonModel → List ℕ
commands_text commands = flat_map canonical_text commands

-- the line that says which line is refused, and why
unfoldable pub refusal_text : ℕ → Fault → List ℕ
refusal_text number fault = codes "REFUSED line " ++ decimal number ++ codes ": " ++ (fault_text fault ++ codes "\n")

abbrev pub refused : ℕ → Fault → Output
refused number fault = record { text = refusal_text number fault; ended = ended.Refused number fault }

-- a text in front of an output
abbrev pub onto : List ℕ → Output → Output
onto front output = record { text = front ++ output.text; ended = output.ended }

-- the text of a line, followed by the output from the next state; stops are printed, and the run doesn't wait at them
abbrev pub after_line : ℕ → Result Done Fault → (StateModel → Output) → Output
after_line number (Err fault) next = refused number fault
after_line number (Ok done) next =
    if is_end done.stop then record { text = commands_text done.commands; ended = ended.Done }
    else onto (commands_text done.commands) (next done.setup)

-- the fold over the lines that are left, given those before them; a text that ends before the program does is refused
abbrev pub outcome : TermsModel → List (List ℕ) → StateModel → List (List ℕ) → Output
outcome terms lines_before setup [] = refused (length lines_before + 1) (missing_end (first_kind lines_before))
outcome terms lines_before setup (l ∷ ls) =
    after_line (length lines_before + 1) (executed_in_program terms lines_before setup l) (λ after. outcome terms (lines_before ++ l ∷ []) after ls)

-- a dry run of a program's bytes from a state
abbrev pub output_from : TermsModel → StateModel → List ℕ → Output
output_from terms setup program = outcome terms [] setup (lines program)

-- the same from the fresh state
abbrev pub output_of : TermsModel → List ℕ → Output
output_of terms program = output_from terms fresh program

-- a run that has ended wrote the whole text and returns how it ended; one that failed wrote a beginning
abbrev pub DryRunSpec : Option (List ℕ) → Option (List ℕ) → Output → Result Ended DryFault → Type 0
DryRunSpec old new output (Ok end) = Appends old new output.text × (end ≡ output.ended)
DryRunSpec old new output (Err fault) = (front : List ℕ) × (after : List ℕ) × (output.text ≡ front ++ after) × Appends old new front
