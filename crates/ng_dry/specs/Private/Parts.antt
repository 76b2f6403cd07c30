-- What the parts of a dry run do, each for every continuation of the program; only for private functions and proofs.
use Rattle.std.specs.Prelude.{ℕ, ◌+◌, ◌≡◌, List, [], ◌∷◌, ◌++◌, Option, None, Some, Result, Ok, Err}
use Rattle.std.specs.Str.Lines.{lines}
use Rattle.std.specs.Io.KnownBytes.{Appends}
use Rattle.ng_words.specs.Start.{kind_of}
use Rattle.ng_words.specs.declared.start.LineKind.{LineKind}
use Rattle.ng_words.specs.declared.start.LineKind.TheVariants.{Blank}
use Rattle.ng_state.specs.State.{StateModel}
use Rattle.ng_block.specs.Program.{TermsModel, executed_after}
use Rattle.ng_text.specs.Percent.{kind_before, missing_end}
use Rattle.ng_dry.specs.Dry.{Output, onto, refused, after_line}
use Rattle.ng_dry.specs.declared.ending.Ended.{Ended}
use Rattle.ng_dry.specs.declared.ending.DryFault.{DryFault}

-- a run between two lines: its terms, the kind of the first line that isn't blank, the state, the number of the next
-- line, and the text not yet written
pub record DryRunModel : Type 0 where
  pub terms : TermsModel
  pub first : LineKind
  pub setup : StateModel
  pub number : ℕ
  pub text : List ℕ

-- a run from a state, before the first line
abbrev pub begun : TermsModel → StateModel → DryRunModel
begun terms setup = record { terms = terms; first = Blank; setup = setup; number = 1; text = [] }

-- the fold over the lines that are left, given the kind of the first line before them that isn't blank
abbrev pub outcome_by : TermsModel → LineKind → StateModel → ℕ → List (List ℕ) → Output
outcome_by terms first setup number [] = refused number (missing_end first)
outcome_by terms first setup number (l ∷ ls) =
    after_line number (executed_after terms first setup l) (λ after. outcome_by terms (kind_before first (kind_of l)) after (number + 1) ls)

-- what a run still has to write if these lines follow
abbrev pub due : DryRunModel → List (List ℕ) → Output
due p ls = onto p.text (outcome_by p.terms p.first p.setup p.number ls)

-- what a run that holds the beginning of a line still has to write if these bytes follow
abbrev pub rest_of : DryRunModel → List ℕ → List ℕ → Output
rest_of p line more = due p (lines (line ++ more))

-- a part wrote its text, and g is the rest
pub record Goes {X : Type 0} (old new : Option (List ℕ)) (f g : X → Output) : Type 0 where
  pub text : List ℕ
  pub appends : Appends old new text
  pub rest : (more : X) → f more ≡ onto text (g more)

-- a part wrote everything, and the run has ended
pub record EndsRun {X : Type 0} (old new : Option (List ℕ)) (f : X → Output) (end : Ended) : Type 0 where
  pub text : List ℕ
  pub appends : Appends old new text
  pub rest : (more : X) → f more ≡ record { text = text; ended = end }

-- a part wrote a beginning
pub record Breaks {X : Type 0} (old new : Option (List ℕ)) (f : X → Output) : Type 0 where
  pub text : List ℕ
  pub appends : Appends old new text
  pub rest : (more : X) → (after : List ℕ) × ((f more).text ≡ text ++ after)

-- what a step from f to g wrote: the run continues, has ended, or was aborted
abbrev pub LineStepSpec : {X : Type 0} → Option (List ℕ) → Option (List ℕ) → (X → Output) → (X → Output) → Result (Option Ended) DryFault → Type 0
LineStepSpec old new f g (Ok None) = Goes old new f g
LineStepSpec old new f g (Ok (Some end)) = EndsRun old new f end
LineStepSpec old new f g (Err fault) = Breaks old new f
