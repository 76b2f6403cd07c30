-- The fold with the kind of the first line equals the fold with the lines before.
use Rattle.std.proofs.Common.{◌≡◌, ℕ, ◌+◌, List, [], ◌∷◌, ◌++◌, length, cond, Result, Ok, Err, refl, ap, ◌∙◌, arith, length-append}
use Rattle.ng_num.specs.declared.fault.Fault.{Fault}
use Rattle.ng_words.specs.Start.{kind_of}
use Rattle.ng_state.specs.State.{StateModel}
use Rattle.ng_block.specs.Effects.{Done}
use Rattle.ng_block.specs.Program.{TermsModel, executed_after, is_end}
use Rattle.ng_text.specs.Percent.{first_kind, kind_before}
use Rattle.ng_text.proofs.PercentLemmas.{first_kind-after}
use Rattle.ng_dry.specs.Dry.{Output, onto, after_line, commands_text, outcome}
use Rattle.ng_dry.specs.declared.ending.Ended.TheVariants as ended
use Rattle.ng_dry.specs.Private.Parts.{outcome_by}

-- what follows a line is used only at its next state
after_line-same : (number : ℕ) (r : Result Done Fault) (f g : StateModel → Output) → ((s : StateModel) → f s ≡ g s)
    → after_line number r f ≡ after_line number r g
after_line-same number (Err fault) f g same = refl
after_line-same number (Ok done) f g same =
    ap (λ (o : Output). cond (is_end done.stop) (record { text = commands_text done.commands; ended = ended.Done })
    (onto (commands_text done.commands) o)) (same done.setup)

pub outcome_is : (terms : TermsModel) (before : List (List ℕ)) (setup : StateModel) (ls : List (List ℕ))
    → outcome terms before setup ls ≡ outcome_by terms (first_kind before) setup (length before + 1) ls
outcome_is terms before setup [] = refl
outcome_is terms before setup (l ∷ ls) =
    let number : length (before ++ l ∷ []) + 1 ≡ length before + 1 + 1 = simp length-append (omega arith) in
    after_line-same (length before + 1) (executed_after terms (first_kind before) setup l) (λ after. outcome terms (before ++ l ∷ []) after ls)
    (λ after. outcome_by terms (kind_before (first_kind before) (kind_of l)) after (length before + 1 + 1) ls)
    (λ after.
    outcome_is terms (before ++ l ∷ []) after ls ∙ ap (λ k. outcome_by terms k after (length (before ++ l ∷ []) + 1) ls) (first_kind-after before l)
    ∙ ap (λ n. outcome_by terms (kind_before (first_kind before) (kind_of l)) after n ls) number)
