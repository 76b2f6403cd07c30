use Rattle.std.proofs.Common.{◌≡◌, ◌++◌, ◌∷◌, ◌∙◌, List, ℕ, [], ap, append_assoc, subst, sym, arith}
use Rattle.ng_text.specs.Split.{HasNoNewline}
use Rattle.ng_schedule.proofs.EndedLineLemmas.{HasNoNewline-append}
use Rattle.ng_schedule.proofs.RunStepLemmas.{TakeSpec-from, too_long_to_fit, stops_at_long, without_partial}
use Rattle.ng_schedule.proofs.splitting.LineSplitter.end_partial.Goals as goal

pub take_line-taken-requires : goal.take_line-taken-requires
take_line-taken-requires g c =
    subst HasNoNewline (sym (c.as_slice.ensures.value ∙ c.in-Ok.ensures.ok)) (HasNoNewline-append _ _ c.requires.partial c.requires.line)

pub returns-in-Err-clause-step : goal.returns-in-Err-clause-step
returns-in-Err-clause-step g c limits start bytes here =
    let partial = c.args.self.now.partial.items in
    let line = c.args.line.now in
    stops_at_long limits start _ bytes partial line (10 ∷ []) c.args.self.now.schedule here
    (HasNoNewline-append partial line c.requires.partial c.requires.line)
    (too_long_to_fit partial line c.in-Err.ensures.variant.1)

pub returns-in-Ok-clause-step : goal.returns-in-Ok-clause-step
returns-in-Ok-clause-step g c limits start bytes here =
    let partial = c.args.self.now.partial.items in
    let line = c.args.line.now in
    let parts = without_partial limits start _ bytes partial c.args.self.now.schedule here in
    let text_is : c.as_slice.result.now ≡ partial ++ line = c.as_slice.ensures.value ∙ c.in-Ok.ensures.ok in
    let bytes_are : bytes ++ (line ++ 10 ∷ []) ≡ parts.0 ++ (c.as_slice.result.now ++ 10 ∷ []) =
    ap (λ l. l ++ (line ++ 10 ∷ [])) parts.2 ∙ append_assoc parts.0 partial (line ++ 10 ∷ [])
    ∙ ap (λ l. parts.0 ++ l) (sym (append_assoc partial line (10 ∷ []))
    ∙ ap (λ (l : List ℕ). l ++ 10 ∷ []) (sym text_is)) in
    TakeSpec-from limits start _ _ _ _ _ c.take_line-taken.new.self c.take_line-taken.result bytes_are
    c.clear.ensures (c.take_line-taken.ensures.step limits start parts.0 parts.1)

pub try_extend_from_slice-requires : goal.try_extend_from_slice-requires
try_extend_from_slice-requires g c = omega arith

pub as_slice-requires : goal.as_slice-requires
as_slice-requires g c = omega arith

pub clear-requires : goal.clear-requires
clear-requires g c = omega arith

pub returns-in-Err-clause-partial : goal.returns-in-Err-clause-partial
returns-in-Err-clause-partial g c = grind arith

pub returns-in-Err-clause-shown : goal.returns-in-Err-clause-shown
returns-in-Err-clause-shown g c = grind arith

pub returns-in-Ok-clause-partial : goal.returns-in-Ok-clause-partial
returns-in-Ok-clause-partial g c = grind arith

pub returns-in-Ok-clause-shown : goal.returns-in-Ok-clause-shown
returns-in-Ok-clause-shown g c = grind arith
