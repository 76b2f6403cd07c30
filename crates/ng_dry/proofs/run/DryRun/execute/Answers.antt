use Rattle.std.proofs.Common.{◌∷◌, ◌++◌, ◌∙◌, ap, sym, ◌+◌, Ok, Err, None, arith}
use Rattle.ng_dry.specs.Private.Parts.{DryRunModel, due, outcome_by}
use Rattle.ng_words.specs.Start.{kind_of}
use Rattle.ng_block.specs.Effects.{in_state}
use Rattle.ng_text.specs.Percent.{kind_before}
use Rattle.ng_state.specs.State.{changed}
use Rattle.ng_dry.specs.Dry.{onto, commands_text}
use Rattle.ng_dry.proofs.RunLemmas.{due-end, due-next, due-begins, Goes-drained, Breaks-drained, DryRunSpec-drained}
use Rattle.ng_dry.proofs.RunPartLemmas.{EndsRun-finished, Breaks-finished, LineStepSpec-onto}
use Rattle.ng_dry.specs.declared.ending.Ended.TheVariants as ended
use Rattle.ng_dry.proofs.run.DryRun.execute.Goals as goal

pub returns-in-Err-put_effect-clause-step : goal.returns-in-Err-put_effect-clause-step
returns-in-Err-put_effect-clause-step g c =
    let here : DryRunModel = record {
      terms = c.self.inside.terms;
      first = c.self.inside.first;
      setup =
          c.self.inside.state;
      number = c.self.inside.number;
      text = c.self.inside.text.items;
    } in
    let done = in_state c.self.inside.state c.in-Ok.effect.now in
    Breaks-drained (Unit {0}) _ _ (λ more. due c.args.self.now (c.args.line.now ∷ more)) _ here.text c.in-Err-put_effect.broken
    (λ more. (due-begins here c.args.self.now c.args.line.now done more c.self.view_is c.in-Ok.ensures)) c.in-Err-put_effect.ensures

pub returns-in-Ok-end-clause-step : goal.returns-in-Ok-end-clause-step
returns-in-Ok-end-clause-step g c =
    let here : DryRunModel = record {
      terms = c.self.inside.terms;
      first = c.self.inside.first;
      setup =
          c.self.inside.state;
      number = c.self.inside.number;
      text = c.self.inside.text.items;
    } in
    let done = in_state c.self.inside.state c.in-Ok.effect.now in
    EndsRun-finished _ _ (λ more. due c.args.self.now (c.args.line.now ∷ more))
    (record { text = here.text ++ commands_text done.commands; ended = ended.Done }) c.in-Ok-end.end
    (λ more. due-end here c.args.self.now c.args.line.now done more c.self.view_is c.in-Ok.ensures (sym c.is_end.ensures ∙ c.if-is_end.true))
    (DryRunSpec-drained {T = Unit {0}} _ _ _ _ _ ended.Done tt (Ok c.in-Ok-end.end) c.in_default.ensures c.in-Ok-end.ensures.ended)

pub returns-in-Err-end-clause-step : goal.returns-in-Err-end-clause-step
returns-in-Err-end-clause-step g c =
    let here : DryRunModel = record {
      terms = c.self.inside.terms;
      first = c.self.inside.first;
      setup =
          c.self.inside.state;
      number = c.self.inside.number;
      text = c.self.inside.text.items;
    } in
    let done = in_state c.self.inside.state c.in-Ok.effect.now in
    Breaks-finished _ _ (λ more. due c.args.self.now (c.args.line.now ∷ more))
    (record { text = here.text ++ commands_text done.commands; ended = ended.Done }) c.in-Err-end.broken
    (λ more. due-end here c.args.self.now c.args.line.now done more c.self.view_is c.in-Ok.ensures (sym c.is_end.ensures ∙ c.if-is_end.true))
    (DryRunSpec-drained {T = Unit {0}} _ _ _ _ _ ended.Done tt (Err c.in-Err-end.broken) c.in_default.ensures c.in-Err-end.ensures.ended)

pub returns-clause-step : goal.returns-clause-step
returns-clause-step g c =
    let here : DryRunModel = record {
      terms = c.self.inside.terms;
      first = c.self.inside.first;
      setup =
          c.self.inside.state;
      number = c.self.inside.number;
      text = c.self.inside.text.items;
    } in
    let done = in_state c.self.inside.state c.in-Ok.effect.now in
    let left = c.put_effect.new.text.items in
    LineStepSpec-onto _ _ (λ more. due c.args.self.now (c.args.line.now ∷ more))
    (λ more. onto left (outcome_by here.terms (kind_before here.first (kind_of c.args.line.now)) done.setup
    (here.number + 1) more)) _ (Ok None)
    (λ more.
    ap (λ f. onto left (outcome_by here.terms f done.setup (here.number + 1) more)) (sym c.first_kind-self-inside.ensures.value)
    ∙ ap (λ s. onto left (outcome_by here.terms c.first_kind-self-inside.result s (here.number + 1) more))
    (sym (c.take_over.ensures ∙ ap (changed c.self.inside.state c.in-Ok.effect.now.modal)
    c.as_slice.ensures.value)))
    (Goes-drained {T = Unit {0}} _ _ (λ more. due c.args.self.now (c.args.line.now ∷ more))
    (here.text ++ commands_text done.commands) left
    (λ more. outcome_by here.terms (kind_before here.first (kind_of c.args.line.now)) done.setup
    (here.number + 1) more) tt
    (λ more. due-next here c.args.self.now c.args.line.now done more c.self.view_is c.in-Ok.ensures
    (sym c.is_end.ensures ∙ c.if-is_end.false)) c.in_default.ensures)

pub execute_after-requires : goal.execute_after-requires
execute_after-requires g c κs = grind arith

pub refuse-requires : goal.refuse-requires
refuse-requires g c κs = grind arith

pub returns-in-Ok-refuse-clause-step : goal.returns-in-Ok-refuse-clause-step
returns-in-Ok-refuse-clause-step g c = grind arith

pub returns-in-Ok-refuse-clause-number : goal.returns-in-Ok-refuse-clause-number
returns-in-Ok-refuse-clause-number g c = grind arith

pub returns-in-Err-refuse-clause-step : goal.returns-in-Err-refuse-clause-step
returns-in-Err-refuse-clause-step g c = grind arith

pub returns-in-Err-refuse-clause-number : goal.returns-in-Err-refuse-clause-number
returns-in-Err-refuse-clause-number g c = grind arith

pub put_effect-requires : goal.put_effect-requires
put_effect-requires g c κs = grind arith

pub returns-in-Err-put_effect-clause-number : goal.returns-in-Err-put_effect-clause-number
returns-in-Err-put_effect-clause-number g c = grind arith

pub as_slice-requires : goal.as_slice-requires
as_slice-requires g c = omega arith

pub take_over-requires : goal.take_over-requires
take_over-requires g c κs = grind arith

pub first_kind-self-inside-requires : goal.first_kind-self-inside-requires
first_kind-self-inside-requires g c = omega arith

pub is_end-requires : goal.is_end-requires
is_end-requires g c = omega arith

pub end-requires : goal.end-requires
end-requires g c κs = grind arith

pub returns-in-Ok-end-clause-number : goal.returns-in-Ok-end-clause-number
returns-in-Ok-end-clause-number g c = grind arith

pub returns-in-Err-end-clause-number : goal.returns-in-Err-end-clause-number
returns-in-Err-end-clause-number g c = grind arith

pub overflow_add-self : goal.overflow_add-self
overflow_add-self g c = grind arith

pub returns-clause-number : goal.returns-clause-number
returns-clause-number g c = grind arith
