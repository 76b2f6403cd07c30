use Rattle.std.proofs.Common.{◌++◌, ◌∷◌, ◌∙◌, ap, sym, arith}
use Rattle.std.specs.Str.Lines.{strip_carriage_return}
use Rattle.ng_block.proofs.LineLemmas.{empty_is, too_long_to_fit}
use Rattle.ng_text.proofs.NewlineLemmas.{HasNoNewline-append}
use Rattle.ng_dry.proofs.RunPartLemmas.{LineStepSpec-line, rest_of-long}
use Rattle.ng_dry.proofs.splitting.LineSplitter.end_line.Goals as goal

pub returns-then-is_empty-clause-step : goal.returns-then-is_empty-clause-step
returns-then-is_empty-clause-step g c =
    let nothing = empty_is c.args.self.now.partial.items c.is_empty.result c.is_empty.ensures c.if-is_empty.true in
    LineStepSpec-line _ _ c.args.self.now.run c.execute.new.self c.args.self.now.partial.items c.args.line.now
    c.args.self.now.partial.items c.without_return.result.now c.execute.result
    (HasNoNewline-append _ _ c.requires.partial c.requires.line) (c.without_return.ensures
    ∙ ap (λ l. strip_carriage_return (l ++ c.args.line.now)) (sym nothing)) nothing c.execute.ensures.step

pub returns-in-Err-clause-step : goal.returns-in-Err-clause-step
returns-in-Err-clause-step g c =
    let long = too_long_to_fit c.args.self.now.partial.items c.args.line.now c.in-Err.ensures.variant.1 in
    c.refuse_long.ensures.step _
    (λ more. rest_of-long c.args.self.now.run c.args.self.now.partial.items c.args.line.now (10 ∷ more)
    (HasNoNewline-append _ _ c.requires.partial c.requires.line) long)

pub returns-in-Ok-clause-step : goal.returns-in-Ok-clause-step
returns-in-Ok-clause-step g c =
    LineStepSpec-line _ _ c.args.self.now.run c.execute-ended.new.self c.args.self.now.partial.items c.args.line.now
    c.clear.new.self.items c.without_return-in-Ok.result.now c.execute-ended.result
    (HasNoNewline-append _ _ c.requires.partial c.requires.line) (c.without_return-in-Ok.ensures
    ∙ ap strip_carriage_return (c.as_slice.ensures.value ∙ c.in-Ok.ensures.ok)) c.clear.ensures
    c.execute-ended.ensures.step

pub is_empty-requires : goal.is_empty-requires
is_empty-requires g c = omega arith

pub without_return-requires : goal.without_return-requires
without_return-requires g c = omega arith

pub execute-requires : goal.execute-requires
execute-requires g c = omega arith

pub returns-then-is_empty-clause-partial : goal.returns-then-is_empty-clause-partial
returns-then-is_empty-clause-partial g c = grind arith

pub returns-then-is_empty-clause-number : goal.returns-then-is_empty-clause-number
returns-then-is_empty-clause-number g c = omega arith

pub try_extend_from_slice-requires : goal.try_extend_from_slice-requires
try_extend_from_slice-requires g c = omega arith

pub refuse_long-requires : goal.refuse_long-requires
refuse_long-requires g c κs = grind arith

pub as_slice-requires : goal.as_slice-requires
as_slice-requires g c = omega arith

pub without_return-requires-in-Ok : goal.without_return-requires-in-Ok
without_return-requires-in-Ok g c = omega arith

pub execute-ended-requires : goal.execute-ended-requires
execute-ended-requires g c = omega arith

pub clear-requires : goal.clear-requires
clear-requires g c = omega arith

pub returns-in-Err-clause-partial : goal.returns-in-Err-clause-partial
returns-in-Err-clause-partial g c = grind arith

pub returns-in-Err-clause-number : goal.returns-in-Err-clause-number
returns-in-Err-clause-number g c = omega arith

pub returns-in-Ok-clause-partial : goal.returns-in-Ok-clause-partial
returns-in-Ok-clause-partial g c = grind arith

pub returns-in-Ok-clause-number : goal.returns-in-Ok-clause-number
returns-in-Ok-clause-number g c = omega arith
