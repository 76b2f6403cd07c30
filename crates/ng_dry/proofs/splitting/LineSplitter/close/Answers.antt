use Rattle.std.proofs.lemmas.Grind.{common_steps}
use Rattle.std.proofs.Common.{◌∷◌, arith}
use Rattle.ng_dry.specs.Private.Parts.{due}
use Rattle.ng_dry.proofs.CloseLemmas.{DryRunSpec-stepped, DryRunSpec-ends, DryRunSpec-breaks, rest_of-alone, not_empty}
use Rattle.ng_dry.proofs.splitting.LineSplitter.close.Goals as goal

pub returns-in-Ok-None : goal.returns-in-Ok-None
returns-in-Ok-None g c =
    let here = c.args.self.now in
    let some = not_empty here.partial.items c.is_empty.result c.is_empty.ensures c.if-is_empty.false in
    DryRunSpec-stepped _ _ _ (λ more. due here.run (c.as_slice.result.now ∷ more)) (λ more. due c.execute.new.self more) _ _
    (rest_of-alone here.run here.partial.items c.as_slice.result.now c.requires.partial some c.as_slice.ensures.value)
    (rw c.in-Ok-None.field-0-is at c.in-Ok-None.ensures.step) c.end_of_text-in-Ok-None.ensures

pub returns-in-Ok-Some : goal.returns-in-Ok-Some
returns-in-Ok-Some g c =
    let here = c.args.self.now in
    let some = not_empty here.partial.items c.is_empty.result c.is_empty.ensures c.if-is_empty.false in
    DryRunSpec-ends _ _ (λ more. due here.run (c.as_slice.result.now ∷ more)) _ c.in-Ok-Some.ended
    (rest_of-alone here.run here.partial.items c.as_slice.result.now c.requires.partial some c.as_slice.ensures.value)
    (rw c.in-Ok-Some.field-0-is at c.in-Ok-Some.ensures.step)

pub returns-in-Err : goal.returns-in-Err
returns-in-Err g c =
    let here = c.args.self.now in
    let some = not_empty here.partial.items c.is_empty.result c.is_empty.ensures c.if-is_empty.false in
    DryRunSpec-breaks _ _ (λ more. due here.run (c.as_slice.result.now ∷ more)) _ c.in-Err.broken
    (rest_of-alone here.run here.partial.items c.as_slice.result.now c.requires.partial some c.as_slice.ensures.value) c.in-Err.ensures.step

pub is_empty-requires : goal.is_empty-requires
is_empty-requires g c = omega arith

pub end_of_text-requires : goal.end_of_text-requires
end_of_text-requires g c κs = grind arith

pub returns-then-is_empty : goal.returns-then-is_empty
returns-then-is_empty g c = grind (arith, common_steps)

pub as_slice-requires : goal.as_slice-requires
as_slice-requires g c = omega arith

pub execute-requires : goal.execute-requires
execute-requires g c = omega arith

pub end_of_text-requires-in-Ok-None : goal.end_of_text-requires-in-Ok-None
end_of_text-requires-in-Ok-None g c κs = grind arith
