use Rattle.std.proofs.Common.{◌∙◌, sym}
use Rattle.ng_step.proofs.WalkableLemmas.{walkable}
use Rattle.ng_step.proofs.HandLemmas.{arc_small, arc_large}
use Rattle.ng_step.proofs.stepper.Stepper.over_arc.Goals as goal

pub returns-then-is_small : goal.returns-then-is_small
returns-then-is_small c =
    c.over_line.ensures ∙ arc_small c.args.geometry.now c.args.arc.now c.of-centred.result
    c.of-centred.ensures.value (sym c.is_small.ensures ∙ c.if-is_small.true)

pub over_large_arc-requires-clause-walkable : goal.over_large_arc-requires-clause-walkable
over_large_arc-requires-clause-walkable c = walkable c.of-centred.result c.of-centred.ensures.sizes (sym c.is_small.ensures ∙ c.if-is_small.false)

pub returns : goal.returns
returns c =
    c.over_large_arc.ensures ∙ arc_large c.args.geometry.now c.args.arc.now c.of-centred.result
    c.between-distance.result c.of-centred.ensures.value (sym c.is_small.ensures ∙ c.if-is_small.false)
    c.between-distance.ensures.value
