use Rattle.ng_step.proofs.CentreLemmas.{centred_is}
use Rattle.ng_step.proofs.centred.CentredArc.of.Goals as goal

pub returns-clause-value : goal.returns-clause-value
returns-clause-value c =
    centred_is c.args.geometry.now c.args.arc.now c.programmed-start.result c.programmed.result
    c.rounded_start.result c.step_a-step_a.result c.step_b-step_b.result c.square.result
    c.programmed-start.ensures.value c.step_a-step_a.ensures.value c.step_b-step_b.ensures.value
    c.square.ensures.value c.programmed.ensures.value c.rounded_start.ensures.value
