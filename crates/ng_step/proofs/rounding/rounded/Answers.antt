use Rattle.std.proofs.Common.{arith, refl, ◌∙◌}
use Rattle.std.proofs.lemmas.Int.{ints}
use Rattle.ng_step.proofs.RoundLemmas.{product_same, stored, stored_near}
use Rattle.ng_step.proofs.rounding.rounded.Goals as goal

pub overflow_mul-result : goal.overflow_mul-result
overflow_mul-result c =
    let p = product_same c.in_steps.result _ c.args.at c.args.step_nm c.in_steps.ensures.value
    c.in_steps.ensures.size c.requires.some c.requires.most c.in_steps.ensures.range refl in
    let small = p.1 in
    omega (arith, ints)

pub returns-clause-value : goal.returns-clause-value
returns-clause-value c =
    let p = product_same c.in_steps.result _ c.args.at c.args.step_nm c.in_steps.ensures.value
    c.in_steps.ensures.size c.requires.some c.requires.most c.in_steps.ensures.range refl in
    let small = p.1 in
    stored _ (omega arith) ∙ p.0

pub returns-clause-near : goal.returns-clause-near
returns-clause-near c =
    let p = product_same c.in_steps.result _ c.args.at c.args.step_nm c.in_steps.ensures.value
    c.in_steps.ensures.size c.requires.some c.requires.most c.in_steps.ensures.range refl in
    let small = p.1 in
    stored_near _ c.args.at c.args.step_nm small p.2

pub returns-clause-size : goal.returns-clause-size
returns-clause-size c =
    let p = product_same c.in_steps.result _ c.args.at c.args.step_nm c.in_steps.ensures.value
    c.in_steps.ensures.size c.requires.some c.requires.most c.in_steps.ensures.range refl in
    let small = p.1 in
    omega (arith, ints)
