use Rattle.std.proofs.Common.{arith, ap, ◌∙◌, ◌/◌, rules}
use Rattle.std.proofs.lemmas.Int.{ints}
use Rattle.ng_step.proofs.RoundLemmas.{whole_below, whole_above, div_small, below_stored, above_stored}
use Rattle.ng_step.proofs.rounding.whole_steps.Goals as goal

pub returns-then-to-from-clause-value : goal.returns-then-to-from-clause-value
returns-then-to-from-clause-value c = λ n is.
    below_stored _ (div_small c.unsigned_abs.result c.args.step_nm c.requires.step (omega (arith, ints)))
    ∙ whole_below _ n c.args.step_nm _ c.requires.step is (ap (λ x. x / c.args.step_nm) (omega (arith, ints))) (omega (arith, ints))

pub returns-else-to-from-clause-value : goal.returns-else-to-from-clause-value
returns-else-to-from-clause-value c = λ n is.
    above_stored _ (div_small c.unsigned_abs.result c.args.step_nm c.requires.step (omega (arith, ints)))
    ∙ whole_above _ n c.args.step_nm _ c.requires.step is (ap (λ x. x / c.args.step_nm) (omega (arith, ints))) (omega (arith, ints))

pub overflow_sub-to : goal.overflow_sub-to
overflow_sub-to c = grind arith

pub unsigned_abs-requires : goal.unsigned_abs-requires
unsigned_abs-requires c = omega arith

pub nonzero_div-steps : goal.nonzero_div-steps
nonzero_div-steps c = omega arith

pub overflow_cast-steps : goal.overflow_cast-steps
overflow_cast-steps c = grind arith

pub overflow_sub-result : goal.overflow_sub-result
overflow_sub-result c = grind arith

pub returns-then-to-from-clause-size : goal.returns-then-to-from-clause-size
returns-then-to-from-clause-size c = search rules

pub returns-else-to-from-clause-size : goal.returns-else-to-from-clause-size
returns-else-to-from-clause-size c = grind arith
