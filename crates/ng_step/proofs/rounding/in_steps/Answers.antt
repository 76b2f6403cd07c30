use Rattle.std.proofs.Common.{arith, refl}
use Rattle.std.proofs.lemmas.Int.{ints}
use Rattle.ng_step.proofs.RoundLemmas.{in_steps_below, in_steps_above, steps_small}
use Rattle.ng_step.proofs.rounding.in_steps.Goals as goal

pub returns-then-nm-lt0-clause-value : goal.returns-then-nm-lt0-clause-value
returns-then-nm-lt0-clause-value c =
    let range = c.nm-nm.ensures.range in
    in_steps_below c.args.at c.args.step_nm c.unsigned_abs.result _ (omega (arith, ints)) (omega (arith, ints)) refl
    (steps_small _ _ c.requires (omega (arith, ints)))

pub returns-else-nm-lt0-clause-value : goal.returns-else-nm-lt0-clause-value
returns-else-nm-lt0-clause-value c =
    let range = c.nm-nm.ensures.range in
    in_steps_above c.args.at c.args.step_nm c.unsigned_abs.result _ (omega (arith, ints)) (omega (arith, ints)) refl
    (steps_small _ _ c.requires (omega (arith, ints)))
