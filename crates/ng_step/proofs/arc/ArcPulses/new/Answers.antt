use Rattle.std.proofs.Common.{arith, refl}
use Rattle.std.proofs.lemmas.Int.{ints}
use Rattle.ng_step.proofs.LineStepLemmas.{axis_first}
use Rattle.ng_step.proofs.PulseLemmas.{onward_count}
use Rattle.ng_step.proofs.arc.ArcPulses.new.Goals as goal

pub invariant_of-result : goal.invariant_of-result
invariant_of-result c = record {
  whole = refl;
  small = omega (arith, ints);
  left = omega arith;
  walks = c.requires.walks;
  onward = onward_count c.args.count _ c.requires.count c.new.ensures.forward;
  arc = λ some. axis_first _ _ (c.new.ensures.axis some);
  third = λ some. axis_first _ _ (c.new-2.ensures.axis some);
}
