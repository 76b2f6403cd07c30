use Rattle.std.proofs.Common.{arith}
use Rattle.ng_pace.proofs.ConeLemmas.{rise-push, rise_fits, length-push}
use Rattle.ng_pace.proofs.cone.Cone.rise_to.Goals as goal

pub returns : goal.returns
returns c = λ slack steps is long fits. record {
  steps_are = rise-push c.args.self.now.at c.rise_of.result c.saturating_add.result steps c.args.step is.at c.rise_of.ensures
      (omega (arith, c.saturating_add.ensures, rise_fits c.args.self.now.at c.rise_of.result steps c.args.step is.at c.rise_of.ensures));
  pulses_are = omega (arith, length-push steps c.args.step);
}
