use Rattle.std.proofs.Common.{arith, ◌^◌, ◌∙◌}
use Rattle.std.proofs.lemmas.Int.{ints}
use Rattle.ng_step.proofs.RoundLemmas.{stored}
use Rattle.ng_step.proofs.CentreLemmas.{of_third_same, of_third_small}
use Rattle.ng_step.proofs.frame.Frame.across.Goals as goal

pub returns-clause-value : goal.returns-clause-value
returns-clause-value c =
    let small = of_third_small c.args.self.plane c.args.distance.now (2 ^ 50) c.requires in
    let is = of_third_same c.args.self.plane c.args.distance.now c.of_third.result c.requires c.of_third.ensures in
    stored c.of_third.result (omega (arith, ints)) ∙ is

pub returns-clause-size : goal.returns-clause-size
returns-clause-size c =
    let small = of_third_small c.args.self.plane c.args.distance.now (2 ^ 50) c.requires in
    let is = of_third_same c.args.self.plane c.args.distance.now c.of_third.result c.requires c.of_third.ensures in
    omega (arith, ints)
