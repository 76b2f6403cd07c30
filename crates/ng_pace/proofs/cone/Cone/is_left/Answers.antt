use Rattle.std.proofs.Common.{arith}
use Rattle.ng_pace.proofs.ConeLemmas.{straight-push, straight-within}
use Rattle.ng_pace.proofs.cone.Cone.is_left.Goals as goal

pub returns-then-is_below-clause-leaves : goal.returns-then-is_below-clause-leaves
returns-then-is_below-clause-leaves c = λ slack steps is long fits _ straight.
    let within = straight-within slack c.args.self.now c.rise_to-rise.result steps c.args.step is (c.rise_to-rise.ensures slack steps is long fits) straight in
    omega (arith, within.0, c.is_below.ensures.below c.if-is_below.true)

pub returns-else-is_below-clause-stays : goal.returns-else-is_below-clause-stays
returns-else-is_below-clause-stays c = λ slack steps is long fits stays.
    straight-push slack c.args.self.now c.rise_to-rise.result steps c.args.step is (c.rise_to-rise.ensures slack steps is long fits)
    (c.is_below.ensures.above c.if-is_below.false) (c.is_below-else-is_below.ensures.above stays)

pub returns-else-is_below-clause-leaves : goal.returns-else-is_below-clause-leaves
returns-else-is_below-clause-leaves c = λ slack steps is long fits leaves straight.
    let within = straight-within slack c.args.self.now c.rise_to-rise.result steps c.args.step is (c.rise_to-rise.ensures slack steps is long fits) straight in
    omega (arith, within.1, c.is_below-else-is_below.ensures.below leaves)
