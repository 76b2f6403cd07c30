use Rattle.std.proofs.Common.{arith}
use Rattle.std.proofs.lemmas.Int.{ints}
use Rattle.ng_step.proofs.RoundLemmas.{square_small}
use Rattle.ng_step.proofs.distance.square_of.Goals as goal

pub returns-clause-size : goal.returns-clause-size
returns-clause-size c =
    let one = c.nm.ensures.range in
    let two = c.nm-2.ensures.range in
    square_small c.unsigned_abs-size.result (omega (arith, ints))
