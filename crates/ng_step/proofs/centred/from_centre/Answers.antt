use Rattle.std.proofs.Common.{arith}
use Rattle.std.proofs.lemmas.Int.{ints}
use Rattle.ng_step.proofs.RoundLemmas.{stored}
use Rattle.ng_step.proofs.CentreLemmas.{from_centre_is}
use Rattle.ng_step.proofs.centred.from_centre.Goals as goal

pub returns-clause-value : goal.returns-clause-value
returns-clause-value c =
    let range_a = c.nm.ensures.range in
    let range_b = c.nm-2.ensures.range in
    let size = c.mirrored.ensures.size in
    from_centre_is c.args.arc.now c.args.a c.args.b _ _ c.mirrored.result _ (omega (arith, ints))
    (stored c.mirrored.result (omega (arith, ints))) c.mirrored.ensures.value (omega (arith, ints))
