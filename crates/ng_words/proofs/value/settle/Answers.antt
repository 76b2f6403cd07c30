use Rattle.std.proofs.Common.{arith, ap, length, length-append}
use Rattle.ng_words.proofs.WalkPlaceLemmas.{settling_goes, settling_ends, index_waits, one_less}
use Rattle.ng_words.proofs.value.settle.Goals as goal

pub loop-stack-preserved : goal.loop-stack-preserved
loop-stack-preserved c =
    let some = index_waits _ _ _ c.nearest.ensures c.is_index.ensures c.loop-stack-test.true in
    let less = one_less _ _ some c.pop.ensures.rest in (
      settling_goes _ _ _ _ _ _ _ _ c.loop-stack.invariant.0 c.nearest.ensures c.is_index.ensures c.loop-stack-test.true c.pop.ensures.rest c.push_node.ensures,
      omega (arith, simp length-append at (ap length c.push_node.ensures)),
    )

pub returns-clause-settles : goal.returns-clause-settles
returns-clause-settles c = settling_ends _ _ _ _ _ _ c.loop-stack.invariant.0 c.nearest.ensures c.is_index.ensures c.loop-stack-test.false
