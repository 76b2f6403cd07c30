use Rattle.std.proofs.Common.{arith, sym, ap, length, length-append}
use Rattle.ng_words.proofs.WalkPlaceLemmas.{gathering_goes, gathering_ends, operation_waits, one_less}
use Rattle.ng_words.proofs.value.gather.Goals as goal

pub loop-operation-preserved : goal.loop-operation-preserved
loop-operation-preserved c =
    let some = operation_waits _ _ _ _ c.nearest.ensures (sym c.in-Some.ensures) in
    let less = one_less _ _ some c.pop.ensures.rest in (
      gathering_goes _ _ _ _ _ _ _ _ _ c.loop-operation.invariant.0 c.nearest.ensures (sym c.in-Some.ensures) c.pop.ensures.rest c.push_node.ensures,
      omega (arith, simp length-append at (ap length c.push_node.ensures)),
    )

pub returns-clause-gathers : goal.returns-clause-gathers
returns-clause-gathers c = gathering_ends _ _ _ _ _ _ c.loop-operation.invariant.0 c.nearest.ensures (sym c.in_default.ensures)
