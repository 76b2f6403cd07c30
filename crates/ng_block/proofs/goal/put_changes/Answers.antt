use Rattle.std.proofs.lemmas.Grind.{common_steps}
use Rattle.std.proofs.Common.{arith, rules}
use Rattle.ng_block.proofs.goal.put_changes.Goals as goal

pub loop-change-init : goal.loop-change-init
loop-change-init c = search rules

pub offset_bounds-from-change-index : goal.offset_bounds-from-change-index
offset_bounds-from-change-index c = omega arith

pub bounds-from-change-index : goal.bounds-from-change-index
bounds-from-change-index c = omega arith

pub push-requires : goal.push-requires
push-requires c = omega arith

pub loop-change-smaller : goal.loop-change-smaller
loop-change-smaller c = omega arith

pub loop-change-preserved : goal.loop-change-preserved
loop-change-preserved c = grind (arith, common_steps)

pub returns-clause-items : goal.returns-clause-items
returns-clause-items c = grind (arith, common_steps)

pub returns-clause-count : goal.returns-clause-count
returns-clause-count c = omega arith
