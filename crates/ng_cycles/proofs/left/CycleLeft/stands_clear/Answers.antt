use Rattle.std.proofs.Common.{arith}
use Rattle.ng_cycles.proofs.left.CycleLeft.stands_clear.Goals as goal

pub drill-drill-requires : goal.drill-drill-requires
drill-drill-requires c = omega arith

pub nm-requires : goal.nm-requires
nm-requires c = omega arith

pub nm-requires-2 : goal.nm-requires-2
nm-requires-2 c = omega arith

pub eq-requires : goal.eq-requires
eq-requires c = omega arith

pub returns-else-nm : goal.returns-else-nm
returns-else-nm c = grind arith
