use Rattle.std.proofs.Common.{arith}
use Rattle.ng_cycles.proofs.left.CycleLeft.feed.Goals as goal

pub at_height-end-requires : goal.at_height-end-requires
at_height-end-requires c = omega arith

pub drill-requires : goal.drill-requires
drill-requires c = omega arith

pub move_to-requires : goal.move_to-requires
move_to-requires c = omega arith

pub returns-clause-segment : goal.returns-clause-segment
returns-clause-segment c = grind arith

pub returns-clause-left : goal.returns-clause-left
returns-clause-left c = grind arith
