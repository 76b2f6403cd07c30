use Rattle.std.proofs.Common.{arith}
use Rattle.ng_block.proofs.ends.stop_outputs.Goals as goal

pub ends-requires : goal.ends-requires
ends-requires c = omega arith

pub switched_off-requires : goal.switched_off-requires
switched_off-requires c = omega arith

pub returns-then-ends : goal.returns-then-ends
returns-then-ends c = grind arith

pub returns-else-ends : goal.returns-else-ends
returns-else-ends c = grind arith
