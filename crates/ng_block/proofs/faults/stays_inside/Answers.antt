use Rattle.std.proofs.Common.{arith}
use Rattle.ng_block.proofs.faults.stays_inside.Goals as goal

pub contains-requires : goal.contains-requires
contains-requires c = omega arith

pub extremes_inside-requires : goal.extremes_inside-requires
extremes_inside-requires c = omega arith
