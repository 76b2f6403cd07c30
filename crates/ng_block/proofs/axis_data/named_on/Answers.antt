use Rattle.std.proofs.Common.{arith}
use Rattle.ng_block.proofs.axis_data.named_on.Goals as goal

pub x-requires : goal.x-requires
x-requires c = omega arith

pub y-requires : goal.y-requires
y-requires c = omega arith

pub z-requires : goal.z-requires
z-requires c = omega arith

pub unit_after-requires : goal.unit_after-requires
unit_after-requires c = omega arith

pub of-requires : goal.of-requires
of-requires c = omega arith

pub returns : goal.returns
returns c = grind arith
