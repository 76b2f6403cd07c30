use Rattle.std.proofs.Common.{arith}
use Rattle.ng_block.proofs.ends.put_end.Goals as goal

pub push-requires : goal.push-requires
push-requires c = grind arith

pub push-requires-2 : goal.push-requires-2
push-requires-2 c = grind arith

pub push-requires-3 : goal.push-requires-3
push-requires-3 c = grind arith

pub push-requires-4 : goal.push-requires-4
push-requires-4 c = grind arith

pub push-requires-5 : goal.push-requires-5
push-requires-5 c = grind arith

pub returns : goal.returns
returns c = grind arith
