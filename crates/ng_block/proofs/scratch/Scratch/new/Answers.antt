use Rattle.std.proofs.Common.{arith}
use Rattle.ng_block.proofs.scratch.Scratch.new.Goals as goal

pub new-requires : goal.new-requires
new-requires c = omega arith

pub new-requires-2 : goal.new-requires-2
new-requires-2 c = omega arith

pub nothing-requires : goal.nothing-requires
nothing-requires c = omega arith

pub none-requires : goal.none-requires
none-requires c = omega arith

pub returns-clause-commands : goal.returns-clause-commands
returns-clause-commands c = grind arith

pub returns-clause-segments : goal.returns-clause-segments
returns-clause-segments c = grind arith
