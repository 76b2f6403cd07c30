use Rattle.std.proofs.Common.{arith}
use Rattle.ng_cycles.proofs.canned.seconds_of.Goals as goal

pub zero-requires : goal.zero-requires
zero-requires c = omega arith

pub count-requires : goal.count-requires
count-requires c = omega arith

pub returns-in-None : goal.returns-in-None
returns-in-None c = grind arith

pub returns-then-count-lt0 : goal.returns-then-count-lt0
returns-then-count-lt0 c = grind arith

pub returns-else-count-lt0 : goal.returns-else-count-lt0
returns-else-count-lt0 c = grind arith
