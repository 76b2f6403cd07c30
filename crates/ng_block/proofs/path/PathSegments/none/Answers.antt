use Rattle.std.proofs.Common.{arith}
use Rattle.ng_block.proofs.path.PathSegments.none.Goals as goal

pub returns : goal.returns
returns c = grind arith
