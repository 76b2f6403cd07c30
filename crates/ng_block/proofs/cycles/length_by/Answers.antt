use Rattle.std.proofs.Common.{arith, rules}
use Rattle.ng_block.proofs.cycles.length_by.Goals as goal

pub nm_of-requires : goal.nm_of-requires
nm_of-requires c = omega arith

pub branch-nm_of-requires : goal.branch-nm_of-requires
branch-nm_of-requires c κs = search rules

pub from_residual-requires : goal.from_residual-requires
from_residual-requires c κs = search rules

pub returns-in_err-nm_of-in-Some : goal.returns-in_err-nm_of-in-Some
returns-in_err-nm_of-in-Some c = grind arith

pub returns-in-None : goal.returns-in-None
returns-in-None c = grind arith

pub returns-in_ok-nm_of-in-Some : goal.returns-in_ok-nm_of-in-Some
returns-in_ok-nm_of-in-Some c = grind arith
