use Rattle.std.proofs.lemmas.Grind.{common_steps}
use Rattle.std.proofs.Common.{arith, rules}
use Rattle.ng_cycles.proofs.heights.heights_from.Goals as goal

pub r_of-requires : goal.r_of-requires
r_of-requires c = omega arith

pub branch-r-requires : goal.branch-r-requires
branch-r-requires c κs = search rules

pub from_residual-requires : goal.from_residual-requires
from_residual-requires c κs = search rules

pub returns-in_err-r-in-Some : goal.returns-in_err-r-in-Some
returns-in_err-r-in-Some c = grind (arith, common_steps)

pub z_from-requires-clause-current : goal.z_from-requires-clause-current
z_from-requires-clause-current c = grind arith

pub z_from-requires-clause-r : goal.z_from-requires-clause-r
z_from-requires-clause-r c = grind arith

pub z_from-requires-clause-machine : goal.z_from-requires-clause-machine
z_from-requires-clause-machine c = grind arith

pub branch-z_from-requires : goal.branch-z_from-requires
branch-z_from-requires c κs = search rules

pub returns-in_err-z_from-in-Some-z : goal.returns-in_err-z_from-in-Some-z
returns-in_err-z_from-in-Some-z c = grind (arith, common_steps)

pub returns : goal.returns
returns c = grind arith
