use Rattle.std.proofs.lemmas.Grind.{common_steps}
use Rattle.std.proofs.Common.{arith, rules}
use Rattle.ng_cycles.proofs.heights.heights_at.Goals as goal

pub to_machine-requires : goal.to_machine-requires
to_machine-requires c = omega arith

pub branch-to_machine-requires : goal.branch-to_machine-requires
branch-to_machine-requires c κs = search rules

pub from_residual-requires : goal.from_residual-requires
from_residual-requires c κs = search rules

pub returns-in_err-to_machine-in-Some : goal.returns-in_err-to_machine-in-Some
returns-in_err-to_machine-in-Some c = grind arith

pub to_machine-requires-in-Some-z : goal.to_machine-requires-in-Some-z
to_machine-requires-in-Some-z c = omega arith

pub branch-to_machine-requires-in-Some-z : goal.branch-to_machine-requires-in-Some-z
branch-to_machine-requires-in-Some-z c κs = search rules

pub returns-in_err-to_machine-in-Some-z : goal.returns-in_err-to_machine-in-Some-z
returns-in_err-to_machine-in-Some-z c = grind (arith, common_steps)

pub returns : goal.returns
returns c = grind arith
