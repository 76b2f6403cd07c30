use Rattle.std.proofs.Common.{arith, rules}
use Rattle.ng_block.proofs.motion.program_coordinate.Goals as goal

pub to_program-requires : goal.to_program-requires
to_program-requires c = omega arith

pub branch-current-requires : goal.branch-current-requires
branch-current-requires c κs = search rules

pub from_residual-requires : goal.from_residual-requires
from_residual-requires c κs = search rules

pub returns-in_err-current-in-Incremental : goal.returns-in_err-current-in-Incremental
returns-in_err-current-in-Incremental c = grind arith

pub add-requires : goal.add-requires
add-requires c = omega arith

pub returns-in-Absolute : goal.returns-in-Absolute
returns-in-Absolute c = grind arith

pub returns-in_ok-current-in-Incremental : goal.returns-in_ok-current-in-Incremental
returns-in_ok-current-in-Incremental c = grind arith
