use Rattle.std.proofs.Common.{arith, rules}
use Rattle.ng_block.proofs.scratch.Scratch.execute_unless_deleted.Goals as goal

pub is_deletable-requires : goal.is_deletable-requires
is_deletable-requires g c = omega arith

pub delete_line-requires : goal.delete_line-requires
delete_line-requires g c κs = grind arith

pub branch-delete_line-requires : goal.branch-delete_line-requires
branch-delete_line-requires g c κs = search rules

pub from_residual-requires : goal.from_residual-requires
from_residual-requires g c κs = search rules

pub returns-in_err-delete_line : goal.returns-in_err-delete_line
returns-in_err-delete_line g c = grind arith

pub returns-then-is_deletable : goal.returns-then-is_deletable
returns-then-is_deletable g c = grind arith

pub execute-requires : goal.execute-requires
execute-requires g c κs = grind arith

pub returns : goal.returns
returns g c = grind arith
