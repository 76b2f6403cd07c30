use Rattle.std.proofs.Common.{arith, rules}
use Rattle.ng_block.proofs.scratch.Scratch.take_values.Goals as goal

pub last_comment-comment-requires : goal.last_comment-comment-requires
last_comment-comment-requires g c = omega arith

pub slots-slots-requires : goal.slots-slots-requires
slots-slots-requires g c = omega arith

pub overflow_cast-slots : goal.overflow_cast-slots
overflow_cast-slots g c = omega arith

pub check-requires : goal.check-requires
check-requires g c = omega arith

pub branch-check-requires : goal.branch-check-requires
branch-check-requires g c κs = search rules

pub from_residual-requires : goal.from_residual-requires
from_residual-requires g c κs = search rules

pub as_slice-assignments-requires : goal.as_slice-assignments-requires
as_slice-assignments-requires g c = omega arith

pub find_goal-requires-clause-short : goal.find_goal-requires-clause-short
find_goal-requires-clause-short g c = omega arith

pub find_goal-requires-clause-slot : goal.find_goal-requires-clause-slot
find_goal-requires-clause-slot g c = grind arith

pub branch-find_goal-requires : goal.branch-find_goal-requires
branch-find_goal-requires g c κs = search rules

pub from_residual-requires-in_err-find_goal : goal.from_residual-requires-in_err-find_goal
from_residual-requires-in_err-find_goal g c κs = search rules

pub finish-requires : goal.finish-requires
finish-requires g c = grind arith
