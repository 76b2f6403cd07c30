use Rattle.std.proofs.Common.{arith, rules}
use Rattle.ng_block.proofs.cycles.cycle_path.Goals as goal

pub own_words-requires : goal.own_words-requires
own_words-requires c = omega arith

pub branch-own-requires : goal.branch-own-requires
branch-own-requires c κs = search rules

pub from_residual-requires : goal.from_residual-requires
from_residual-requires c κs = search rules

pub named_on-requires : goal.named_on-requires
named_on-requires c = omega arith

pub branch-x-requires : goal.branch-x-requires
branch-x-requires c κs = search rules

pub from_residual-requires-in_err-x : goal.from_residual-requires-in_err-x
from_residual-requires-in_err-x c κs = search rules

pub repeats-requires : goal.repeats-requires
repeats-requires c = omega arith

pub kept_for-kept-requires : goal.kept_for-kept-requires
kept_for-kept-requires c = omega arith

pub context_of-context-requires : goal.context_of-context-requires
context_of-context-requires c = omega arith

pub of-requires : goal.of-requires
of-requires c = omega arith

pub branch-canned-requires : goal.branch-canned-requires
branch-canned-requires c κs = search rules

pub from_residual-requires-in_err-canned : goal.from_residual-requires-in_err-canned
from_residual-requires-in_err-canned c κs = search rules
