use Rattle.std.proofs.Common.{arith, rules}
use Rattle.ng_session.proofs.loading.after_load.Goals as goal

pub copy-requires : goal.copy-requires
copy-requires g c κs = grind arith

pub branch-state-requires : goal.branch-state-requires
branch-state-requires g c κs = search rules

pub returns-in_err-state : goal.returns-in_err-state
returns-in_err-state g c = grind arith

pub clear_passing-requires : goal.clear_passing-requires
clear_passing-requires g c κs = grind arith

pub overflow_add-result : goal.overflow_add-result
overflow_add-result g c = grind arith

pub copy-requires-2 : goal.copy-requires-2
copy-requires-2 g c = omega arith

pub returns : goal.returns
returns g c = grind arith
