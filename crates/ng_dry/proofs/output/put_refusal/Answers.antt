use Rattle.std.proofs.lemmas.Grind.{common_steps}
use Rattle.std.proofs.Common.{arith}
use Rattle.ng_dry.proofs.output.put_refusal.Goals as goal

pub print_refusal-requires : goal.print_refusal-requires
print_refusal-requires g c κs = grind arith

pub flush-requires : goal.flush-requires
flush-requires g c κs = grind arith

pub break_off-requires : goal.break_off-requires
break_off-requires g c κs = grind arith

pub returns-in-Ok-clause-drains : goal.returns-in-Ok-clause-drains
returns-in-Ok-clause-drains g c = grind arith

pub returns-in-Ok-clause-empty : goal.returns-in-Ok-clause-empty
returns-in-Ok-clause-empty g c = grind arith

pub returns-in-Err-clause-drains : goal.returns-in-Err-clause-drains
returns-in-Err-clause-drains g c = grind (arith, common_steps)

pub returns-in-Err-clause-empty : goal.returns-in-Err-clause-empty
returns-in-Err-clause-empty g c = omega arith
