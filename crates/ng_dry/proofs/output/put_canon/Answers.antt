use Rattle.std.proofs.lemmas.Grind.{common_steps}
use Rattle.std.proofs.Common.{arith}
use Rattle.ng_dry.proofs.output.put_canon.Goals as goal

pub print-requires : goal.print-requires
print-requires g c κs = grind arith

pub relieve-requires : goal.relieve-requires
relieve-requires g c κs = grind arith

pub break_off-requires : goal.break_off-requires
break_off-requires g c κs = grind arith

pub returns-in-Ok : goal.returns-in-Ok
returns-in-Ok g c = grind arith

pub returns-in-Err : goal.returns-in-Err
returns-in-Err g c = grind (arith, common_steps)
