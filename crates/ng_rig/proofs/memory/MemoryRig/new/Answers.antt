use Rattle.std.proofs.lemmas.Grind.{common_steps}
use Rattle.std.proofs.Common.{arith, rules}
use Rattle.ng_rig.proofs.memory.MemoryRig.new.Goals as goal

pub new-first-requires : goal.new-first-requires
new-first-requires g c κs = search rules

pub resize-requires : goal.resize-requires
resize-requires g c κs = search rules

pub branch-resize-requires : goal.branch-resize-requires
branch-resize-requires g c κs = search rules

pub drop-first-requires : goal.drop-first-requires
drop-first-requires g c κs = search rules

pub returns-in_err-resize-clause-size : goal.returns-in_err-resize-clause-size
returns-in_err-resize-clause-size g c = grind arith

pub returns-in_err-resize-clause-zeros : goal.returns-in_err-resize-clause-zeros
returns-in_err-resize-clause-zeros g c = grind arith

pub returns-in_err-resize-clause-failures : goal.returns-in_err-resize-clause-failures
returns-in_err-resize-clause-failures g c = grind arith

pub holding-requires : goal.holding-requires
holding-requires g c = grind arith

pub returns-clause-size : goal.returns-clause-size
returns-clause-size g c = grind arith

pub returns-clause-zeros : goal.returns-clause-zeros
returns-clause-zeros g c = grind (arith, common_steps)

pub returns-clause-failures : goal.returns-clause-failures
returns-clause-failures g c = grind arith
