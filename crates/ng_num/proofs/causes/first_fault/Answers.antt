use Rattle.std.proofs.Common.{arith}
use Rattle.std.proofs.lemmas.Grind.{common_steps}
use Rattle.ng_num.proofs.FirstFaultLemmas.{none_holds, is_first}
use Rattle.ng_num.proofs.causes.first_fault.Goals as goal

pub returns-then-fault-clause-first : goal.returns-then-fault-clause-first
returns-then-fault-clause-first c = is_first c.args.faults.now _ (grind (arith, common_steps))

pub returns-clause-first : goal.returns-clause-first
returns-clause-first c = none_holds c.args.faults.now (grind (arith, common_steps))
