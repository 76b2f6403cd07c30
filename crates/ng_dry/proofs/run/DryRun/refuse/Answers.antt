use Rattle.std.proofs.Common.{arith, rules}
use Rattle.ng_dry.proofs.run.DryRun.refuse.Goals as goal

pub put_refusal-requires : goal.put_refusal-requires
put_refusal-requires g c κs = grind arith

pub returns-in-Err-clause-ended : goal.returns-in-Err-clause-ended
returns-in-Err-clause-ended g c = grind arith

pub returns-in-Err-clause-number : goal.returns-in-Err-clause-number
returns-in-Err-clause-number g c = grind arith

pub returns-clause-ended : goal.returns-clause-ended
returns-clause-ended g c = search rules

pub returns-clause-number : goal.returns-clause-number
returns-clause-number g c = grind arith
