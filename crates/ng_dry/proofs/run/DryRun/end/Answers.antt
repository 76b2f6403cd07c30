use Rattle.std.proofs.Common.{arith, rules}
use Rattle.ng_dry.proofs.run.DryRun.end.Goals as goal

pub flush-requires : goal.flush-requires
flush-requires g c κs = grind arith

pub returns-clause-ended : goal.returns-clause-ended
returns-clause-ended g c = search rules

pub returns-clause-number : goal.returns-clause-number
returns-clause-number g c = grind arith
