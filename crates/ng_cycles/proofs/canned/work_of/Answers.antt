use Rattle.std.proofs.Common.{arith, rules}
use Rattle.ng_cycles.proofs.canned.work_of.Goals as goal

pub seconds_of-requires : goal.seconds_of-requires
seconds_of-requires c = omega arith

pub branch-seconds_of-requires : goal.branch-seconds_of-requires
branch-seconds_of-requires c κs = search rules

pub from_residual-requires : goal.from_residual-requires
from_residual-requires c κs = search rules

pub pecking-requires : goal.pecking-requires
pecking-requires c = omega arith

pub seconds_of-requires-in-BoringWithStop : goal.seconds_of-requires-in-BoringWithStop
seconds_of-requires-in-BoringWithStop c = omega arith

pub boring_with_stop-requires : goal.boring_with_stop-requires
boring_with_stop-requires c = omega arith

pub seconds_of-requires-in-BoringWithDwell : goal.seconds_of-requires-in-BoringWithDwell
seconds_of-requires-in-BoringWithDwell c = omega arith

pub returns-in-Drilling-clause-work : goal.returns-in-Drilling-clause-work
returns-in-Drilling-clause-work c = grind arith

pub returns-in-Drilling-clause-deep : goal.returns-in-Drilling-clause-deep
returns-in-Drilling-clause-deep c = omega arith

pub returns-in-PeckDrilling-clause-work : goal.returns-in-PeckDrilling-clause-work
returns-in-PeckDrilling-clause-work c = grind arith

pub returns-in-PeckDrilling-clause-deep : goal.returns-in-PeckDrilling-clause-deep
returns-in-PeckDrilling-clause-deep c = grind arith

pub returns-in-Boring-clause-work : goal.returns-in-Boring-clause-work
returns-in-Boring-clause-work c = grind arith

pub returns-in-Boring-clause-deep : goal.returns-in-Boring-clause-deep
returns-in-Boring-clause-deep c = omega arith
