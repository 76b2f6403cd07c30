use Rattle.std.proofs.Common.{arith}
use Rattle.ng_lines.proofs.reading.take_steps.Goals as goal

pub take_step-requires : goal.take_step-requires
take_step-requires c = omega arith

pub returns-in_default-clause-found : goal.returns-in_default-clause-found
returns-in_default-clause-found c = omega arith

pub returns-in_default-clause-only : goal.returns-in_default-clause-only
returns-in_default-clause-only c = grind arith

pub take_step-requires-2 : goal.take_step-requires-2
take_step-requires-2 c = omega arith

pub returns-in_default-take_step-clause-found : goal.returns-in_default-take_step-clause-found
returns-in_default-take_step-clause-found c = omega arith

pub returns-in_default-take_step-clause-only : goal.returns-in_default-take_step-clause-only
returns-in_default-take_step-clause-only c = grind arith

pub take_step-requires-3 : goal.take_step-requires-3
take_step-requires-3 c = omega arith

pub returns-in_default-take_step-2-clause-found : goal.returns-in_default-take_step-2-clause-found
returns-in_default-take_step-2-clause-found c = omega arith

pub returns-in_default-take_step-2-clause-only : goal.returns-in_default-take_step-2-clause-only
returns-in_default-take_step-2-clause-only c = grind arith

pub take_period-requires : goal.take_period-requires
take_period-requires c = omega arith

pub returns-in-Some-take_period-clause-found : goal.returns-in-Some-take_period-clause-found
returns-in-Some-take_period-clause-found c = grind arith

pub returns-in-Some-take_period-clause-only : goal.returns-in-Some-take_period-clause-only
returns-in-Some-take_period-clause-only c = grind arith

pub returns-in-None-clause-found : goal.returns-in-None-clause-found
returns-in-None-clause-found c = omega arith

pub returns-in-None-clause-only : goal.returns-in-None-clause-only
returns-in-None-clause-only c = grind arith
