use Rattle.std.proofs.Common.{arith}
use Rattle.ng_schedule.proofs.giving.Schedule.take_read.Goals as goal

pub take_item-requires : goal.take_item-requires
take_item-requires g c κs = grind arith

pub returns-in-Ok-clause-step : goal.returns-in-Ok-clause-step
returns-in-Ok-clause-step g c = grind arith

pub returns-in-Ok-clause-shown : goal.returns-in-Ok-clause-shown
returns-in-Ok-clause-shown g c = grind arith

pub returns-in-Err-clause-step : goal.returns-in-Err-clause-step
returns-in-Err-clause-step g c = grind arith

pub returns-in-Err-clause-shown : goal.returns-in-Err-clause-shown
returns-in-Err-clause-shown g c = grind arith
