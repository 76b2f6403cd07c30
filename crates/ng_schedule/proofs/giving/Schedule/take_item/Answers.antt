use Rattle.std.proofs.Common.{[], refl, arith}
use Rattle.ng_schedule.proofs.ScheduleRunLemmas.{HaltSpec-more, takes}
use Rattle.ng_schedule.proofs.giving.Schedule.take_item.Goals as goal

pub returns-in-Ok-clause-step : goal.returns-in-Ok-clause-step
returns-in-Ok-clause-step g c limits start bytes here =
    takes limits start _ bytes c.give_while_full.new.self _ c.args.item (c.in-Ok.ensures.step limits start bytes [] here) c.push.ensures refl refl refl refl

pub returns-in-Err-clause-step : goal.returns-in-Err-clause-step
returns-in-Err-clause-step g c limits start bytes here = HaltSpec-more limits start _ bytes _ c.give_while_full.new.self
    c.in-Err.halt (c.in-Err.ensures.step limits start bytes [] here)

pub give_while_full-requires : goal.give_while_full-requires
give_while_full-requires g c κs = grind arith

pub push-requires : goal.push-requires
push-requires g c = grind arith

pub returns-in-Ok-clause-shown : goal.returns-in-Ok-clause-shown
returns-in-Ok-clause-shown g c = grind arith

pub returns-in-Err-clause-shown : goal.returns-in-Err-clause-shown
returns-in-Err-clause-shown g c = grind arith
