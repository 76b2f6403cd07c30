use Rattle.std.proofs.Common.{Err, Ok, [], ◌++◌, refl, sym}
use Rattle.ng_schedule.specs.declared.ending.Ended.TheVariants.{NotALine}
use Rattle.ng_schedule.proofs.FinishLemmas.{ScheduleSpec-from, other_broken, other_done}
use Rattle.ng_schedule.proofs.giving.Schedule.refuse.Goals as goal

pub returns-in-Ok-put_last-clause-step : goal.returns-in-Ok-put_last-clause-step
returns-in-Ok-put_last-clause-step g c limits start bytes rest here some other =
    ScheduleSpec-from limits _ _ (bytes ++ rest) (bytes ++ rest) start _ (Ok (NotALine c.give_all.new.self.number)) (sym c.give_all.ensures.shown) refl
    (other_done limits start _ _ c.give_all.new.self bytes rest c.put_last.new.text.items
    (c.in-Ok.ensures.step limits start bytes [] here) c.in-Ok.ensures.all some other
    c.in-Ok-put_last.ensures.drains c.in-Ok-put_last.ensures.empty)

pub returns-in-Err-put_last-clause-step : goal.returns-in-Err-put_last-clause-step
returns-in-Err-put_last-clause-step g c limits start bytes rest here some other =
    ScheduleSpec-from limits _ _ (bytes ++ rest) (bytes ++ rest) start _ (Err c.in-Err-put_last.fault) (sym c.give_all.ensures.shown) refl
    (other_broken limits start _ _ c.give_all.new.self bytes rest c.in-Err-put_last.fault
    (c.in-Ok.ensures.step limits start bytes [] here) c.in-Ok.ensures.all c.in-Err-put_last.ensures.drains)

pub returns-in-Err-clause-step : goal.returns-in-Err-clause-step
returns-in-Err-clause-step g c limits start bytes rest here some other =
    ScheduleSpec-from limits _ _ (bytes ++ rest) (bytes ++ rest) start _ c.halt.result
    (sym c.give_all.ensures.shown) refl
    (c.halt.ensures.step limits start bytes rest (c.in-Err.ensures.step limits start bytes [] here))

pub returns-in-Err-clause-limits : goal.returns-in-Err-clause-limits
returns-in-Err-clause-limits g c = c.halt.ensures.limits c.in-Err.ensures.limits
