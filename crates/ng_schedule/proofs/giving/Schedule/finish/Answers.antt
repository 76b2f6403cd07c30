use Rattle.std.proofs.Common.{Err, Ok, [], append-nil, refl, sym}
use Rattle.ng_schedule.specs.declared.ending.Ended.TheVariants.{Done}
use Rattle.ng_schedule.proofs.FinishLemmas.{ScheduleSpec-from, whole_broken, whole_done}
use Rattle.ng_schedule.proofs.giving.Schedule.finish.Goals as goal

pub returns-in-Ok-put_end-clause-step : goal.returns-in-Ok-put_end-clause-step
returns-in-Ok-put_end-clause-step g c limits start bytes here =
    ScheduleSpec-from limits _ _ bytes bytes start _ (Ok Done) (sym c.give_all.ensures.shown) refl
    (whole_done limits start _ _ c.give_all.new.self bytes c.put_end.new.text.items
    (c.in-Ok.ensures.step limits start bytes [] here) c.in-Ok.ensures.all c.in-Ok-put_end.ensures.drains
    c.in-Ok-put_end.ensures.empty)

pub returns-in-Err-put_end-clause-step : goal.returns-in-Err-put_end-clause-step
returns-in-Err-put_end-clause-step g c limits start bytes here =
    ScheduleSpec-from limits _ _ bytes bytes start _ (Err c.in-Err-put_end.fault) (sym c.give_all.ensures.shown) refl
    (whole_broken limits start _ _ c.give_all.new.self bytes c.in-Err-put_end.fault
    (c.in-Ok.ensures.step limits start bytes [] here) c.in-Ok.ensures.all c.in-Err-put_end.ensures.drains)

pub returns-in-Err-clause-step : goal.returns-in-Err-clause-step
returns-in-Err-clause-step g c limits start bytes here =
    ScheduleSpec-from limits _ _ _ bytes start _ c.halt.result (sym c.give_all.ensures.shown)
    (sym (append-nil bytes))
    (c.halt.ensures.step limits start bytes [] (c.in-Err.ensures.step limits start bytes [] here))

pub returns-in-Err-clause-limits : goal.returns-in-Err-clause-limits
returns-in-Err-clause-limits g c = c.halt.ensures.limits c.in-Err.ensures.limits
