use Rattle.ng_schedule.proofs.RunStepLemmas.{stops_at_other}
use Rattle.ng_schedule.proofs.giving.Schedule.take_line.Goals as goal

pub returns-in-None-clause-step : goal.returns-in-None-clause-step
returns-in-None-clause-step g c limits start bytes here =
    stops_at_other limits start _ bytes c.args.line.now c.args.self.now here c.requires (λ item fits is. let same = c.in-None.ensures.only item fits is in cc)
