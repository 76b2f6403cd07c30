use Rattle.std.proofs.lemmas.Grind.{common_steps}
use Rattle.std.proofs.Common.{refl, arith}
use Rattle.ng_schedule.proofs.FinishLemmas.{ScheduleSpec-from, not_empty}
use Rattle.ng_schedule.proofs.EndedLineLemmas.{unended}
use Rattle.ng_schedule.proofs.RunStepLemmas.{without_partial}
use Rattle.ng_schedule.proofs.splitting.LineSplitter.close.Goals as goal

pub returns-clause-step : goal.returns-clause-step
returns-clause-step g c limits start bytes here =
    let partial = c.args.self.now.partial.items in
    let parts = without_partial limits start _ bytes partial c.args.self.now.schedule here in
    ScheduleSpec-from limits _ _ _ bytes start _ c.refuse.result refl parts.2
    (c.refuse.ensures.step limits start parts.0 partial parts.1 (not_empty partial c.is_empty.result c.is_empty.ensures c.if-is_empty.false)
    (unended partial c.requires))

pub is_empty-requires : goal.is_empty-requires
is_empty-requires g c = omega arith

pub finish-requires : goal.finish-requires
finish-requires g c κs = grind arith

pub returns-then-is_empty-clause-step : goal.returns-then-is_empty-clause-step
returns-then-is_empty-clause-step g c = grind (arith, common_steps)

pub refuse-requires : goal.refuse-requires
refuse-requires g c κs = grind arith
