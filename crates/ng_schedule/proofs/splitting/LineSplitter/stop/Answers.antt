use Rattle.std.proofs.Common.{◌++◌, ◌∙◌, ap, append_assoc, refl, subst, arith}
use Rattle.ng_schedule.specs.Private.Parts.{StopSpec}
use Rattle.ng_schedule.specs.declared.ending.Stop.{Stop}
use Rattle.ng_schedule.specs.declared.ending.Stop.TheVariants.{Halted}
use Rattle.ng_schedule.proofs.FinishLemmas.{ScheduleSpec-from, some_more}
use Rattle.ng_schedule.proofs.splitting.LineSplitter.stop.Goals as goal

pub returns-in-NotALine-clause-step : goal.returns-in-NotALine-clause-step
returns-in-NotALine-clause-step g c limits start bytes more h =
    let stopped = subst (λ (why : Stop). StopSpec limits start (g.W.Write.contents c.args.writer.now) bytes c.args.self.now.schedule why) c.in-NotALine.is h in
    ScheduleSpec-from limits _ _ _ _ start _ c.refuse.result refl (ap (λ l. l ++ more) stopped.parts ∙ append_assoc stopped.before stopped.rest more)
    (c.refuse.ensures.step limits start stopped.before (stopped.rest ++ more) stopped.under_way (some_more stopped.rest more stopped.some) (stopped.other more))

pub refuse-requires : goal.refuse-requires
refuse-requires g c κs = grind arith

pub halt-requires : goal.halt-requires
halt-requires g c κs = grind arith

pub returns-in-Halted-clause-step : goal.returns-in-Halted-clause-step
returns-in-Halted-clause-step g c = grind arith

pub returns-in-Halted-clause-limits : goal.returns-in-Halted-clause-limits
returns-in-Halted-clause-limits g c other = c.halt.ensures.limits (λ is. other (c.in-Halted.is ∙ ap Halted is))
