use Rattle.std.proofs.Common.{ap, subst, ◌∙◌}
use Rattle.ng_schedule.specs.Private.Parts.{HaltSpec}
use Rattle.ng_schedule.specs.declared.ending.Halt.{Halt}
use Rattle.ng_schedule.specs.declared.ending.Halt.TheVariants.{Fault}
use Rattle.ng_schedule.proofs.FinishLemmas.{cut_broken, late_broken, late_done}
use Rattle.ng_schedule.proofs.giving.Schedule.halt.Goals as goal

pub returns-in-Ok-clause-step : goal.returns-in-Ok-clause-step
returns-in-Ok-clause-step g c limits start bytes more h =
    let late = subst (λ (why : Halt). HaltSpec limits start (g.W.Write.contents c.args.writer.now) bytes c.args.self.now why) c.in-TooLate.is h in
    late_done limits start _ _ c.args.self.now bytes more c.put_last.new.text.items late c.in-Ok.ensures.drains c.in-Ok.ensures.empty

pub returns-in-Err-clause-step : goal.returns-in-Err-clause-step
returns-in-Err-clause-step g c limits start bytes more h =
    let late = subst (λ (why : Halt). HaltSpec limits start (g.W.Write.contents c.args.writer.now) bytes c.args.self.now why) c.in-TooLate.is h in
    late_broken limits start _ _ c.args.self.now bytes more c.in-Err.fault late c.in-Err.ensures.drains

pub returns-in-Fault-clause-step : goal.returns-in-Fault-clause-step
returns-in-Fault-clause-step g c limits start bytes more h =
    let cut = subst (λ (why : Halt). HaltSpec limits start (g.W.Write.contents c.args.writer.now) bytes c.args.self.now why) c.in-Fault.is h in
    cut_broken limits c.args.self.now.shown start _ bytes more c.in-Fault.fault cut.1

pub returns-in-Fault-clause-limits : goal.returns-in-Fault-clause-limits
returns-in-Fault-clause-limits g c other is = other (c.in-Fault.is ∙ ap Fault is)
