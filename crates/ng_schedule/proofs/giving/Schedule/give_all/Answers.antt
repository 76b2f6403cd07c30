use Rattle.std.proofs.Common.{◌∙◌, refl, true, arith}
use Rattle.ng_schedule.proofs.ScheduleRunLemmas.{same_items}
use Rattle.ng_schedule.proofs.giving.Schedule.give_all.Goals as goal

pub loop-halt-init : goal.loop-halt-init
loop-halt-init g c =
    let old = c.args.self.now in (
      λ limits start bytes partial here. same_items limits start _ bytes partial old
          (record old { stream = c.end.new.self }) here c.end.ensures refl refl refl refl,
      c.end.ensures.none,
      refl,
    )

pub loop-halt-preserved : goal.loop-halt-preserved
loop-halt-preserved g c =
    let so_far = c.loop-halt.invariant in (
      λ limits start bytes partial here. c.in-Ok-true.ensures.step true limits start bytes partial (so_far.0 limits start bytes partial here) (λ no. absurd
          (cc no)),
      c.give_next.ensures.waiting ∙ so_far.1,
      c.give_next.ensures.shown ∙ so_far.2,
    )

pub returns-in-Err-clause-step : goal.returns-in-Err-clause-step
returns-in-Err-clause-step g c limits start bytes partial here = c.in-Err.ensures.step true limits start bytes partial
    (c.loop-halt.invariant.0 limits start bytes partial here) (λ no. absurd (cc no))

pub end-requires : goal.end-requires
end-requires g c κs = grind arith

pub give_next-requires : goal.give_next-requires
give_next-requires g c κs = grind arith

pub loop-halt-smaller : goal.loop-halt-smaller
loop-halt-smaller g c = grind arith

pub returns-in-Ok-false-clause-step : goal.returns-in-Ok-false-clause-step
returns-in-Ok-false-clause-step g c = grind arith

pub returns-in-Ok-false-clause-all : goal.returns-in-Ok-false-clause-all
returns-in-Ok-false-clause-all g c = grind arith

pub returns-in-Ok-false-clause-shown : goal.returns-in-Ok-false-clause-shown
returns-in-Ok-false-clause-shown g c = grind arith

pub returns-in-Err-clause-all : goal.returns-in-Err-clause-all
returns-in-Err-clause-all g c = omega arith

pub returns-in-Err-clause-shown : goal.returns-in-Err-clause-shown
returns-in-Err-clause-shown g c = grind arith
