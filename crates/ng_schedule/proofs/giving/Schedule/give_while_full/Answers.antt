use Rattle.std.proofs.Common.{arith, ◌∙◌}
use Rattle.std.proofs.lemmas.Bool.Decides.{nat_tests}
use Rattle.ng_schedule.specs.Private.Parts.{IsFull}
use Rattle.ng_schedule.proofs.giving.Schedule.give_while_full.Goals as goal

pub returns-in-Err-clause-step : goal.returns-in-Err-clause-step
returns-in-Err-clause-step g c limits start bytes partial here =
    let full : IsFull c.loop-self.self = grind (arith, nat_tests, c.is_full.ensures.full, c.loop-self-test.true) in
    c.in-Err.ensures.step limits start bytes partial (c.loop-self.invariant.0 limits start bytes partial here) full

pub loop-self-preserved : goal.loop-self-preserved
loop-self-preserved g c = (
  λ limits start bytes partial here.
      let full : IsFull c.loop-self.self = grind (arith, nat_tests, c.is_full.ensures.full, c.loop-self-test.true) in
      c.in-Ok.ensures.step limits start bytes partial (c.loop-self.invariant.0 limits start bytes partial here) full,
  c.give_one.ensures.shown ∙ c.loop-self.invariant.1,
)

pub loop-self-init : goal.loop-self-init
loop-self-init g c = grind arith

pub is_full-requires : goal.is_full-requires
is_full-requires g c κs = grind arith

pub give_one-requires : goal.give_one-requires
give_one-requires g c κs = grind arith

pub loop-self-smaller : goal.loop-self-smaller
loop-self-smaller g c = grind arith

pub returns-in-Err-clause-not_full : goal.returns-in-Err-clause-not_full
returns-in-Err-clause-not_full g c = omega arith

pub returns-in-Err-clause-shown : goal.returns-in-Err-clause-shown
returns-in-Err-clause-shown g c = grind arith

pub returns-clause-step : goal.returns-clause-step
returns-clause-step g c = grind arith

pub returns-clause-not_full : goal.returns-clause-not_full
returns-clause-not_full g c = grind arith

pub returns-clause-shown : goal.returns-clause-shown
returns-clause-shown g c = grind arith
