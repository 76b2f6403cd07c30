use Rattle.std.proofs.Common.{arith, rules}
use Rattle.ng_step.specs.Private.Sweeps.{inner_at, outer_at}
use Rattle.ng_step.proofs.StopLemmas.{before_of, goes_on_up_to}
use Rattle.ng_step.proofs.walk.ArcWalk.stop.Goals as goal

pub first_past-requires-clause-enters : goal.first_past-requires-clause-enters
first_past-requires-clause-enters c =
    let w = c.args.self.now in
    rw (c.requires.from.outer, c.requires.from.inner)
    (before_of w.quadrant c.args.end c.in_ok-ahead.ahead w.inner w.outer c.in_ok-ahead.ensures
    c.requires.before)

pub returns-else-ends_past-clause-stop : goal.returns-else-ends_past-clause-stop
returns-else-ends_past-clause-stop c =
    goes_on_up_to c.args.end c.args.self.now c.in_ok-ahead.ahead (inner_at c.args.passage c.args.last.inward)
    (outer_at c.args.passage c.args.last.outward) c.in_ok-ahead.ensures
    (c.ends_past.ensures.before c.if-ends_past.false)

pub ahead-requires-clause-walks : goal.ahead-requires-clause-walks
ahead-requires-clause-walks c = grind arith

pub ahead-requires-clause-end_a : goal.ahead-requires-clause-end_a
ahead-requires-clause-end_a c = omega arith

pub ahead-requires-clause-end_b : goal.ahead-requires-clause-end_b
ahead-requires-clause-end_b c = omega arith

pub ahead-requires-clause-before : goal.ahead-requires-clause-before
ahead-requires-clause-before c = grind arith

pub branch-ahead-requires : goal.branch-ahead-requires
branch-ahead-requires c κs = search rules

pub from_residual-requires : goal.from_residual-requires
from_residual-requires c κs = search rules

pub returns-in_err-ahead-clause-stop : goal.returns-in_err-ahead-clause-stop
returns-in_err-ahead-clause-stop c = grind arith

pub returns-in_err-ahead-clause-inside : goal.returns-in_err-ahead-clause-inside
returns-in_err-ahead-clause-inside c = grind arith

pub returns-in_err-ahead-clause-fits : goal.returns-in_err-ahead-clause-fits
returns-in_err-ahead-clause-fits c = grind arith

pub ends_past-requires-clause-last : goal.ends_past-requires-clause-last
ends_past-requires-clause-last c = grind arith

pub ends_past-requires-clause-fits : goal.ends_past-requires-clause-fits
ends_past-requires-clause-fits c = omega arith

pub first_past-requires-clause-last : goal.first_past-requires-clause-last
first_past-requires-clause-last c = grind arith

pub first_past-requires-clause-past : goal.first_past-requires-clause-past
first_past-requires-clause-past c = grind arith

pub returns-then-ends_past-clause-inside : goal.returns-then-ends_past-clause-inside
returns-then-ends_past-clause-inside c = omega arith

pub returns-then-ends_past-clause-fits : goal.returns-then-ends_past-clause-fits
returns-then-ends_past-clause-fits c = omega arith

pub returns-else-ends_past-clause-inside : goal.returns-else-ends_past-clause-inside
returns-else-ends_past-clause-inside c = omega arith

pub returns-else-ends_past-clause-fits : goal.returns-else-ends_past-clause-fits
returns-else-ends_past-clause-fits c = omega arith
