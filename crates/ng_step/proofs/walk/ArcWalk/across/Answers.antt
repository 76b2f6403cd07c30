use Rattle.std.proofs.Common.{◌∙◌, arith}
use Rattle.ng_step.proofs.LeapLemmas.{last_some, walk_across}
use Rattle.ng_step.proofs.walk.ArcWalk.across.Goals as goal

pub begin-walk-requires-clause-some : goal.begin-walk-requires-clause-some
begin-walk-requires-clause-some c = last_some c.args.self.now c.args.passage c.args.last c.requires.walks c.requires.from c.requires.last

pub returns-clause-leads : goal.returns-clause-leads
returns-clause-leads c =
    walk_across c.args.self.now c.begin-walk.result c.args.passage c.args.last c.requires.walks c.requires.from c.requires.last
    (c.begin-walk.ensures.quadrant ∙ c.next.ensures) c.begin-walk.ensures.inner c.begin-walk.ensures.outer

pub next-requires : goal.next-requires
next-requires c = omega arith

pub overflow_mul-last : goal.overflow_mul-last
overflow_mul-last c = grind arith

pub overflow_add-self : goal.overflow_add-self
overflow_add-self c = grind arith

pub overflow_mul-last-2 : goal.overflow_mul-last-2
overflow_mul-last-2 c = grind arith

pub overflow_sub-self : goal.overflow_sub-self
overflow_sub-self c = grind arith

pub overflow_sub-self-2 : goal.overflow_sub-self-2
overflow_sub-self-2 c = grind arith

pub begin-walk-requires-clause-arc : goal.begin-walk-requires-clause-arc
begin-walk-requires-clause-arc c = omega arith

pub begin-walk-requires-clause-small : goal.begin-walk-requires-clause-small
begin-walk-requires-clause-small c = omega arith

pub begin-walk-requires-clause-inner : goal.begin-walk-requires-clause-inner
begin-walk-requires-clause-inner c = grind arith

pub begin-walk-requires-clause-outer : goal.begin-walk-requires-clause-outer
begin-walk-requires-clause-outer c = omega arith

pub begin-walk-requires-clause-inner_step : goal.begin-walk-requires-clause-inner_step
begin-walk-requires-clause-inner_step c = grind arith

pub begin-walk-requires-clause-outer_step : goal.begin-walk-requires-clause-outer_step
begin-walk-requires-clause-outer_step c = grind arith

pub overflow_add-result : goal.overflow_add-result
overflow_add-result c = grind arith

pub overflow_add-result-2 : goal.overflow_add-result-2
overflow_add-result-2 c = grind arith

pub returns-clause-walks : goal.returns-clause-walks
returns-clause-walks c = grind arith

pub returns-clause-circle : goal.returns-clause-circle
returns-clause-circle c = grind arith
