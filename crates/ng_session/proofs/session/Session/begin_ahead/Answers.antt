use Rattle.std.proofs.Common.{Some, arith, rules}
use Rattle.ng_session.specs.BareBlock.{block_on}
use Rattle.ng_session.proofs.PlannedLineLemmas.{begun_ahead}
use Rattle.ng_session.proofs.session.Session.begin_ahead.Goals as goal

pub returns-clause-begun : goal.returns-clause-begun
returns-clause-begun g c = λ geometry plan.
    begun_ahead geometry c.args.self.now _ c.args.lines.now c.take_front.new.self c.in_ok-planned.planned c.requires.free
    (λ i. record (c.self.view_is i) { current = Some (block_on (c.self.view_is i).stored.setup.params (c.planned.view_is i).block) })
    c.in_ok-planned.ensures.ahead c.in_ok-planned.ensures.known plan

pub take_front-requires : goal.take_front-requires
take_front-requires g c κs = grind arith

pub branch-planned-requires : goal.branch-planned-requires
branch-planned-requires g c κs = search rules

pub from_residual-requires : goal.from_residual-requires
from_residual-requires g c κs = search rules

pub returns-in_err-planned-clause-none : goal.returns-in_err-planned-clause-none
returns-in_err-planned-clause-none g c = grind arith

pub returns-in_err-planned-clause-begun : goal.returns-in_err-planned-clause-begun
returns-in_err-planned-clause-begun g c = grind arith

pub invariant_of-self : goal.invariant_of-self
invariant_of-self g c = grind arith

pub returns-clause-none : goal.returns-clause-none
returns-clause-none g c = grind arith
