use Rattle.std.proofs.Common.{arith}
use Rattle.ng_session.proofs.session.Session.next_item.Goals as goal

pub invariant_of-self : goal.invariant_of-self
invariant_of-self g c = grind arith

pub returns-in_default-clause-item : goal.returns-in_default-clause-item
returns-in_default-clause-item g c = grind arith

pub returns-in_default-clause-next : goal.returns-in_default-clause-next
returns-in_default-clause-next g c = grind arith

pub returns-in_default-clause-none : goal.returns-in_default-clause-none
returns-in_default-clause-none g c = grind arith

pub next_item-requires : goal.next_item-requires
next_item-requires g c = omega arith

pub invariant_of-self-2 : goal.invariant_of-self-2
invariant_of-self-2 g c = grind arith

pub returns-clause-item : goal.returns-clause-item
returns-clause-item g c = grind arith

pub returns-clause-next : goal.returns-clause-next
returns-clause-next g c = grind arith

pub returns-clause-none : goal.returns-clause-none
returns-clause-none g c = grind arith
