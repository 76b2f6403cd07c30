use Rattle.std.proofs.Common.{arith, rules}
use Rattle.ng_session.proofs.session.Session.hold.Goals as goal

pub is_running-requires : goal.is_running-requires
is_running-requires g c = omega arith

pub is_some-requires : goal.is_some-requires
is_some-requires g c κs = search rules

pub invariant_of-self : goal.invariant_of-self
invariant_of-self g c = grind arith

pub returns-then-is_running-clause-reply : goal.returns-then-is_running-clause-reply
returns-then-is_running-clause-reply g c = grind arith

pub returns-then-is_running-clause-next : goal.returns-then-is_running-clause-next
returns-then-is_running-clause-next g c = grind arith

pub idleness-requires : goal.idleness-requires
idleness-requires g c = omega arith

pub returns-clause-reply : goal.returns-clause-reply
returns-clause-reply g c = grind arith

pub returns-clause-next : goal.returns-clause-next
returns-clause-next g c = grind arith
