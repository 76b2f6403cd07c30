use Rattle.std.proofs.Common.{arith, rules}
use Rattle.ng_session.proofs.session.Session.load.Goals as goal

pub drop-self-inside-requires : goal.drop-self-inside-requires
drop-self-inside-requires g c κs = search rules

pub invariant_of-self-inside : goal.invariant_of-self-inside
invariant_of-self-inside g c = omega arith

pub invariant_of-self : goal.invariant_of-self
invariant_of-self g c = grind arith

pub returns-clause-reply : goal.returns-clause-reply
returns-clause-reply g c = grind arith

pub returns-clause-next : goal.returns-clause-next
returns-clause-next g c = grind arith
