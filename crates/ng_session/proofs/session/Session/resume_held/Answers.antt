use Rattle.std.proofs.Common.{arith, rules}
use Rattle.ng_session.proofs.session.Session.resume_held.Goals as goal

pub invariant_of-self : goal.invariant_of-self
invariant_of-self g c = grind arith

pub returns-then-self-clause-reply : goal.returns-then-self-clause-reply
returns-then-self-clause-reply g c = grind arith

pub returns-then-self-clause-next : goal.returns-then-self-clause-next
returns-then-self-clause-next g c = grind arith

pub is_running-requires : goal.is_running-requires
is_running-requires g c = omega arith

pub is_some-requires : goal.is_some-requires
is_some-requires g c κs = search rules

pub returns-then-is_running-clause-reply : goal.returns-then-is_running-clause-reply
returns-then-is_running-clause-reply g c = grind arith

pub returns-then-is_running-clause-next : goal.returns-then-is_running-clause-next
returns-then-is_running-clause-next g c = grind arith

pub invariant_of-self-in-Running : goal.invariant_of-self-in-Running
invariant_of-self-in-Running g c = grind arith

pub returns-in-Idle-clause-reply : goal.returns-in-Idle-clause-reply
returns-in-Idle-clause-reply g c = grind arith

pub returns-in-Idle-clause-next : goal.returns-in-Idle-clause-next
returns-in-Idle-clause-next g c = grind arith

pub returns-in-Running : goal.returns-in-Running
returns-in-Running g c = grind arith
