use Rattle.std.proofs.Common.{arith}
use Rattle.ng_session.proofs.session.Session.open.Goals as goal

pub open-requires : goal.open-requires
open-requires g c = omega arith

pub invariant_of-self-inside : goal.invariant_of-self-inside
invariant_of-self-inside g c = omega arith

pub invariant_of-self : goal.invariant_of-self
invariant_of-self g c = grind arith

pub invariant_of-self-inside-in_default : goal.invariant_of-self-inside-in_default
invariant_of-self-inside-in_default g c = omega arith

pub invariant_of-self-in_default : goal.invariant_of-self-in_default
invariant_of-self-in_default g c = grind arith

pub returns-in-Some-Approach-clause-reply : goal.returns-in-Some-Approach-clause-reply
returns-in-Some-Approach-clause-reply g c = grind arith

pub returns-in-Some-Approach-clause-next : goal.returns-in-Some-Approach-clause-next
returns-in-Some-Approach-clause-next g c = grind arith

pub returns-in-Some-Segment-clause-reply : goal.returns-in-Some-Segment-clause-reply
returns-in-Some-Segment-clause-reply g c = grind arith

pub returns-in-Some-Segment-clause-next : goal.returns-in-Some-Segment-clause-next
returns-in-Some-Segment-clause-next g c = grind arith
