use Rattle.std.proofs.Common.{arith}
use Rattle.ng_session.proofs.session.Session.start.Goals as goal

pub accepts_load-requires : goal.accepts_load-requires
accepts_load-requires g c κs = grind arith

pub returns-then-not-accepts_load-clause-reply : goal.returns-then-not-accepts_load-clause-reply
returns-then-not-accepts_load-clause-reply g c = grind arith

pub returns-then-not-accepts_load-clause-next : goal.returns-then-not-accepts_load-clause-next
returns-then-not-accepts_load-clause-next g c = grind arith

pub is_place_known-requires : goal.is_place_known-requires
is_place_known-requires g c κs = grind arith

pub returns-then-not-is_place_known-clause-next : goal.returns-then-not-is_place_known-clause-next
returns-then-not-is_place_known-clause-next g c = grind arith

pub returns-then-self-eq0-clause-reply : goal.returns-then-self-eq0-clause-reply
returns-then-self-eq0-clause-reply g c = grind arith

pub returns-then-self-eq0-clause-next : goal.returns-then-self-eq0-clause-next
returns-then-self-eq0-clause-next g c = grind arith

pub invariant_of-self-inside : goal.invariant_of-self-inside
invariant_of-self-inside g c = omega arith

pub invariant_of-self : goal.invariant_of-self
invariant_of-self g c = grind arith

pub returns-clause-reply : goal.returns-clause-reply
returns-clause-reply g c = grind arith

pub returns-clause-next : goal.returns-clause-next
returns-clause-next g c = grind arith
