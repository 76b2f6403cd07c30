use Rattle.std.proofs.Common.{arith, rules}
use Rattle.ng_session.proofs.session.Session.refuses_mdi.Goals as goal

pub is_some-requires : goal.is_some-requires
is_some-requires g c κs = search rules

pub is_running-requires : goal.is_running-requires
is_running-requires g c = omega arith

pub is_some-requires-else-not-self : goal.is_some-requires-else-not-self
is_some-requires-else-not-self g c κs = search rules

pub returns-then-not-self : goal.returns-then-not-self
returns-then-not-self g c = grind arith

pub returns-else-not-self : goal.returns-else-not-self
returns-else-not-self g c = grind arith
