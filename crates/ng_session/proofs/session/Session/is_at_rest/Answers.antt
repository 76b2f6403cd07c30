use Rattle.std.proofs.Common.{arith, rules}
use Rattle.ng_session.proofs.session.Session.is_at_rest.Goals as goal

pub is_none-requires : goal.is_none-requires
is_none-requires g c κs = search rules

pub is_running-requires : goal.is_running-requires
is_running-requires g c = omega arith

pub returns-then-not-is_running : goal.returns-then-not-is_running
returns-then-not-is_running g c = grind arith

pub returns-else-not-is_running : goal.returns-else-not-is_running
returns-else-not-is_running g c = grind arith
