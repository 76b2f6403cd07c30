use Rattle.std.proofs.Common.{arith}
use Rattle.ng_session.proofs.session.Session.waiting.Goals as goal

pub copy-requires : goal.copy-requires
copy-requires g c = omega arith

pub returns-in-Some : goal.returns-in-Some
returns-in-Some g c = grind arith

pub returns-in-None : goal.returns-in-None
returns-in-None g c = grind arith
