use Rattle.std.proofs.Common.{arith}
use Rattle.ng_session.proofs.session.Session.rest.Goals as goal

pub idleness-requires : goal.idleness-requires
idleness-requires g c = omega arith

pub returns : goal.returns
returns g c = grind arith
