use Rattle.std.proofs.Common.{arith}
use Rattle.ng_session.proofs.session.Session.is_place_known.Goals as goal

pub returns : goal.returns
returns g c = grind arith
