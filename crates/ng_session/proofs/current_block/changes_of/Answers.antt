use Rattle.std.proofs.Common.{arith}
use Rattle.ng_session.proofs.current_block.changes_of.Goals as goal

pub settled_changes-requires : goal.settled_changes-requires
settled_changes-requires g c = omega arith

pub returns : goal.returns
returns g c = grind arith
