use Rattle.std.proofs.Common.{arith, rules}
use Rattle.ng_session.proofs.reply.StatusDebug.fmt.Goals as goal

pub derived_fields4-requires : goal.derived_fields4-requires
derived_fields4-requires g c κs = search rules

pub derived_fields2-requires : goal.derived_fields2-requires
derived_fields2-requires g c κs = search rules

pub returns : goal.returns
returns g c = omega arith
