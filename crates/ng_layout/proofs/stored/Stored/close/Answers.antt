use Rattle.std.proofs.Common.{arith, rules}
use Rattle.ng_layout.proofs.stored.Stored.close.Goals as goal

pub is_some-requires : goal.is_some-requires
is_some-requires g c κs = search rules

pub returns-clause-value : goal.returns-clause-value
returns-clause-value g c = grind arith

pub returns-clause-storable : goal.returns-clause-storable
returns-clause-storable g c = grind arith
