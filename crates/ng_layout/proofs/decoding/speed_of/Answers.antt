use Rattle.std.proofs.Common.{arith, rules}
use Rattle.ng_layout.proofs.decoding.speed_of.Goals as goal

pub from-requires : goal.from-requires
from-requires c = omega arith

pub of-requires : goal.of-requires
of-requires c = omega arith

pub ok-requires : goal.ok-requires
ok-requires c κs = search rules

pub returns-clause-value : goal.returns-clause-value
returns-clause-value c = grind arith

pub returns-clause-sign : goal.returns-clause-sign
returns-clause-sign c = grind arith
