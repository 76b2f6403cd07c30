use Rattle.std.proofs.Common.{arith, rules}
use Rattle.ng_step.proofs.centred.rounded_start.Goals as goal

pub pick_a-a-requires : goal.pick_a-a-requires
pick_a-a-requires c κs = search rules

pub pick_b-b-requires : goal.pick_b-b-requires
pick_b-b-requires c κs = search rules

pub rounded-requires-clause-some : goal.rounded-requires-clause-some
rounded-requires-clause-some c = omega arith

pub rounded-requires-clause-most : goal.rounded-requires-clause-most
rounded-requires-clause-most c = omega arith

pub rounded-requires-2-clause-some : goal.rounded-requires-2-clause-some
rounded-requires-2-clause-some c = omega arith

pub rounded-requires-2-clause-most : goal.rounded-requires-2-clause-most
rounded-requires-2-clause-most c = omega arith

pub from_centre-requires-clause-a : goal.from_centre-requires-clause-a
from_centre-requires-clause-a c = grind arith

pub from_centre-requires-clause-b : goal.from_centre-requires-clause-b
from_centre-requires-clause-b c = grind arith

pub returns-clause-value : goal.returns-clause-value
returns-clause-value c = search rules
