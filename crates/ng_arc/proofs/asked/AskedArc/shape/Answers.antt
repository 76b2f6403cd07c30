use Rattle.std.proofs.lemmas.Grind.{common_steps}
use Rattle.std.proofs.Common.{arith, rules}
use Rattle.ng_arc.proofs.asked.AskedArc.shape.Goals as goal

pub centre_a-requires : goal.centre_a-requires
centre_a-requires c = omega arith

pub branch-centre_a-requires : goal.branch-centre_a-requires
branch-centre_a-requires c κs = search rules

pub from_residual-requires : goal.from_residual-requires
from_residual-requires c κs = search rules

pub returns-in_err-centre_a : goal.returns-in_err-centre_a
returns-in_err-centre_a c = grind arith

pub centre_b-requires : goal.centre_b-requires
centre_b-requires c = omega arith

pub branch-centre_b-requires : goal.branch-centre_b-requires
branch-centre_b-requires c κs = search rules

pub from_residual-requires-in_err-centre_b : goal.from_residual-requires-in_err-centre_b
from_residual-requires-in_err-centre_b c κs = search rules

pub returns-in_err-centre_b : goal.returns-in_err-centre_b
returns-in_err-centre_b c = grind (arith, common_steps)

pub returns : goal.returns
returns c = grind arith
