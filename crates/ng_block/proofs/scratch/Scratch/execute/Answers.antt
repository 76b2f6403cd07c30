use Rattle.std.proofs.Common.{arith, rules}
use Rattle.ng_block.proofs.scratch.Scratch.execute.Goals as goal

pub take_line-requires : goal.take_line-requires
take_line-requires g c κs = grind arith

pub branch-take_line-requires : goal.branch-take_line-requires
branch-take_line-requires g c κs = search rules

pub from_residual-requires : goal.from_residual-requires
from_residual-requires g c κs = search rules

pub returns-in_err-take_line : goal.returns-in_err-take_line
returns-in_err-take_line g c = grind arith

pub returns : goal.returns
returns g c = grind arith
