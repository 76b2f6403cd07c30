use Rattle.std.proofs.Common.{arith, rules}
use Rattle.ng_block.proofs.arcs.path_along_arc.Goals as goal

pub end_of-requires : goal.end_of-requires
end_of-requires c = omega arith

pub branch-end-requires : goal.branch-end-requires
branch-end-requires c κs = search rules

pub from_residual-requires : goal.from_residual-requires
from_residual-requires c κs = search rules

pub centre_offsets_on-requires : goal.centre_offsets_on-requires
centre_offsets_on-requires c = omega arith

pub branch-centre-requires : goal.branch-centre-requires
branch-centre-requires c κs = search rules

pub from_residual-requires-in_err-centre : goal.from_residual-requires-in_err-centre
from_residual-requires-in_err-centre c κs = search rules

pub asked_by-requires : goal.asked_by-requires
asked_by-requires c = omega arith

pub check_arc-requires : goal.check_arc-requires
check_arc-requires c = omega arith

pub branch-shape-requires : goal.branch-shape-requires
branch-shape-requires c κs = search rules

pub from_residual-requires-in_err-shape : goal.from_residual-requires-in_err-shape
from_residual-requires-in_err-shape c κs = search rules

pub fed_pace_of-requires : goal.fed_pace_of-requires
fed_pace_of-requires c = omega arith

pub at-requires : goal.at-requires
at-requires c = omega arith
