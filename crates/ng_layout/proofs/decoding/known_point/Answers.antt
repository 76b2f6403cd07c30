use Rattle.std.proofs.Common.{arith, rules}
use Rattle.ng_layout.proofs.decoding.known_point.Goals as goal

pub point_at-requires : goal.point_at-requires
point_at-requires c = omega arith

pub branch-point_at-requires : goal.branch-point_at-requires
branch-point_at-requires c κs = search rules

pub from_residual-requires : goal.from_residual-requires
from_residual-requires c κs = search rules

pub returns-in_err-point_at-clause-value : goal.returns-in_err-point_at-clause-value
returns-in_err-point_at-clause-value c = grind arith

pub returns-in_err-point_at-clause-unknown : goal.returns-in_err-point_at-clause-unknown
returns-in_err-point_at-clause-unknown c = grind arith

pub returns-in_ok-point_at-clause-value : goal.returns-in_ok-point_at-clause-value
returns-in_ok-point_at-clause-value c = grind arith

pub returns-in_ok-point_at-clause-unknown : goal.returns-in_ok-point_at-clause-unknown
returns-in_ok-point_at-clause-unknown c = grind arith

pub returns-else-is_known-clause-value : goal.returns-else-is_known-clause-value
returns-else-is_known-clause-value c = grind arith

pub returns-else-is_known-clause-unknown : goal.returns-else-is_known-clause-unknown
returns-else-is_known-clause-unknown c = grind arith
