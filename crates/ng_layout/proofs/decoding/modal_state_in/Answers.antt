use Rattle.std.proofs.Common.{arith, rules}
use Rattle.ng_layout.proofs.decoding.modal_state_in.Goals as goal

pub modes_in-requires : goal.modes_in-requires
modes_in-requires c = omega arith

pub branch-modes_in-requires : goal.branch-modes_in-requires
branch-modes_in-requires c κs = search rules

pub from_residual-requires : goal.from_residual-requires
from_residual-requires c κs = search rules

pub returns-in_err-modes_in-clause-value : goal.returns-in_err-modes_in-clause-value
returns-in_err-modes_in-clause-value c = grind arith

pub returns-in_err-modes_in-clause-storable : goal.returns-in_err-modes_in-clause-storable
returns-in_err-modes_in-clause-storable c = grind arith

pub get_u64-requires : goal.get_u64-requires
get_u64-requires c = omega arith

pub feed_of-requires : goal.feed_of-requires
feed_of-requires c = omega arith

pub branch-feed_of-requires : goal.branch-feed_of-requires
branch-feed_of-requires c κs = search rules

pub from_residual-requires-in_err-feed_of : goal.from_residual-requires-in_err-feed_of
from_residual-requires-in_err-feed_of c κs = search rules

pub returns-in_err-feed_of-clause-value : goal.returns-in_err-feed_of-clause-value
returns-in_err-feed_of-clause-value c = grind arith

pub returns-in_err-feed_of-clause-storable : goal.returns-in_err-feed_of-clause-storable
returns-in_err-feed_of-clause-storable c = grind arith

pub outputs_in-requires : goal.outputs_in-requires
outputs_in-requires c = omega arith

pub branch-outputs_in-requires : goal.branch-outputs_in-requires
branch-outputs_in-requires c κs = search rules

pub from_residual-requires-in_err-outputs_in : goal.from_residual-requires-in_err-outputs_in
from_residual-requires-in_err-outputs_in c κs = search rules

pub returns-in_err-outputs_in-clause-value : goal.returns-in_err-outputs_in-clause-value
returns-in_err-outputs_in-clause-value c = grind arith

pub returns-in_err-outputs_in-clause-storable : goal.returns-in_err-outputs_in-clause-storable
returns-in_err-outputs_in-clause-storable c = grind arith

pub offsets_in-requires : goal.offsets_in-requires
offsets_in-requires c = omega arith

pub branch-offsets_in-requires : goal.branch-offsets_in-requires
branch-offsets_in-requires c κs = search rules

pub from_residual-requires-in_err-offsets_in : goal.from_residual-requires-in_err-offsets_in
from_residual-requires-in_err-offsets_in c κs = search rules

pub returns-in_err-offsets_in-clause-value : goal.returns-in_err-offsets_in-clause-value
returns-in_err-offsets_in-clause-value c = grind arith

pub returns-in_err-offsets_in-clause-storable : goal.returns-in_err-offsets_in-clause-storable
returns-in_err-offsets_in-clause-storable c = grind arith

pub kept_in-requires : goal.kept_in-requires
kept_in-requires c = omega arith

pub branch-kept_in-requires : goal.branch-kept_in-requires
branch-kept_in-requires c κs = search rules

pub from_residual-requires-in_err-kept_in : goal.from_residual-requires-in_err-kept_in
from_residual-requires-in_err-kept_in c κs = search rules

pub returns-in_err-kept_in-clause-value : goal.returns-in_err-kept_in-clause-value
returns-in_err-kept_in-clause-value c = grind arith

pub returns-in_err-kept_in-clause-storable : goal.returns-in_err-kept_in-clause-storable
returns-in_err-kept_in-clause-storable c = grind arith

pub point_at-requires : goal.point_at-requires
point_at-requires c = omega arith

pub branch-point_at-requires : goal.branch-point_at-requires
branch-point_at-requires c κs = search rules

pub from_residual-requires-in_err-point_at : goal.from_residual-requires-in_err-point_at
from_residual-requires-in_err-point_at c κs = search rules

pub returns-in_err-point_at-clause-value : goal.returns-in_err-point_at-clause-value
returns-in_err-point_at-clause-value c = grind arith

pub returns-in_err-point_at-clause-storable : goal.returns-in_err-point_at-clause-storable
returns-in_err-point_at-clause-storable c = grind arith

pub get_u8-requires : goal.get_u8-requires
get_u8-requires c = omega arith

pub truth_of-requires : goal.truth_of-requires
truth_of-requires c = omega arith

pub branch-truth_of-requires : goal.branch-truth_of-requires
branch-truth_of-requires c κs = search rules

pub from_residual-requires-in_err-truth_of : goal.from_residual-requires-in_err-truth_of
from_residual-requires-in_err-truth_of c κs = search rules

pub returns-in_err-truth_of-clause-value : goal.returns-in_err-truth_of-clause-value
returns-in_err-truth_of-clause-value c = grind arith

pub returns-in_err-truth_of-clause-storable : goal.returns-in_err-truth_of-clause-storable
returns-in_err-truth_of-clause-storable c = grind arith

pub returns-clause-value : goal.returns-clause-value
returns-clause-value c = grind arith

pub returns-clause-storable : goal.returns-clause-storable
returns-clause-storable c = grind arith
