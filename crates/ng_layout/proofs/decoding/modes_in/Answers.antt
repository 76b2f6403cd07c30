use Rattle.std.proofs.Common.{arith, rules}
use Rattle.ng_layout.proofs.decoding.modes_in.Goals as goal

pub get_u8-requires : goal.get_u8-requires
get_u8-requires c = omega arith

pub motion_of-requires : goal.motion_of-requires
motion_of-requires c = omega arith

pub branch-motion_of-requires : goal.branch-motion_of-requires
branch-motion_of-requires c κs = search rules

pub from_residual-requires : goal.from_residual-requires
from_residual-requires c κs = search rules

pub returns-in_err-motion_of : goal.returns-in_err-motion_of
returns-in_err-motion_of c = grind arith

pub get_u8-requires-2 : goal.get_u8-requires-2
get_u8-requires-2 c = omega arith

pub plane_of-requires : goal.plane_of-requires
plane_of-requires c = omega arith

pub branch-plane_of-requires : goal.branch-plane_of-requires
branch-plane_of-requires c κs = search rules

pub from_residual-requires-in_err-plane_of : goal.from_residual-requires-in_err-plane_of
from_residual-requires-in_err-plane_of c κs = search rules

pub returns-in_err-plane_of : goal.returns-in_err-plane_of
returns-in_err-plane_of c = grind arith

pub get_u8-requires-3 : goal.get_u8-requires-3
get_u8-requires-3 c = omega arith

pub distance_of-requires : goal.distance_of-requires
distance_of-requires c = omega arith

pub branch-distance_of-requires : goal.branch-distance_of-requires
branch-distance_of-requires c κs = search rules

pub from_residual-requires-in_err-distance_of : goal.from_residual-requires-in_err-distance_of
from_residual-requires-in_err-distance_of c κs = search rules

pub returns-in_err-distance_of : goal.returns-in_err-distance_of
returns-in_err-distance_of c = grind arith

pub get_u8-requires-4 : goal.get_u8-requires-4
get_u8-requires-4 c = omega arith

pub feed_mode_of-requires : goal.feed_mode_of-requires
feed_mode_of-requires c = omega arith

pub branch-feed_mode_of-requires : goal.branch-feed_mode_of-requires
branch-feed_mode_of-requires c κs = search rules

pub from_residual-requires-in_err-feed_mode_of : goal.from_residual-requires-in_err-feed_mode_of
from_residual-requires-in_err-feed_mode_of c κs = search rules

pub returns-in_err-feed_mode_of : goal.returns-in_err-feed_mode_of
returns-in_err-feed_mode_of c = grind arith

pub get_u8-requires-5 : goal.get_u8-requires-5
get_u8-requires-5 c = omega arith

pub unit_of-requires : goal.unit_of-requires
unit_of-requires c = omega arith

pub branch-unit_of-requires : goal.branch-unit_of-requires
branch-unit_of-requires c κs = search rules

pub from_residual-requires-in_err-unit_of : goal.from_residual-requires-in_err-unit_of
from_residual-requires-in_err-unit_of c κs = search rules

pub returns-in_err-unit_of : goal.returns-in_err-unit_of
returns-in_err-unit_of c = grind arith

pub get_u8-requires-6 : goal.get_u8-requires-6
get_u8-requires-6 c = omega arith

pub retract_of-requires : goal.retract_of-requires
retract_of-requires c = omega arith

pub branch-retract_of-requires : goal.branch-retract_of-requires
branch-retract_of-requires c κs = search rules

pub from_residual-requires-in_err-retract_of : goal.from_residual-requires-in_err-retract_of
from_residual-requires-in_err-retract_of c κs = search rules

pub returns-in_err-retract_of : goal.returns-in_err-retract_of
returns-in_err-retract_of c = grind arith

pub get_u8-requires-7 : goal.get_u8-requires-7
get_u8-requires-7 c = omega arith

pub from-requires : goal.from-requires
from-requires c = omega arith

pub of-requires : goal.of-requires
of-requires c = omega arith

pub branch-of-requires : goal.branch-of-requires
branch-of-requires c κs = search rules

pub from_residual-requires-in_err-of : goal.from_residual-requires-in_err-of
from_residual-requires-in_err-of c κs = search rules

pub returns-in_err-of : goal.returns-in_err-of
returns-in_err-of c = grind arith

pub get_u8-requires-8 : goal.get_u8-requires-8
get_u8-requires-8 c = omega arith

pub path_of-requires : goal.path_of-requires
path_of-requires c = omega arith

pub branch-path_of-requires : goal.branch-path_of-requires
branch-path_of-requires c κs = search rules

pub from_residual-requires-in_err-path_of : goal.from_residual-requires-in_err-path_of
from_residual-requires-in_err-path_of c κs = search rules

pub returns-in_err-path_of : goal.returns-in_err-path_of
returns-in_err-path_of c = grind arith

pub get_u8-requires-9 : goal.get_u8-requires-9
get_u8-requires-9 c = omega arith

pub truth_of-requires : goal.truth_of-requires
truth_of-requires c = omega arith

pub branch-truth_of-requires : goal.branch-truth_of-requires
branch-truth_of-requires c κs = search rules

pub from_residual-requires-in_err-truth_of : goal.from_residual-requires-in_err-truth_of
from_residual-requires-in_err-truth_of c κs = search rules

pub returns-in_err-truth_of : goal.returns-in_err-truth_of
returns-in_err-truth_of c = grind arith

pub returns : goal.returns
returns c = grind arith
