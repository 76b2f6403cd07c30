use Rattle.std.proofs.Common.{arith, rules}
use Rattle.ng_dry.proofs.splitting.without_return.Goals as goal

pub last-requires : goal.last-requires
last-requires c κs = search rules

pub slice_bounds-result-count : goal.slice_bounds-result-count
slice_bounds-result-count c = grind arith

pub slice_bounds-result-length : goal.slice_bounds-result-length
slice_bounds-result-length c = search rules

pub returns-in-Some-eq13 : goal.returns-in-Some-eq13
returns-in-Some-eq13 c = grind arith

pub returns-in_default : goal.returns-in_default
returns-in_default c = grind arith

pub returns-in_default-2 : goal.returns-in_default-2
returns-in_default-2 c = grind arith
