use Rattle.std.proofs.Common.{arith}
use Rattle.ng_layout.proofs.encoding.feed_number.Goals as goal

pub nm_per_min-requires : goal.nm_per_min-requires
nm_per_min-requires c = omega arith

pub unsigned_abs-requires : goal.unsigned_abs-requires
unsigned_abs-requires c = omega arith

pub returns : goal.returns
returns c = grind arith
