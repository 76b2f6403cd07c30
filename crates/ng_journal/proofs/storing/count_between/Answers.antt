use Rattle.std.proofs.Common.{arith}
use Rattle.ng_journal.proofs.storing.count_between.Goals as goal

pub difference_count-requires : goal.difference_count-requires
difference_count-requires g c κs = grind arith

pub returns-clause-count : goal.returns-clause-count
returns-clause-count g c = grind arith

pub returns-clause-few : goal.returns-clause-few
returns-clause-few g c = omega arith
