use Rattle.std.proofs.Common.{arith}
use Rattle.ng_cycles.proofs.drill.Drill.lead_length.Goals as goal

pub nm-requires : goal.nm-requires
nm-requires c = omega arith

pub nm-requires-2 : goal.nm-requires-2
nm-requires-2 c = omega arith

pub nm-requires-3 : goal.nm-requires-3
nm-requires-3 c = omega arith

pub nm-requires-4 : goal.nm-requires-4
nm-requires-4 c = omega arith

pub overflow_add-result : goal.overflow_add-result
overflow_add-result c = omega arith

pub overflow_add-result-2 : goal.overflow_add-result-2
overflow_add-result-2 c = grind arith

pub returns-clause-value : goal.returns-clause-value
returns-clause-value c = grind arith

pub returns-clause-few : goal.returns-clause-few
returns-clause-few c = grind arith
