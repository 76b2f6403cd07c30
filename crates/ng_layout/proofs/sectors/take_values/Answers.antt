use Rattle.std.proofs.Common.{arith, rules}
use Rattle.ng_layout.proofs.sectors.take_values.Goals as goal

pub loop-k-init : goal.loop-k-init
loop-k-init g c = grind arith

pub overflow_add-first : goal.overflow_add-first
overflow_add-first g c = omega arith

pub overflow_mul-k : goal.overflow_mul-k
overflow_mul-k g c = omega arith

pub get_i64-requires : goal.get_i64-requires
get_i64-requires g c = omega arith

pub from-requires : goal.from-requires
from-requires g c = omega arith

pub of-requires : goal.of-requires
of-requires g c = omega arith

pub overflow_add-first-in-Ok : goal.overflow_add-first-in-Ok
overflow_add-first-in-Ok g c = omega arith

pub overflow_cast-first : goal.overflow_cast-first
overflow_cast-first g c = omega arith

pub overflow_add-first-in-Ok-2 : goal.overflow_add-first-in-Ok-2
overflow_add-first-in-Ok-2 g c = omega arith

pub known-requires-clause-low : goal.known-requires-clause-low
known-requires-clause-low g c = omega arith

pub known-requires-clause-high : goal.known-requires-clause-high
known-requires-clause-high g c = omega arith

pub set-requires : goal.set-requires
set-requires g c κs = grind arith

pub returns-in-Err-clause-taken : goal.returns-in-Err-clause-taken
returns-in-Err-clause-taken g c = omega arith

pub returns-in-Err-clause-beyond : goal.returns-in-Err-clause-beyond
returns-in-Err-clause-beyond g c = grind arith

pub loop-k-smaller : goal.loop-k-smaller
loop-k-smaller g c = omega arith

pub loop-k-preserved : goal.loop-k-preserved
loop-k-preserved g c = search rules

pub returns-clause-taken : goal.returns-clause-taken
returns-clause-taken g c = grind arith

pub returns-clause-beyond : goal.returns-clause-beyond
returns-clause-beyond g c = omega arith
