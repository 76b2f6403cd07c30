use Rattle.std.proofs.Common.{arith}
use Rattle.ng_arc.proofs.span.is_same_way.Goals as goal

pub cross-requires-clause-first : goal.cross-requires-clause-first
cross-requires-clause-first c = omega arith

pub cross-requires-clause-second : goal.cross-requires-clause-second
cross-requires-clause-second c = omega arith

pub dot-requires-clause-first : goal.dot-requires-clause-first
dot-requires-clause-first c = omega arith

pub dot-requires-clause-second : goal.dot-requires-clause-second
dot-requires-clause-second c = omega arith

pub returns-then-cross-eq0 : goal.returns-then-cross-eq0
returns-then-cross-eq0 c = grind arith

pub returns-else-cross-eq0 : goal.returns-else-cross-eq0
returns-else-cross-eq0 c = grind arith
