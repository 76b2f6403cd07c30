use Rattle.std.proofs.Common.{arith, rules}
use Rattle.ng_session.proofs.known_lines.KnownLines.take_front.Goals as goal

pub pop_front-front-requires : goal.pop_front-front-requires
pop_front-front-requires g c κs = search rules

pub is_empty-requires : goal.is_empty-requires
is_empty-requires g c κs = search rules

pub invariant_of-self : goal.invariant_of-self
invariant_of-self g c = omega arith

pub invariant_of-self-else-is_empty : goal.invariant_of-self-else-is_empty
invariant_of-self-else-is_empty g c = omega arith

pub returns-then-is_empty-clause-known : goal.returns-then-is_empty-clause-known
returns-then-is_empty-clause-known g c = grind arith

pub returns-then-is_empty-clause-ahead : goal.returns-then-is_empty-clause-ahead
returns-then-is_empty-clause-ahead g c = grind arith

pub returns-else-is_empty-clause-known : goal.returns-else-is_empty-clause-known
returns-else-is_empty-clause-known g c = grind arith

pub returns-else-is_empty-clause-ahead : goal.returns-else-is_empty-clause-ahead
returns-else-is_empty-clause-ahead g c = grind arith
