use Rattle.std.proofs.Common.{arith, rules}
use Rattle.ng_session.proofs.known_lines.KnownLines.forget_ahead.Goals as goal

pub clear-requires : goal.clear-requires
clear-requires g c κs = search rules

pub invariant_of-self : goal.invariant_of-self
invariant_of-self g c = omega arith

pub returns : goal.returns
returns g c = grind arith
