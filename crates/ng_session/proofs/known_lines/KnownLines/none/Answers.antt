use Rattle.std.proofs.Common.{arith, rules}
use Rattle.ng_session.proofs.known_lines.KnownLines.none.Goals as goal

pub none-requires : goal.none-requires
none-requires g c = omega arith

pub with_capacity-requires : goal.with_capacity-requires
with_capacity-requires g c κs = search rules

pub returns-in_err-with_capacity-clause-ahead : goal.returns-in_err-with_capacity-clause-ahead
returns-in_err-with_capacity-clause-ahead g c = grind arith

pub returns-in_err-with_capacity-clause-holds : goal.returns-in_err-with_capacity-clause-holds
returns-in_err-with_capacity-clause-holds g c = grind arith

pub fresh-requires : goal.fresh-requires
fresh-requires g c κs = grind arith

pub drop-branch-requires : goal.drop-branch-requires
drop-branch-requires g c κs = search rules

pub returns-in_err-fresh-clause-ahead : goal.returns-in_err-fresh-clause-ahead
returns-in_err-fresh-clause-ahead g c = grind arith

pub returns-in_err-fresh-clause-holds : goal.returns-in_err-fresh-clause-holds
returns-in_err-fresh-clause-holds g c = grind arith

pub invariant_of-result : goal.invariant_of-result
invariant_of-result g c = grind arith

pub returns-clause-ahead : goal.returns-clause-ahead
returns-clause-ahead g c = grind arith

pub returns-clause-holds : goal.returns-clause-holds
returns-clause-holds g c = grind arith
