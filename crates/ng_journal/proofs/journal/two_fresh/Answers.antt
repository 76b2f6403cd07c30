use Rattle.std.proofs.Common.{arith, rules}
use Rattle.ng_journal.proofs.journal.two_fresh.Goals as goal

pub fresh-requires : goal.fresh-requires
fresh-requires g c κs = grind arith

pub returns-in_err-fresh : goal.returns-in_err-fresh
returns-in_err-fresh g c = grind arith

pub fresh-requires-2 : goal.fresh-requires-2
fresh-requires-2 g c κs = grind arith

pub drop-branch-requires : goal.drop-branch-requires
drop-branch-requires g c κs = search rules

pub returns-in_err-fresh-2 : goal.returns-in_err-fresh-2
returns-in_err-fresh-2 g c = grind arith

pub returns : goal.returns
returns g c = grind arith
