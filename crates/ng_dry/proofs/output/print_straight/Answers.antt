use Rattle.std.proofs.Common.{arith}
use Rattle.ng_dry.proofs.output.print_straight.Goals as goal

pub print_traverse-requires : goal.print_traverse-requires
print_traverse-requires g c κs = grind arith

pub print_feed-requires : goal.print_feed-requires
print_feed-requires g c κs = grind arith

pub print_feed-requires-in-InverseTime : goal.print_feed-requires-in-InverseTime
print_feed-requires-in-InverseTime g c κs = grind arith

pub returns-in-Traverse-clause-ok : goal.returns-in-Traverse-clause-ok
returns-in-Traverse-clause-ok g c = grind arith

pub returns-in-Traverse-clause-err : goal.returns-in-Traverse-clause-err
returns-in-Traverse-clause-err g c = grind arith

pub returns-in-Feed-clause-ok : goal.returns-in-Feed-clause-ok
returns-in-Feed-clause-ok g c = grind arith

pub returns-in-Feed-clause-err : goal.returns-in-Feed-clause-err
returns-in-Feed-clause-err g c = grind arith

pub returns-in-InverseTime-clause-ok : goal.returns-in-InverseTime-clause-ok
returns-in-InverseTime-clause-ok g c = grind arith

pub returns-in-InverseTime-clause-err : goal.returns-in-InverseTime-clause-err
returns-in-InverseTime-clause-err g c = grind arith
