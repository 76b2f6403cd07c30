use Rattle.std.proofs.lemmas.Grind.{common_steps}
use Rattle.std.proofs.Common.{arith, rules}
use Rattle.ng_dry.proofs.output.push_line_number.Goals as goal

pub extend_from_slice-requires : goal.extend_from_slice-requires
extend_from_slice-requires g c κs = search rules

pub branch-extend_from_slice-requires : goal.branch-extend_from_slice-requires
branch-extend_from_slice-requires g c κs = search rules

pub from_residual-requires : goal.from_residual-requires
from_residual-requires g c κs = search rules

pub returns-in_err-extend_from_slice-clause-ok : goal.returns-in_err-extend_from_slice-clause-ok
returns-in_err-extend_from_slice-clause-ok g c = grind arith

pub returns-in_err-extend_from_slice-clause-err : goal.returns-in_err-extend_from_slice-clause-err
returns-in_err-extend_from_slice-clause-err g c = search rules

pub print_whole-requires : goal.print_whole-requires
print_whole-requires g c κs = grind arith

pub branch-print_whole-requires : goal.branch-print_whole-requires
branch-print_whole-requires g c κs = search rules

pub from_residual-requires-in_err-print_whole : goal.from_residual-requires-in_err-print_whole
from_residual-requires-in_err-print_whole g c κs = search rules

pub returns-in_err-print_whole-clause-ok : goal.returns-in_err-print_whole-clause-ok
returns-in_err-print_whole-clause-ok g c = grind arith

pub returns-in_err-print_whole-clause-err : goal.returns-in_err-print_whole-clause-err
returns-in_err-print_whole-clause-err g c = grind arith

pub extend_from_slice-requires-2 : goal.extend_from_slice-requires-2
extend_from_slice-requires-2 g c κs = search rules

pub returns-clause-ok : goal.returns-clause-ok
returns-clause-ok g c = grind (arith, common_steps)

pub returns-clause-err : goal.returns-clause-err
returns-clause-err g c = grind (arith, common_steps)
