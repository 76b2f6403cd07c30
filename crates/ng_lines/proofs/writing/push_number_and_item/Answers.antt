use Rattle.std.proofs.lemmas.Grind.{common_steps}
use Rattle.std.proofs.Common.{arith, rules}
use Rattle.ng_lines.proofs.writing.push_number_and_item.Goals as goal

pub print_whole-requires : goal.print_whole-requires
print_whole-requires g c κs = grind arith

pub branch-print_whole-requires : goal.branch-print_whole-requires
branch-print_whole-requires g c κs = search rules

pub from_residual-requires : goal.from_residual-requires
from_residual-requires g c κs = search rules

pub returns-in_err-print_whole : goal.returns-in_err-print_whole
returns-in_err-print_whole g c = grind arith

pub extend_from_slice-requires : goal.extend_from_slice-requires
extend_from_slice-requires g c κs = search rules

pub branch-extend_from_slice-requires : goal.branch-extend_from_slice-requires
branch-extend_from_slice-requires g c κs = search rules

pub returns-in_err-extend_from_slice : goal.returns-in_err-extend_from_slice
returns-in_err-extend_from_slice g c = grind arith

pub push_item-requires : goal.push_item-requires
push_item-requires g c κs = grind arith

pub returns : goal.returns
returns g c = grind (arith, common_steps)
