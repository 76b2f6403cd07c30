use Rattle.std.proofs.Common.{arith, rules}
use Rattle.ng_layout.proofs.tools.slot_change.Goals as goal

pub get_u16-slot-requires : goal.get_u16-slot-requires
get_u16-slot-requires c = omega arith

pub get_i64-length-requires : goal.get_i64-length-requires
get_i64-length-requires c = omega arith

pub tool_length_of-requires : goal.tool_length_of-requires
tool_length_of-requires c = omega arith

pub branch-length-requires : goal.branch-length-requires
branch-length-requires c κs = search rules

pub from_residual-requires : goal.from_residual-requires
from_residual-requires c κs = search rules

pub returns-in_err-length-clause-slot : goal.returns-in_err-length-clause-slot
returns-in_err-length-clause-slot c = grind arith

pub returns-in_err-length-clause-tool : goal.returns-in_err-length-clause-tool
returns-in_err-length-clause-tool c = grind arith

pub returns-then-slot-eq0-clause-slot : goal.returns-then-slot-eq0-clause-slot
returns-then-slot-eq0-clause-slot c = omega arith

pub returns-then-slot-eq0-clause-tool : goal.returns-then-slot-eq0-clause-tool
returns-then-slot-eq0-clause-tool c = omega arith

pub overflow_cast-slot : goal.overflow_cast-slot
overflow_cast-slot c = omega arith

pub overflow_add-slots : goal.overflow_add-slots
overflow_add-slots c = omega arith

pub overflow_cast-slot-else-slot-slots : goal.overflow_cast-slot-else-slot-slots
overflow_cast-slot-else-slot-slots c = omega arith

pub returns-then-slot-slots-clause-slot : goal.returns-then-slot-slots-clause-slot
returns-then-slot-slots-clause-slot c = omega arith

pub returns-then-slot-slots-clause-tool : goal.returns-then-slot-slots-clause-tool
returns-then-slot-slots-clause-tool c = omega arith

pub overflow_cast-result : goal.overflow_cast-result
overflow_cast-result c = omega arith

pub returns-clause-slot : goal.returns-clause-slot
returns-clause-slot c = omega arith

pub returns-clause-tool : goal.returns-clause-tool
returns-clause-tool c = grind arith
