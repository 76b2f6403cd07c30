use Rattle.std.proofs.Common.{arith}
use Rattle.ng_session.proofs.current_block.CurrentBlock.update_by_approach.Goals as goal

pub overflow_add-result : goal.overflow_add-result
overflow_add-result g c = grind arith

pub as_slice-requires : goal.as_slice-requires
as_slice-requires g c = omega arith

pub text_from-requires : goal.text_from-requires
text_from-requires g c = omega arith

pub slice_bounds-result-end : goal.slice_bounds-result-end
slice_bounds-result-end g c = omega arith

pub returns-clause-value : goal.returns-clause-value
returns-clause-value g c = grind arith

pub returns-clause-changes : goal.returns-clause-changes
returns-clause-changes g c = grind arith

pub returns-clause-slot : goal.returns-clause-slot
returns-clause-slot g c = grind arith
