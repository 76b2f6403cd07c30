use Rattle.std.proofs.lemmas.Grind.{common_steps}
use Rattle.std.proofs.Common.{arith}
use Rattle.ng_block.proofs.block_segments.BlockSegmentsLeft.next_of_actions.Goals as goal

pub loop-self-init : goal.loop-self-init
loop-self-init c = grind arith

pub len-requires : goal.len-requires
len-requires c = omega arith

pub as_slice-requires : goal.as_slice-requires
as_slice-requires c = omega arith

pub offset_bounds-as_slice-self : goal.offset_bounds-as_slice-self
offset_bounds-as_slice-self c = omega arith

pub bounds-as_slice-self : goal.bounds-as_slice-self
bounds-as_slice-self c = grind arith

pub overflow_add-self : goal.overflow_add-self
overflow_add-self c = omega arith

pub outputs_after-self-requires : goal.outputs_after-self-requires
outputs_after-self-requires c = omega arith

pub segment-requires : goal.segment-requires
segment-requires c = omega arith

pub returns-in-Some-clause-moves : goal.returns-in-Some-clause-moves
returns-in-Some-clause-moves c = grind arith

pub returns-in-Some-clause-stop : goal.returns-in-Some-clause-stop
returns-in-Some-clause-stop c = grind (arith, common_steps)

pub returns-in-Some-clause-next : goal.returns-in-Some-clause-next
returns-in-Some-clause-next c = grind (arith, common_steps)

pub loop-self-smaller : goal.loop-self-smaller
loop-self-smaller c = omega arith

pub loop-self-preserved : goal.loop-self-preserved
loop-self-preserved c = grind (arith, common_steps)

pub returns-clause-moves : goal.returns-clause-moves
returns-clause-moves c = grind arith

pub returns-clause-stop : goal.returns-clause-stop
returns-clause-stop c = grind arith

pub returns-clause-next : goal.returns-clause-next
returns-clause-next c = grind (arith, common_steps)
