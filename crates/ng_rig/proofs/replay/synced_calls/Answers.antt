use Rattle.std.proofs.lemmas.Grind.{common_steps}
use Rattle.std.proofs.Common.{arith}
use Rattle.ng_rig.proofs.replay.synced_calls.Goals as goal

pub loop-i-init : goal.loop-i-init
loop-i-init c = grind arith

pub offset_bounds-calls-i : goal.offset_bounds-calls-i
offset_bounds-calls-i c = omega arith

pub bounds-calls-i : goal.bounds-calls-i
bounds-calls-i c = omega arith

pub overflow_add-synced : goal.overflow_add-synced
overflow_add-synced c = omega arith

pub loop-i-smaller : goal.loop-i-smaller
loop-i-smaller c = omega arith

pub loop-i-preserved : goal.loop-i-preserved
loop-i-preserved c = grind (arith, common_steps)

pub returns : goal.returns
returns c = grind (arith, common_steps)
