use Rattle.std.proofs.lemmas.Grind.{common_steps}
use Rattle.std.proofs.Common.{arith, rules}
use Rattle.ng_rig.proofs.replay.stop_image.Goals as goal

pub new-image-requires : goal.new-image-requires
new-image-requires g c κs = search rules

pub extend_from_slice-requires : goal.extend_from_slice-requires
extend_from_slice-requires g c κs = search rules

pub branch-extend_from_slice-requires : goal.branch-extend_from_slice-requires
branch-extend_from_slice-requires g c κs = search rules

pub from_residual-requires : goal.from_residual-requires
from_residual-requires g c κs = search rules

pub drop-image-requires : goal.drop-image-requires
drop-image-requires g c κs = search rules

pub new-written-requires : goal.new-written-requires
new-written-requires g c κs = search rules

pub resize-requires : goal.resize-requires
resize-requires g c κs = search rules

pub branch-resize-requires : goal.branch-resize-requires
branch-resize-requires g c κs = search rules

pub from_residual-requires-in_err-resize : goal.from_residual-requires-in_err-resize
from_residual-requires-in_err-resize g c κs = search rules

pub drop-written-requires : goal.drop-written-requires
drop-written-requires g c κs = search rules

pub drop-image-requires-in_err-resize : goal.drop-image-requires-in_err-resize
drop-image-requires-in_err-resize g c κs = search rules

pub returns-in_err-resize-clause-whole : goal.returns-in_err-resize-clause-whole
returns-in_err-resize-clause-whole g c = grind arith

pub returns-in_err-resize-clause-size : goal.returns-in_err-resize-clause-size
returns-in_err-resize-clause-size g c = grind arith

pub returns-in_err-resize-clause-image : goal.returns-in_err-resize-clause-image
returns-in_err-resize-clause-image g c = grind arith

pub deref_mut-requires : goal.deref_mut-requires
deref_mut-requires g c κs = search rules

pub deref_mut-requires-2 : goal.deref_mut-requires-2
deref_mut-requires-2 g c κs = search rules

pub replay_stop-requires-clause-within : goal.replay_stop-requires-clause-within
replay_stop-requires-clause-within g c = grind arith

pub replay_stop-requires-clause-size : goal.replay_stop-requires-clause-size
replay_stop-requires-clause-size g c = grind arith

pub replay_stop-requires-clause-none : goal.replay_stop-requires-clause-none
replay_stop-requires-clause-none g c = grind (arith, common_steps)

pub drop-written-requires-2 : goal.drop-written-requires-2
drop-written-requires-2 g c κs = search rules

pub returns-clause-whole : goal.returns-clause-whole
returns-clause-whole g c = grind (arith, common_steps)

pub returns-clause-size : goal.returns-clause-size
returns-clause-size g c = grind (arith, common_steps)

pub returns-clause-image : goal.returns-clause-image
returns-clause-image g c = grind (arith, common_steps)
