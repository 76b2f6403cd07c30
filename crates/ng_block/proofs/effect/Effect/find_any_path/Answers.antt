use Rattle.std.proofs.Common.{arith, rules}
use Rattle.ng_block.proofs.effect.Effect.find_any_path.Goals as goal

pub clear-requires : goal.clear-requires
clear-requires g c = omega arith

pub put_changes-requires : goal.put_changes-requires
put_changes-requires g c = grind arith

pub keeps_offsets-requires : goal.keeps_offsets-requires
keeps_offsets-requires g c = omega arith

pub find_path-requires-clause-short : goal.find_path-requires-clause-short
find_path-requires-clause-short g c = omega arith

pub find_path-requires-clause-assignments : goal.find_path-requires-clause-assignments
find_path-requires-clause-assignments g c = grind arith

pub find_path-requires-clause-slot : goal.find_path-requires-clause-slot
find_path-requires-clause-slot g c = grind arith

pub returns-then-not-keeps_offsets-clause-value : goal.returns-then-not-keeps_offsets-clause-value
returns-then-not-keeps_offsets-clause-value g c = grind arith

pub returns-then-not-keeps_offsets-clause-fits : goal.returns-then-not-keeps_offsets-clause-fits
returns-then-not-keeps_offsets-clause-fits g c = grind arith

pub clear-requires-2 : goal.clear-requires-2
clear-requires-2 g c κs = search rules

pub end_of-requires : goal.end_of-requires
end_of-requires g c = omega arith

pub branch-end-requires : goal.branch-end-requires
branch-end-requires g c κs = search rules

pub from_residual-requires : goal.from_residual-requires
from_residual-requires g c κs = search rules

pub straight_pace-pace-requires : goal.straight_pace-pace-requires
straight_pace-pace-requires g c = omega arith

pub go_straight-requires : goal.go_straight-requires
go_straight-requires g c = omega arith

pub put_path-requires : goal.put_path-requires
put_path-requires g c κs = grind arith

pub returns-in-Some-Arc-clause-value : goal.returns-in-Some-Arc-clause-value
returns-in-Some-Arc-clause-value g c = grind arith

pub returns-in-Some-Arc-clause-fits : goal.returns-in-Some-Arc-clause-fits
returns-in-Some-Arc-clause-fits g c = grind arith
