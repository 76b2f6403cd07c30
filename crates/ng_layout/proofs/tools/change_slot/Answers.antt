use Rattle.std.proofs.Common.{arith}
use Rattle.ng_layout.proofs.tools.change_slot.Goals as goal

pub set-requires-clause-slot : goal.set-requires-clause-slot
set-requires-clause-slot c = (c.requires _ c.in-Some.is).slot

pub set-requires-clause-fits : goal.set-requires-clause-fits
set-requires-clause-fits c = (c.requires _ c.in-Some.is).most

pub set-requires-clause-tool : goal.set-requires-clause-tool
set-requires-clause-tool c = grind arith

pub returns-in-Some : goal.returns-in-Some
returns-in-Some c = grind arith

pub returns-in_default : goal.returns-in_default
returns-in_default c = grind arith
