use Rattle.std.proofs.Common.{arith, rules}
use Rattle.ng_block.proofs.shifts.slot_by.Goals as goal

pub length_slot-requires : goal.length_slot-requires
length_slot-requires c = omega arith

pub unwrap_or-requires : goal.unwrap_or-requires
unwrap_or-requires c κs = search rules

pub returns-in-OfSlot : goal.returns-in-OfSlot
returns-in-OfSlot c = grind arith

pub returns-in-Zero : goal.returns-in-Zero
returns-in-Zero c = grind arith
