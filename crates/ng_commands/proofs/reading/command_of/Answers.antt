use Rattle.ng_commands.proofs.CommandStartLemmas.{not_placed, not_tooled}
use Rattle.ng_commands.proofs.reading.command_of.Goals as goal

pub returns-in-None-point : goal.returns-in-None-point
returns-in-None-point c = not_placed _ _ c.in-Some-strip_prefix-3.ensures c.in-None-point.ensures

pub returns-in-None-slot_and_length : goal.returns-in-None-slot_and_length
returns-in-None-slot_and_length c = not_tooled _ _ c.in-Some-strip_prefix-4.ensures c.in-None-slot_and_length.ensures
