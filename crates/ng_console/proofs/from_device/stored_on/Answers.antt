use Rattle.ng_console.proofs.DeviceCopyLemmas.{on_held}
use Rattle.ng_console.proofs.from_device.stored_on.Goals as goal

pub returns-in-Ok-clause-finds : goal.returns-in-Ok-clause-finds
returns-in-Ok-clause-finds g c = on_held _ _ _ c.in-Ok.ensures.copy c.found_in.ensures
