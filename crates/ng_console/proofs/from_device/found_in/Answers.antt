use Rattle.ng_console.proofs.DeviceCopyLemmas.{finds_nothing, finds_otherwise, finds_stored}
use Rattle.ng_console.proofs.from_device.found_in.Goals as goal

pub returns-in-Ok : goal.returns-in-Ok
returns-in-Ok g c =
    λ held is. finds_stored c.args.settings.now.tools held c.args.copy c.in-Ok.journal c.in-Ok.stored is c.in-Ok.ensures.recovers c.in-Ok.ensures.small

pub returns-in-Err : goal.returns-in-Err
returns-in-Err g c =
    λ held is. finds_otherwise c.args.settings.now.tools held c.in-Err.fault c.in_memory.result c.in_memory.ensures
    (finds_nothing c.args.settings.now.tools held c.args.copy c.in-Err.fault _ is c.in-Err.ensures.recovers
    (λ few. (c.in-Err.ensures.small few).0) c.in-Err.ensures.faults)
