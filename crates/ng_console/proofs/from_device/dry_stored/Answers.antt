use Rattle.ng_console.proofs.DryRunLemmas.{reports_taken}
use Rattle.ng_console.proofs.from_device.dry_stored.Goals as goal

pub returns-clause-run : goal.returns-clause-run
returns-clause-run g c =
    reports_taken c.args.settings.now c.args.block_delete c.args.stored _ _ _ _ _ _ c.dry_from-ended.result
    c.status.result c.stored.view_is c.state.view_is c.clear_passing.ensures
    c.status.ensures c.dry_from-ended.ensures
