use Rattle.ng_console.proofs.DryRunLemmas.{reports}
use Rattle.ng_console.proofs.program.run_dry.Goals as goal

pub returns-clause-text : goal.returns-clause-text
returns-clause-text g c =
    reports c.args.settings.now c.args.block_delete _ _ _ c.dry-ended.result c.status.result c.status.ensures c.dry-ended.ensures
