use Rattle.std.proofs.lemmas.Result.{err_from_is_err_and}
use Rattle.ng_rig.proofs.GuaranteeLemmas.{onto, meaning}
use Rattle.ng_journal.proofs.WrittenSectorLemmas.{areas_failed, areas_one, areas_two}
use Rattle.ng_journal.proofs.checkpoint.write_areas.Goals as goal

pub returns-in_err-write_snapshot-clause-areas : goal.returns-in_err-write_snapshot-clause-areas
returns-in_err-write_snapshot-clause-areas g c =
    let p = err_from_is_err_and c.from_residual.result c.from_residual.ensures.1 in
    rw p.1 (meaning c.write_snapshot.ensures.area
    (λ a. areas_failed p.0 c.write_snapshot.result c.snapshot_first.result c.args.next c.args.stored.now _ _
    c.snapshot_first.ensures.is a))

pub returns-in-One-clause-areas : goal.returns-in-One-clause-areas
returns-in-One-clause-areas g c = meaning c.in_ok-write_snapshot.ensures.area
    (λ a. areas_one _ _ c.snapshot_first.result c.args.next c.args.stored.now _ _ c.snapshot_first.ensures.is
    c.in-One.is a)

pub returns-in-Two-clause-areas : goal.returns-in-Two-clause-areas
returns-in-Two-clause-areas g c = onto _ c.in_ok-write_snapshot.ensures.area c.write_tools.ensures.tools
    (λ a t. areas_two c.write_tools.result _ c.snapshot_first.result c.tools_first.result c.args.next
    c.args.stored.now _ _ _ c.snapshot_first.ensures.is c.tools_first.ensures.is c.in-Two.is a t)
