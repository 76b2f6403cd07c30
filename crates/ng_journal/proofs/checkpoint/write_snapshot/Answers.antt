use Rattle.std.proofs.Common.{◌+◌, refl}
use Rattle.ng_layout.specs.Areas.{snapshot_size}
use Rattle.ng_layout.specs.Snapshot.{HoldsPart}
use Rattle.std.proofs.lemmas.Result.{err_from_is_err_and}
use Rattle.ng_journal.proofs.OverwriteLemmas.{more, fails}
use Rattle.ng_journal.proofs.checkpoint.write_snapshot.Goals as goal

pub returns-in_err-write-clause-area : goal.returns-in_err-write-clause-area
returns-in_err-write-clause-area g c =
    let p = err_from_is_err_and c.from_residual.result c.from_residual.ensures.1 in
    rw p.1 (fails p.0 c.write.result c.loop-part.part (c.args.first + c.loop-part.part) c.args.first snapshot_size
    (HoldsPart c.args.stored.now) c.sector.result _ _ _
    c.loop-part-test.true refl c.sector.ensures c.loop-part.invariant c.write.ensures.trace)

pub loop-part-preserved : goal.loop-part-preserved
loop-part-preserved g c = more c.loop-part.part (c.args.first + c.loop-part.part) c.args.first snapshot_size (HoldsPart c.args.stored.now) c.sector.result _ _ _
    c.loop-part-test.true refl c.sector.ensures c.loop-part.invariant c.in_ok-write.ensures.trace c.in_ok-write.ensures.call
