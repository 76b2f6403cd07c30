use Rattle.std.proofs.Common.{◌+◌, arith}
use Rattle.std.proofs.lemmas.Result.{err_from_is_err_and}
use Rattle.ng_journal.specs.Formatting.{IsEmpty}
use Rattle.ng_journal.proofs.OverwriteLemmas.{more, fails, synced, sync_fails}
use Rattle.ng_journal.proofs.formatting.clear_headers.Goals as goal

pub returns-in_err-write-clause-clears : goal.returns-in_err-write-clause-clears
returns-in_err-write-clause-clears g c =
    let p = err_from_is_err_and c.from_residual.result c.from_residual.ensures.1 in
    rw p.1 (fails p.0 c.write.result c.loop-k.k c.loop-k.k 0 2 IsEmpty c.empty_sector.result _ _ _
    c.loop-k-test.true (omega arith) c.empty_sector.ensures c.loop-k.invariant c.write.ensures.trace)

pub returns-in_err-sync-clause-clears : goal.returns-in_err-sync-clause-clears
returns-in_err-sync-clause-clears g c =
    let p = err_from_is_err_and c.from_residual-in_err-sync.result c.from_residual-in_err-sync.ensures.1 in
    let one = more c.loop-k.k c.loop-k.k 0 2 IsEmpty c.empty_sector.result _ _ _ c.loop-k-test.true (omega arith)
    c.empty_sector.ensures c.loop-k.invariant c.in_ok-write.ensures.trace c.in_ok-write.ensures.call in
    rw p.1 (sync_fails p.0 (c.loop-k.k + 1) 0 2 IsEmpty _ _ _ one c.in_err-sync.ensures.trace)

pub loop-k-preserved : goal.loop-k-preserved
loop-k-preserved g c =
    let one = more c.loop-k.k c.loop-k.k 0 2 IsEmpty c.empty_sector.result _ _ _ c.loop-k-test.true (omega arith)
    c.empty_sector.ensures c.loop-k.invariant c.in_ok-write.ensures.trace c.in_ok-write.ensures.call in
    synced (c.loop-k.k + 1) 0 2 IsEmpty _ _ _ one c.in_ok-sync.ensures.trace c.in_ok-sync.ensures.call
