use Rattle.std.proofs.Common.{◌+◌, refl}
use Rattle.ng_layout.specs.Areas.{shortest_log, log_first}
use Rattle.ng_journal.specs.Formatting.{IsEmpty}
use Rattle.std.proofs.lemmas.Result.{err_from_is_err_and}
use Rattle.ng_journal.proofs.OverwriteLemmas.{more, fails}
use Rattle.ng_journal.proofs.formatting.clear_log.Goals as goal

pub returns-in_err-write-clause-clears : goal.returns-in_err-write-clause-clears
returns-in_err-write-clause-clears g c =
    let p = err_from_is_err_and c.from_residual.result c.from_residual.ensures.1 in
    rw p.1 (fails p.0 c.write.result c.loop-n.n (log_first + c.loop-n.n) log_first shortest_log IsEmpty c.empty_sector.result _ _ _
    c.loop-n-test.true refl c.empty_sector.ensures c.loop-n.invariant c.write.ensures.trace)

pub loop-n-preserved : goal.loop-n-preserved
loop-n-preserved g c = more c.loop-n.n (log_first + c.loop-n.n) log_first shortest_log IsEmpty c.empty_sector.result _ _ _
    c.loop-n-test.true refl c.empty_sector.ensures c.loop-n.invariant c.in_ok-write.ensures.trace c.in_ok-write.ensures.call
