use Rattle.std.proofs.Common.{◌+◌, refl}
use Rattle.ng_layout.specs.Areas.{tools_size}
use Rattle.ng_layout.specs.Snapshot.{HoldsToolPart}
use Rattle.std.proofs.lemmas.Result.{err_from_is_err_and}
use Rattle.ng_journal.proofs.OverwriteLemmas.{more, fails}
use Rattle.ng_journal.proofs.checkpoint.write_tools.Goals as goal

pub returns-in_err-write-clause-tools : goal.returns-in_err-write-clause-tools
returns-in_err-write-clause-tools g c =
    let p = err_from_is_err_and c.from_residual.result c.from_residual.ensures.1 in
    rw p.1 (fails p.0 c.write.result c.loop-part.part (c.args.first + c.loop-part.part) c.args.first tools_size
    (HoldsToolPart c.args.stored.now) c.tool_sector.result _ _ _
    c.loop-part-test.true refl c.tool_sector.ensures c.loop-part.invariant c.write.ensures.trace)

pub loop-part-preserved : goal.loop-part-preserved
loop-part-preserved g c = more c.loop-part.part (c.args.first + c.loop-part.part) c.args.first tools_size
    (HoldsToolPart c.args.stored.now) c.tool_sector.result _ _ _
    c.loop-part-test.true refl c.tool_sector.ensures c.loop-part.invariant c.in_ok-write.ensures.trace c.in_ok-write.ensures.call
