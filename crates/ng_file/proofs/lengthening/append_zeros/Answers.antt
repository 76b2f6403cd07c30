use Rattle.std.proofs.Common.{◌+◌, ◌≤◌, arith}
use Rattle.ng_file.proofs.ZeroAppendLemmas.{on_err, zeros-joined, zeros-more-begun}
use Rattle.ng_file.proofs.lengthening.append_zeros.Goals as goal

pub loop-appended-preserved : goal.loop-appended-preserved
loop-appended-preserved g c =
    (omega arith, zeros-joined _ _ _ c.loop-appended.appended _ c.loop-appended.invariant.1 c.in_ok-append_piece.ensures.whole)

pub returns-in_err-append_piece-clause-part : goal.returns-in_err-append_piece-clause-part
returns-in_err-append_piece-clause-part g c =
    let fits : c.loop-appended.appended + c.min-piece.result ≤ c.args.count = omega arith in
    on_err c.from_residual.result
    (zeros-more-begun _ _ _ c.loop-appended.appended c.min-piece.result c.args.count fits c.loop-appended.invariant.1 c.in_err-append_piece.ensures.part)
