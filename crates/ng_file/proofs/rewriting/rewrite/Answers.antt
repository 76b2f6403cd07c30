use Rattle.std.proofs.Common.{◌<◌, arith}
use Rattle.ng_file.specs.WeakPromise.{IsFirstOrLast}
use Rattle.ng_file.proofs.RewriteLemmas.{same-first, same-then}
use Rattle.ng_file.proofs.WeakPromiseLemmas.{first-and-last, first-failed, first-more, nothing}
use Rattle.ng_file.proofs.rewriting.rewrite.Goals as goal

pub loop-sector-init : goal.loop-sector-init
loop-sector-init g c =
    let old = g.S.Storage.content c.args.file.now in
    record {
      same = same-first old (g.S.Storage.content c.length.new.self) c.length.ensures.bytes;
      honest = c.length.ensures.promised.keeps;
      weakly = nothing old (λ held n. n < 0) (λ held n lt. omega (arith, lt)) c.length.ensures.weakly;
    }

pub returns-in_err-rewrite_sector-clause-same : goal.returns-in_err-rewrite_sector-clause-same
returns-in_err-rewrite_sector-clause-same g c =
    same-then (g.S.Storage.content c.args.file.now) (g.S.Storage.content c.loop-sector.file) (g.S.Storage.content c.rewrite_sector.new.file)
    c.loop-sector.invariant.same c.rewrite_sector.ensures.same

pub returns-in_err-rewrite_sector-clause-honest : goal.returns-in_err-rewrite_sector-clause-honest
returns-in_err-rewrite_sector-clause-honest g c = λ honest. c.rewrite_sector.ensures.honest (c.loop-sector.invariant.honest honest)

pub returns-in_err-rewrite_sector-clause-weakly : goal.returns-in_err-rewrite_sector-clause-weakly
returns-in_err-rewrite_sector-clause-weakly g c =
    first-failed c.rewrite_sector.result c.from_residual-in_err-rewrite_sector.result (g.S.Storage.content c.args.file.now)
    (g.S.Storage.content c.loop-sector.file) c.loop-sector.sector (IsFirstOrLast c.args.most) c.from_residual-in_err-rewrite_sector.ensures.0
    c.loop-sector.invariant.same c.loop-sector.invariant.weakly c.rewrite_sector.ensures.weakly

pub loop-sector-preserved : goal.loop-sector-preserved
loop-sector-preserved g c =
    let old = g.S.Storage.content c.args.file.now in
    let mid = g.S.Storage.content c.loop-sector.file in
    let was = c.loop-sector.invariant in
    record {
      same = same-then old mid (g.S.Storage.content c.rewrite_sector.new.file) was.same c.in_ok-rewrite_sector.ensures.same;
      honest = λ honest. c.in_ok-rewrite_sector.ensures.honest (was.honest honest);
      weakly = first-more old mid c.loop-sector.sector was.same was.weakly c.in_ok-rewrite_sector.ensures.weakly;
    }

pub returns-clause-same : goal.returns-clause-same
returns-clause-same g c =
    same-then (g.S.Storage.content c.args.file.now) (g.S.Storage.content c.loop-sector.file) (g.S.Storage.content c.rewrite_sector-2.new.file)
    c.loop-sector.invariant.same c.rewrite_sector-2.ensures.same

pub returns-clause-honest : goal.returns-clause-honest
returns-clause-honest g c = λ honest. c.rewrite_sector-2.ensures.honest (c.loop-sector.invariant.honest honest)

pub returns-clause-weakly : goal.returns-clause-weakly
returns-clause-weakly g c =
    let was = c.loop-sector.invariant in
    first-and-last c.rewrite_sector-2.result (g.S.Storage.content c.args.file.now) (g.S.Storage.content c.loop-sector.file) c.in_ok-sectors.field-0
    c.args.most c.loop-sector.sector c.saturating_sub.result c.in_ok-sectors.ensures.value (omega arith) c.saturating_sub.ensures was.same was.weakly
    c.rewrite_sector-2.ensures.weakly
