use Rattle.std.proofs.Common.{◌+◌, ◌*◌, ◌<◌, length, ap, refl, ◌∙◌, arith, rules}
use Rattle.ng_rig.proofs.GuaranteeLemmas.{promised, onto}
use Rattle.ng_rig.specs.Trace.{reads}
use Rattle.ng_log.specs.Private.ReadSteps.{from_log}
use Rattle.ng_log.proofs.LogScanLemmas.{makes_no_changes, makes_part, damaged_part, sector_here, with_long}
use Rattle.ng_log.proofs.scanning.take_all_changes.Goals as goal

pub loop-i-init : goal.loop-i-init
loop-i-init g c = record {
  read = promised (refl, makes_no_changes (from_log (reads (g.R.Rig.seen c.args.rig.now).trace)) c.args.at c.args.changes c.args.table.now);
  long = c.requires.long;
  size = refl;
  failures = refl;
}

pub returns-then-not-take_changes-clause-read : goal.returns-then-not-take_changes-clause-read
returns-then-not-take_changes-clause-read g c =
    let old = (g.R.Rig.seen c.args.rig.now).trace in
    let few : 48 * c.loop-i.i < c.args.changes = omega (arith, c.loop-i-test.true, c.parts_for-i-end.ensures.value) in
    onto _ c.loop-i.invariant.read c.in_ok-sector.ensures.read (λ p q. record {
      same = q.same ∙ p.0;
      right =
          let s = sector_here old _ _ (c.args.at + 1 + c.loop-i.i) c.in_ok-sector.sector (omega arith) p.0 q.right in
          damaged_part (from_log (reads old)) c.args.at c.loop-i.i c.min-count.result c.args.changes
          c.in_ok-sector.sector _ _ p.1 few c.min-count.ensures s c.if-not-take_changes.ensures;
    })

pub loop-i-preserved : goal.loop-i-preserved
loop-i-preserved g c =
    let old = (g.R.Rig.seen c.args.rig.now).trace in
    let inv = c.loop-i.invariant in
    let few : 48 * c.loop-i.i < c.args.changes = omega (arith, c.loop-i-test.true, c.parts_for-i-end.ensures.value) in
    let m = c.if-not-take_changes.ensures in
    record {
      read = onto _ inv.read c.in_ok-sector.ensures.read (λ p q. (
        q.same ∙ p.0,
        (let s = sector_here old _ _ (c.args.at + 1 + c.loop-i.i) c.in_ok-sector.sector (omega arith) p.0 q.right in
            makes_part (from_log (reads old)) c.args.at c.loop-i.i c.min-count.result c.args.changes
            c.in_ok-sector.sector _ _ _ p.1 few c.min-count.ensures s m),
      ));
      long = ap length m.is ∙ with_long c.loop-i.table m.changes ∙ inv.long;
      size = c.in_ok-sector.ensures.call.size ∙ inv.size;
      failures = c.in_ok-sector.ensures.call.failures ∙ inv.failures;
    }

pub parts_for-i-end-requires : goal.parts_for-i-end-requires
parts_for-i-end-requires g c = omega arith

pub overflow_sub-i-end : goal.overflow_sub-i-end
overflow_sub-i-end g c = omega arith

pub overflow_add-at : goal.overflow_add-at
overflow_add-at g c = omega arith

pub overflow_add-at-in-loop-i : goal.overflow_add-at-in-loop-i
overflow_add-at-in-loop-i g c = omega arith

pub overflow_add-at-in-loop-i-2 : goal.overflow_add-at-in-loop-i-2
overflow_add-at-in-loop-i-2 g c = omega arith

pub read_sector-requires : goal.read_sector-requires
read_sector-requires g c = omega arith

pub branch-sector-requires : goal.branch-sector-requires
branch-sector-requires g c κs = search rules

pub from_residual-requires : goal.from_residual-requires
from_residual-requires g c κs = search rules

pub returns-in_err-sector-clause-read : goal.returns-in_err-sector-clause-read
returns-in_err-sector-clause-read g c = grind arith

pub returns-in_err-sector-clause-long : goal.returns-in_err-sector-clause-long
returns-in_err-sector-clause-long g c = grind arith

pub returns-in_err-sector-clause-call : goal.returns-in_err-sector-clause-call
returns-in_err-sector-clause-call g c = grind arith

pub overflow_mul-i : goal.overflow_mul-i
overflow_mul-i g c = omega arith

pub overflow_sub-changes : goal.overflow_sub-changes
overflow_sub-changes g c = omega arith

pub min-count-requires : goal.min-count-requires
min-count-requires g c = omega arith

pub take_changes-requires : goal.take_changes-requires
take_changes-requires g c = omega arith

pub returns-then-not-take_changes-clause-long : goal.returns-then-not-take_changes-clause-long
returns-then-not-take_changes-clause-long g c = omega arith

pub returns-then-not-take_changes-clause-call : goal.returns-then-not-take_changes-clause-call
returns-then-not-take_changes-clause-call g c = grind arith

pub loop-i-smaller : goal.loop-i-smaller
loop-i-smaller g c = omega arith

pub returns-clause-read : goal.returns-clause-read
returns-clause-read g c = grind arith

pub returns-clause-long : goal.returns-clause-long
returns-clause-long g c = omega arith

pub returns-clause-call : goal.returns-clause-call
returns-clause-call g c = omega arith
