use Rattle.std.proofs.Common.{◌+◌, refl, ◌∙◌, arith, rules}
use Rattle.ng_rig.proofs.GuaranteeLemmas.{promised, onto, meaning}
use Rattle.ng_rig.specs.Trace.{reads}
use Rattle.ng_layout.specs.Part.{label_of}
use Rattle.ng_log.specs.Private.ReadSteps.{from_log}
use Rattle.ng_log.proofs.LogScanLemmas.{stand_none, stand_more, part_missing, sector_here}
use Rattle.ng_log.proofs.scanning.later_parts_stand.Goals as goal

pub loop-part-init : goal.loop-part-init
loop-part-init g c = record {
  read = promised (refl, stand_none c.args.at (label_of c.args.first) (reads (g.R.Rig.seen c.args.rig.now).trace));
  size = refl;
  failures = refl;
}

pub returns-then-not-is_of-clause-read : goal.returns-then-not-is_of-clause-read
returns-then-not-is_of-clause-read g c =
    let old = (g.R.Rig.seen c.args.rig.now).trace in
    onto _ c.loop-part.invariant.read c.in_ok-sector.ensures.read (λ p q. record {
      same = q.same ∙ p.0;
      right =
          let s = sector_here old _ _ (c.args.at + c.loop-part.part) c.in_ok-sector.sector (omega arith) p.0 q.right in
          part_missing (from_log (reads old)) c.args.at (label_of c.args.first) c.args.first.parts c.loop-part.part
          c.in_ok-sector.sector c.is_of.result c.loop-part-test.true s c.is_of.ensures c.if-not-is_of.true;
    })

pub loop-part-preserved : goal.loop-part-preserved
loop-part-preserved g c =
    let old = (g.R.Rig.seen c.args.rig.now).trace in
    let inv = c.loop-part.invariant in
    record {
      read = onto _ inv.read c.in_ok-sector.ensures.read (λ p q. (
        q.same ∙ p.0,
        (let s = sector_here old _ _ (c.args.at + c.loop-part.part) c.in_ok-sector.sector (omega arith) p.0 q.right in
            stand_more c.loop-part.part c.args.at (label_of c.args.first) (reads old) c.in_ok-sector.sector
            c.is_of.result s c.is_of.ensures c.if-not-is_of.false p.1),
      ));
      size = c.in_ok-sector.ensures.call.size ∙ inv.size;
      failures = c.in_ok-sector.ensures.call.failures ∙ inv.failures;
    }

pub returns-clause-read : goal.returns-clause-read
returns-clause-read g c = meaning c.loop-part.invariant.read
    (λ p. record { same = p.0; right = λ j some below. p.1 j some (omega (arith, below, c.loop-part-test.false)) })

pub overflow_add-at : goal.overflow_add-at
overflow_add-at g c = omega arith

pub overflow_cast-part : goal.overflow_cast-part
overflow_cast-part g c = omega arith

pub overflow_add-at-in-loop-part : goal.overflow_add-at-in-loop-part
overflow_add-at-in-loop-part g c = omega arith

pub read_sector-requires : goal.read_sector-requires
read_sector-requires g c = omega arith

pub branch-sector-requires : goal.branch-sector-requires
branch-sector-requires g c κs = search rules

pub from_residual-requires : goal.from_residual-requires
from_residual-requires g c κs = search rules

pub returns-in_err-sector-clause-read : goal.returns-in_err-sector-clause-read
returns-in_err-sector-clause-read g c = grind arith

pub returns-in_err-sector-clause-call : goal.returns-in_err-sector-clause-call
returns-in_err-sector-clause-call g c = grind arith

pub is_of-requires : goal.is_of-requires
is_of-requires g c = omega arith

pub returns-then-not-is_of-clause-call : goal.returns-then-not-is_of-clause-call
returns-then-not-is_of-clause-call g c = grind arith

pub loop-part-smaller : goal.loop-part-smaller
loop-part-smaller g c = omega arith

pub returns-clause-call : goal.returns-clause-call
returns-clause-call g c = omega arith
