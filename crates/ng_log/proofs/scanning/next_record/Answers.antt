use Rattle.std.proofs.Common.{◌≡◌, ◌<◌, refl, sym, ◌∙◌, true, false, arith}
use Rattle.ng_rig.proofs.GuaranteeLemmas.{promised, onto, meaning}
use Rattle.ng_rig.specs.Trace.{reads}
use Rattle.ng_layout.specs.Areas.{log_size_of}
use Rattle.ng_layout.specs.Part.{label_of}
use Rattle.ng_log.specs.Private.ReadSteps.{from_log, LaterPartsStand}
use Rattle.ng_log.proofs.NextRecordLemmas.{begun, says_read, none_at_end, none_of_first, none_of_parts, damaged_record, one_record, taken_at, parts_at}
use Rattle.ng_log.proofs.scanning.next_record.Goals as goal

pub returns-then-end-log_size-clause-read : goal.returns-then-end-log_size-clause-read
returns-then-end-log_size-clause-read g c =
    promised (record {
      same = refl;
      right = (
        none_at_end c.args.header c.args.end c.args.stored.now (reads (g.R.Rig.seen c.args.rig.now).trace)
            (c.if-end-log_size.true ∙ c.log_size.ensures.value),
        refl,
      );
    })

pub returns-then-not-begins_record-clause-read : goal.returns-then-not-begins_record-clause-read
returns-then-not-begins_record-clause-read g c =
    let old = (g.R.Rig.seen c.args.rig.now).trace in
    let first = label_of c.read-first.result in
    let lt : c.args.end.sector < log_size_of c.args.header = omega arith in
    meaning c.in_ok-sector.ensures.read (λ p. record {
      same = p.same;
      right = (
        none_of_first c.args.header c.args.end c.args.stored.now (reads old) first c.in_ok-sector.sector lt
            p.right (says_read c.read-first.result c.in_ok-sector.sector c.read-first.ensures)
            (sym c.begins_record.ensures ∙ c.if-not-begins_record.true),
        refl,
      );
    })

pub returns-then-not-stand-clause-read : goal.returns-then-not-stand-clause-read
returns-then-not-stand-clause-read g c =
    let old = (g.R.Rig.seen c.args.rig.now).trace in
    let first = label_of c.read-first.result in
    let lt : c.args.end.sector < log_size_of c.args.header = omega arith in
    let b = begun first c.args.header c.args.end (sym c.begins_record.ensures ∙ c.if-not-begins_record.false) in
    onto _ c.in_ok-sector.ensures.read c.in_ok-stand.ensures.read (λ p q. record {
      same = q.same ∙ p.same;
      right =
          let off = parts_at c.args.end.sector first old _ c.in_ok-stand.stand false p.same c.if-not-stand.true q.right in (
            none_of_parts c.args.header c.args.end c.args.stored.now (reads old) first c.in_ok-sector.sector lt
                p.right (says_read c.read-first.result c.in_ok-sector.sector c.read-first.ensures) b off,
            refl,
          );
    })

pub returns-then-not-is_whole-clause-read : goal.returns-then-not-is_whole-clause-read
returns-then-not-is_whole-clause-read g c =
    let old = (g.R.Rig.seen c.args.rig.now).trace in
    let first = label_of c.read-first.result in
    let lt : c.args.end.sector < log_size_of c.args.header = omega arith in
    let b = begun first c.args.header c.args.end (sym c.begins_record.ensures ∙ c.if-not-begins_record.false) in
    let Both = ((g.R.Rig.seen c.later_parts_stand.new.rig).trace ≡ old)
    × (c.in_ok-sector.sector ≡ from_log (reads old) c.args.end.sector)
    × LaterPartsStand c.args.end.sector first (reads old) true in
    onto _ (onto Both c.in_ok-sector.ensures.read c.in_ok-stand.ensures.read (λ p q. (
      q.same ∙ p.same,
      p.right,
      parts_at c.args.end.sector first old _ c.in_ok-stand.stand true p.same c.if-not-stand.false q.right,
    ))) c.in_ok-is_whole.ensures.read (λ p q. record {
      same = q.same ∙ p.0;
      right =
          let t = taken_at c.args.header.format c.args.header.length c.in_ok-sector.sector c.args.end.sector
          first.changes c.args.stored.now c.take_record.new.stored old _ _ false p.0 c.if-not-is_whole.true
          q.right p.1 in
          damaged_record c.args.header c.args.end c.args.stored.now (reads old) first c.in_ok-sector.sector lt p.1
          (says_read c.read-first.result c.in_ok-sector.sector c.read-first.ensures) b p.2
          c.take_record.new.stored t;
    })

pub returns-clause-read : goal.returns-clause-read
returns-clause-read g c =
    let old = (g.R.Rig.seen c.args.rig.now).trace in
    let first = label_of c.read-first.result in
    let lt : c.args.end.sector < log_size_of c.args.header = omega arith in
    let b = begun first c.args.header c.args.end (sym c.begins_record.ensures ∙ c.if-not-begins_record.false) in
    let Both = ((g.R.Rig.seen c.later_parts_stand.new.rig).trace ≡ old)
    × (c.in_ok-sector.sector ≡ from_log (reads old) c.args.end.sector)
    × LaterPartsStand c.args.end.sector first (reads old) true in
    onto _ (onto Both c.in_ok-sector.ensures.read c.in_ok-stand.ensures.read (λ p q. (
      q.same ∙ p.same,
      p.right,
      parts_at c.args.end.sector first old _ c.in_ok-stand.stand true p.same c.if-not-stand.false q.right,
    ))) c.in_ok-is_whole.ensures.read (λ p q. record {
      same = q.same ∙ p.0;
      right =
          let t = taken_at c.args.header.format c.args.header.length c.in_ok-sector.sector c.args.end.sector
          first.changes c.args.stored.now c.take_record.new.stored old _ _ true p.0 c.if-not-is_whole.false
          q.right p.1 in (
            one_record c.args.header c.args.end c.args.stored.now (reads old) first c.in_ok-sector.sector lt p.1
                (says_read c.read-first.result c.in_ok-sector.sector c.read-first.ensures) b p.2
                c.take_record.new.stored t,
            t.1,
          );
    })
