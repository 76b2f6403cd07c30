use Rattle.std.proofs.Common.{◌≡◌, ◌∙◌, ◌+◌, ◌-◌, ◌*◌, ◌<◌, ◌≤◌, ℕ, drop, refl, ap, arith}
use Rattle.std.proofs.lemmas.Result.{err_from_is_err_and}
use Rattle.ng_rig.proofs.GuaranteeLemmas.{onto, meaning}
use Rattle.ng_layout.specs.Log.{parts_for}
use Rattle.ng_log.specs.Records.{record_at, size_of}
use Rattle.ng_log.proofs.RecordWriteLemmas.{first_of, later_of, labelled_as, record_none, record_more, record_failed, record_done}
use Rattle.ng_log.proofs.RecordWriteLemmas.{piece_of, rest_of}
use Rattle.ng_log.proofs.writing.write_parts.Goals as goal

pub returns-in_err-write-clause-writes : goal.returns-in_err-write-clause-writes
returns-in_err-write-clause-writes g c =
    let p = err_from_is_err_and c.from_residual.result c.from_residual.ensures.1 in
    let e = record_at c.args.epoch c.args.end c.args.stored.now c.args.changes c.args.slot in
    let bytes = c.first_part.result in
    let is = labelled_as e 0 c.parts_for-parts.result c.count-count.result 0 refl c.parts_for-parts.ensures.value c.count-count.ensures in
    let right = first_of e _ bytes is c.first_part.ensures.label c.first_part.ensures.state in
    rw p.1 (meaning c.write.ensures.trace (λ w. record_failed p.0 c.write.result 0 e _ _ _ _ bytes (omega arith) right (record_none e _) w))

pub loop-part-init : goal.loop-part-init
loop-part-init g c =
    let e = record_at c.args.epoch c.args.end c.args.stored.now c.args.changes c.args.slot in
    let bytes = c.first_part.result in
    let is = labelled_as e 0 c.parts_for-parts.result c.count-count.result 0 refl c.parts_for-parts.ensures.value c.count-count.ensures in
    let right = first_of e _ bytes is c.first_part.ensures.label c.first_part.ensures.state in
    record {
      parts = meaning c.in_ok-write.ensures.trace (λ w. record_more 0 e _ _ _ _ bytes (omega arith) right (record_none e _) w);
      left = refl;
      size = c.in_ok-write.ensures.call.size;
      failures = c.in_ok-write.ensures.call.failures;
    }

pub returns-in_err-write-2-clause-writes : goal.returns-in_err-write-2-clause-writes
returns-in_err-write-2-clause-writes g c =
    let p = err_from_is_err_and c.from_residual-in_err-write-2.result c.from_residual-in_err-write-2.ensures.1 in
    let inv = c.loop-part.invariant in
    let k = c.loop-part.part in
    let e = record_at c.args.epoch c.args.end c.args.stored.now c.args.changes c.args.slot in
    let low : 1 ≤ k = c.loop-part.auto.part in
    let parts = c.parts_for-parts.ensures.value in
    let is = labelled_as e _ c.parts_for-parts.result c.count-count.result k refl parts c.count-count.ensures in
    let here : k < size_of e = omega (arith, c.loop-part-test.true, parts, ap parts_for c.count-count.ensures) in
    let right = later_of e _ k c.as_slice.result.now c.changes_part.result is low here c.changes_part.ensures.label
    (piece_of (k - 1) c.args.changes _ _ inv.left (c.as_slice.ensures.value ∙ c.next_piece-piece.ensures.piece))
    c.changes_part.ensures.changes in
    rw p.1 (onto _ inv.parts c.write-in-loop-part.ensures.trace
    (λ r w. record_failed p.0 c.write-in-loop-part.result k e _ _ _ _ c.changes_part.result (omega arith) right
    r w))

pub loop-part-preserved : goal.loop-part-preserved
loop-part-preserved g c =
    let inv = c.loop-part.invariant in
    let k = c.loop-part.part in
    let e = record_at c.args.epoch c.args.end c.args.stored.now c.args.changes c.args.slot in
    let w = c.in_ok-write-2.ensures in
    let low : 1 ≤ k = c.loop-part.auto.part in
    let parts = c.parts_for-parts.ensures.value in
    let is = labelled_as e _ c.parts_for-parts.result c.count-count.result k refl parts c.count-count.ensures in
    let here : k < size_of e = omega (arith, c.loop-part-test.true, parts, ap parts_for c.count-count.ensures) in
    let right = later_of e _ k c.as_slice.result.now c.changes_part.result is low here c.changes_part.ensures.label
    (piece_of (k - 1) c.args.changes _ _ inv.left (c.as_slice.ensures.value ∙ c.next_piece-piece.ensures.piece))
    c.changes_part.ensures.changes in
    let on : k - 1 + 1 ≡ k + 1 - 1 = omega (arith, low) in
    record {
      parts = onto _ inv.parts w.trace (λ r trace. record_more k e _ _ _ _ c.changes_part.result (omega arith) right r trace);
      left = rest_of (k - 1) c.args.changes _ _ inv.left c.next_piece-piece.ensures.rest
          ∙ ap (λ (n : ℕ). drop (48 * n) c.args.changes) on;
      size = w.call.size ∙ inv.size;
      failures = w.call.failures ∙ inv.failures;
    }

pub returns-clause-writes : goal.returns-clause-writes
returns-clause-writes g c =
    let e = record_at c.args.epoch c.args.end c.args.stored.now c.args.changes c.args.slot in
    let parts = c.parts_for-parts.ensures.value in
    let all : c.loop-part.part ≡ size_of e =
    omega (arith, c.loop-part-test.false, c.loop-part.auto.part-end, parts, ap parts_for c.count-count.ensures) in
    meaning c.loop-part.invariant.parts (λ r. record_done _ c.loop-part.part e _ _ all r)
