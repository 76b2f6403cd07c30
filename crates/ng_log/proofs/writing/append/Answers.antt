use Rattle.std.proofs.Common.{◌≡◌, ◌∙◌, ◌+◌, length, ap}
use Rattle.std.proofs.lemmas.Result.{err_from_is_err_and}
use Rattle.ng_rig.proofs.GuaranteeLemmas.{onto, meaning}
use Rattle.ng_layout.specs.Log.{parts_for}
use Rattle.ng_log.specs.declared.log_end.LogEnd.{LogEnd}
use Rattle.ng_log.specs.AtEnd.{end_after}
use Rattle.ng_log.specs.Records.{record_at}
use Rattle.ng_log.proofs.RecordWriteLemmas.{next_from, record_cut, record_unsynced, record_synced, exit_parts, exit_sync, finished}
use Rattle.ng_log.proofs.writing.append.Goals as goal

pub returns-in_err-write_parts-clause-appends : goal.returns-in_err-write_parts-clause-appends
returns-in_err-write_parts-clause-appends g c =
    let p = err_from_is_err_and c.from_residual.result c.from_residual.ensures.1 in
    let r = c.requires in
    let stored = c.args.stored.now in
    let changes = c.args.changes in
    rw p.1 (meaning c.write_parts.ensures.writes (λ w before at made valid slot_is same_limit.
    let next = next_from _ c.args.header before c.args.end c.args.slot stored changes r.format valid slot_is at.image
    made r.storable.table r.room r.long same_limit in
    exit_parts _ c.args.header before c.args.end stored changes c.args.slot at next p.0 c.write_parts.result _ w))

pub returns-in_err-sync-clause-appends : goal.returns-in_err-sync-clause-appends
returns-in_err-sync-clause-appends g c =
    let p = err_from_is_err_and c.from_residual-in_err-sync.result c.from_residual-in_err-sync.ensures.1 in
    let r = c.requires in
    let stored = c.args.stored.now in
    let changes = c.args.changes in
    rw p.1 (onto _ c.write_parts.ensures.writes c.in_err-sync.ensures.trace (λ w sync before at made valid slot_is same_limit.
    let next = next_from _ c.args.header before c.args.end c.args.slot stored changes r.format valid slot_is at.image
    made r.storable.table r.room r.long same_limit in
    exit_sync _ c.args.header before c.args.end stored changes c.args.slot at next p.0 c.write_parts.result _ _ w sync))

pub returns-clause-appends : goal.returns-clause-appends
returns-clause-appends g c =
    let r = c.requires in
    let stored = c.args.stored.now in
    let changes = c.args.changes in
    let after : LogEnd = record { sector = c.args.end.sector + c.parts_for-parts.result; number = c.args.end.number + 1 } in
    let after_is : after ≡ end_after c.args.end (length changes) =
    λ i. record {
      sector = c.args.end.sector + (c.parts_for-parts.ensures.value ∙ ap parts_for c.count.ensures) i;
      number = c.args.end.number + 1;
    } in
    onto _ c.in_ok-write_parts.ensures.writes c.in_ok-sync.ensures.trace (λ w sync before at made valid slot_is same_limit.
    let next = next_from _ c.args.header before c.args.end c.args.slot stored changes r.format valid slot_is at.image
    made r.storable.table r.room r.long same_limit in
    finished _ c.args.header before c.args.end stored changes c.args.slot at next _ after _ _ after_is w sync)

pub returns-in_err-write_parts-clause-writes : goal.returns-in_err-write_parts-clause-writes
returns-in_err-write_parts-clause-writes g c =
    let p = err_from_is_err_and c.from_residual.result c.from_residual.ensures.1 in
    let e = record_at c.args.header.epoch c.args.end c.args.stored.now c.args.changes c.args.slot in
    rw p.1 (meaning c.write_parts.ensures.writes (λ w. record_cut p.0 c.write_parts.result e _ _ w))

pub returns-in_err-sync-clause-writes : goal.returns-in_err-sync-clause-writes
returns-in_err-sync-clause-writes g c =
    let p = err_from_is_err_and c.from_residual-in_err-sync.result c.from_residual-in_err-sync.ensures.1 in
    let e = record_at c.args.header.epoch c.args.end c.args.stored.now c.args.changes c.args.slot in
    rw p.1 (onto _ c.write_parts.ensures.writes c.in_err-sync.ensures.trace (λ w sync. record_unsynced p.0 c.write_parts.result e _ _ _ w sync))

pub returns-clause-writes : goal.returns-clause-writes
returns-clause-writes g c =
    let e = record_at c.args.header.epoch c.args.end c.args.stored.now c.args.changes c.args.slot in
    onto _ c.in_ok-write_parts.ensures.writes c.in_ok-sync.ensures.trace (λ w sync. record_synced _ _ e _ _ _ w sync)
