use Rattle.std.proofs.Common.{refl, ap, inl, ◌∙◌}
use Rattle.std.proofs.lemmas.Result.{err_from_is_err_and}
use Rattle.ng_rig.proofs.GuaranteeLemmas.{promised}
use Rattle.ng_layout.specs.declared.header.Header.{Header}
use Rattle.ng_journal.specs.Private.Records.{ledger}
use Rattle.ng_journal.proofs.RecordStoreLemmas.{own, fits_next, room_there, room_failed, room_made, nothing_written}
use Rattle.ng_journal.proofs.RecordStoreLemmas.{room_not_written, all_room_written, has_room_yet}
use Rattle.ng_journal.proofs.storing.make_room.Goals as goal

pub returns-then-not-is_full_for-clause-makes : goal.returns-then-not-is_full_for-clause-makes
returns-then-not-is_full_for-clause-makes g c = promised (record {
  stops = λ before at is. room_there c.args.tip before _ at;
  writes = nothing_written c.args.tip (ledger c.args.tip c.args.stored.now) c.args.count _
      (has_room_yet c.is_full_for.result c.args.tip.header c.args.tip.end c.args.count c.is_full_for.ensures
      c.if-not-is_full_for.true);
})

pub returns-then-not-is_full_for-clause-room : goal.returns-then-not-is_full_for-clause-room
returns-then-not-is_full_for-clause-room g c =
    inl (
      has_room_yet c.is_full_for.result c.args.tip.header c.args.tip.end c.args.count c.is_full_for.ensures
          c.if-not-is_full_for.true,
      refl,
    )

pub returns-in_err-checkpoint-clause-makes : goal.returns-in_err-checkpoint-clause-makes
returns-in_err-checkpoint-clause-makes g c =
    let p = err_from_is_err_and c.from_residual.result c.from_residual.ensures.1 in
    let is = c.next_header-next.ensures in
    let full = c.is_full_for.ensures.0 c.if-not-is_full_for.false in
    let stops = c.checkpoint.ensures.stops in
    let stores = c.checkpoint.ensures.stores in
    rw p.1 (record {
      keeps = stops.keeps;
      back = stops.back;
      holds = λ h. record {
        stops = λ before at same. room_failed _ _ c.args.tip.header c.next_header-next.result before c.args.tip.end
            c.args.stored.now at same (ap (λ (x : Header). x.area) is)
            (ap (λ (x : Header). x.format) is ∙ c.requires.tip.format) p.0 c.checkpoint.result
            (stops.holds h c.args.stored.now.program_limit c.args.tip.header (own at) (ap (λ (x : Header). x.epoch) is)
            (inl (ap (λ (x : Header). x.format) is))
            (fits_next c.next_header-next.result c.args.stored.now at same is (c.requires.epoch full)));
        writes = room_not_written p.0 c.checkpoint.result (ledger c.args.tip c.args.stored.now) c.args.count
            c.next_header-next.result _ _ full is (stores.holds h);
      };
    })

pub returns-clause-makes : goal.returns-clause-makes
returns-clause-makes g c =
    let is = c.next_header-next.ensures in
    let full = c.is_full_for.ensures.0 c.if-not-is_full_for.false in
    let stops = c.in_ok-checkpoint.ensures.stops in
    let stores = c.in_ok-checkpoint.ensures.stores in
    record {
      keeps = stops.keeps;
      back = stops.back;
      holds = λ h. record {
        stops = λ before at same. room_made _ _ c.args.tip.header c.next_header-next.result before c.args.tip.end
            c.args.stored.now at same (ap (λ (x : Header). x.area) is)
            (ap (λ (x : Header). x.format) is ∙ c.requires.tip.format) _ c.beginning.result c.beginning.ensures
            (stops.holds h c.args.stored.now.program_limit c.args.tip.header (own at) (ap (λ (x : Header). x.epoch) is)
            (inl (ap (λ (x : Header). x.format) is))
            (fits_next c.next_header-next.result c.args.stored.now at same is (c.requires.epoch full)));
        writes = all_room_written c.beginning.result _ (ledger c.args.tip c.args.stored.now) c.args.count
            c.next_header-next.result _ _ full is (stores.holds h);
      };
    }
