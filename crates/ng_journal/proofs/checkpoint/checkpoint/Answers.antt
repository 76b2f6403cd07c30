use Rattle.std.proofs.Common.{sym}
use Rattle.std.proofs.lemmas.Result.{err_from_is_err_and}
use Rattle.ng_journal.proofs.WrittenSectorLemmas.{state_areas, state_sync, state_header, state_laid, synced_by}
use Rattle.ng_journal.proofs.ProgramLimitLemmas.{with_limit, areas_limited}
use Rattle.ng_journal.proofs.CheckpointLemmas.{exit_areas, exit_sync, exit_header, ready, finished}
use Rattle.ng_journal.proofs.checkpoint.checkpoint.Goals as goal

pub returns-in_err-write_areas-clause-stops : goal.returns-in_err-write_areas-clause-stops
returns-in_err-write_areas-clause-stops g c =
    let p = err_from_is_err_and c.from_residual.result c.from_residual.ensures.1 in
    let area = c.write_areas.ensures.areas in
    rw p.1 (record {
      keeps = area.keeps;
      back = area.back;
      holds = λ h most header w later follows fits. exit_areas p.0 c.write_areas.result _ _ header c.args.next
          (with_limit most c.args.stored.now) (record { at = w; epoch = later; follows = follows })
          (areas_limited most c.write_areas.result c.args.next c.args.stored.now _ _ (area.holds h));
    })

pub returns-in_err-sync-clause-stops : goal.returns-in_err-sync-clause-stops
returns-in_err-sync-clause-stops g c =
    let p = err_from_is_err_and c.from_residual-in_err-sync.result c.from_residual-in_err-sync.ensures.1 in
    let area = c.write_areas.ensures.areas in
    let sync = c.in_err-sync.ensures.trace in
    rw p.1 (record {
      keeps = λ h. sync.keeps (area.keeps h);
      back = λ h. area.back (sync.back h);
      holds = λ h most header w later follows fits. exit_sync p.0 c.write_areas.result _ _ _ header c.args.next
          (with_limit most c.args.stored.now) (record { at = w; epoch = later; follows = follows })
          (areas_limited most c.write_areas.result c.args.next c.args.stored.now _ _ (area.holds h))
          (sync.holds (area.keeps h));
    })

pub returns-in_err-write-clause-stops : goal.returns-in_err-write-clause-stops
returns-in_err-write-clause-stops g c =
    let p = err_from_is_err_and c.from_residual-in_err-write.result c.from_residual-in_err-write.ensures.1 in
    let area = c.in_ok-write_areas.ensures.areas in
    let sync = c.in_ok-sync.ensures.trace in
    let write = c.write.ensures.trace in
    let stored = c.args.stored.now in
    let new = c.args.next in
    rw p.1 (record {
      keeps = λ h. write.keeps (sync.keeps (area.keeps h));
      back = λ h. area.back (sync.back (write.back h));
      holds = λ h most header w later follows fits.
          let r = ready _ _ _ header new (with_limit most stored) c.header_sector.result
          (record { at = w; epoch = later; follows = follows })
          (areas_limited most _ new stored _ _ (area.holds h)) c.requires.storable.table c.requires.storable.tools
          c.requires.tools c.header_sector.ensures.read fits (sym c.requires.long) in
          exit_header p.0 c.write.result _ _ _ _ header new (with_limit most stored) c.header_sector.result r
          (sync.holds (area.keeps h)) (write.holds (sync.keeps (area.keeps h)));
    })

pub returns-clause-stops : goal.returns-clause-stops
returns-clause-stops g c =
    let area = c.in_ok-write_areas.ensures.areas in
    let sync = c.in_ok-sync.ensures.trace in
    let write = c.in_ok-write.ensures.trace in
    let last = c.sync-2.ensures.trace in
    let stored = c.args.stored.now in
    let new = c.args.next in
    record {
      keeps = λ h. last.keeps (write.keeps (sync.keeps (area.keeps h)));
      back = λ h. area.back (sync.back (write.back (last.back h)));
      holds = λ h most header w later follows fits.
          let r = ready _ _ _ header new (with_limit most stored) c.header_sector.result
          (record { at = w; epoch = later; follows = follows })
          (areas_limited most _ new stored _ _ (area.holds h)) c.requires.storable.table c.requires.storable.tools
          c.requires.tools c.header_sector.ensures.read fits (sym c.requires.long) in
          finished c.sync-2.result _ _ _ _ _ header new (with_limit most stored) c.header_sector.result r
          (sync.holds (area.keeps h)) (write.holds (sync.keeps (area.keeps h)))
          (last.holds (write.keeps (sync.keeps (area.keeps h))));
    }

pub returns-in_err-write_areas-clause-stores : goal.returns-in_err-write_areas-clause-stores
returns-in_err-write_areas-clause-stores g c =
    let p = err_from_is_err_and c.from_residual.result c.from_residual.ensures.1 in
    let area = c.write_areas.ensures.areas in
    rw p.1 (record {
      keeps = area.keeps;
      back = area.back;
      holds = λ h. record { writes = state_areas c.write_areas.result c.args.next c.args.stored.now _ _ (area.holds h); laid = tt; synced = tt };
    })

pub returns-in_err-sync-clause-stores : goal.returns-in_err-sync-clause-stores
returns-in_err-sync-clause-stores g c =
    let p = err_from_is_err_and c.from_residual-in_err-sync.result c.from_residual-in_err-sync.ensures.1 in
    let new = c.args.next in
    let area = c.write_areas.ensures.areas in
    let sync = c.sync.ensures.trace in
    rw p.1 (record {
      keeps = λ h. sync.keeps (area.keeps h);
      back = λ h. area.back (sync.back h);
      holds = λ h.
          let one = state_areas c.write_areas.result new c.args.stored.now _ _ (area.holds h) in
          record { writes = state_sync c.sync.result new c.args.stored.now _ _ _ one (sync.holds (area.keeps h)); laid = tt; synced = tt };
    })

pub returns-in_err-write-clause-stores : goal.returns-in_err-write-clause-stores
returns-in_err-write-clause-stores g c =
    let p = err_from_is_err_and c.from_residual-in_err-write.result c.from_residual-in_err-write.ensures.1 in
    let new = c.args.next in
    let area = c.write_areas.ensures.areas in
    let sync = c.sync.ensures.trace in
    let write = c.write.ensures.trace in
    rw p.1 (record {
      keeps = λ h. write.keeps (sync.keeps (area.keeps h));
      back = λ h. area.back (sync.back (write.back h));
      holds = λ h.
          let one = state_areas c.write_areas.result new c.args.stored.now _ _ (area.holds h) in
          let two = state_sync c.sync.result new c.args.stored.now _ _ _ one (sync.holds (area.keeps h)) in
          record {
            writes = state_header c.write.result new c.args.stored.now c.header_sector.result _ _ _
                c.header_sector.ensures.holds two (write.holds (sync.keeps (area.keeps h)));
            laid = tt;
            synced = tt;
          };
    })

pub returns-clause-stores : goal.returns-clause-stores
returns-clause-stores g c =
    let new = c.args.next in
    let held = c.header_sector.ensures.holds in
    let area = c.write_areas.ensures.areas in
    let sync = c.sync.ensures.trace in
    let write = c.write.ensures.trace in
    let last = c.sync-2.ensures.trace in
    record {
      keeps = λ h. last.keeps (write.keeps (sync.keeps (area.keeps h)));
      back = λ h. area.back (sync.back (write.back (last.back h)));
      holds = λ h.
          let one = state_areas c.write_areas.result new c.args.stored.now _ _ (area.holds h) in
          let two = state_sync c.sync.result new c.args.stored.now _ _ _ one (sync.holds (area.keeps h)) in
          let three = state_header c.write.result new c.args.stored.now c.header_sector.result _ _ _ held two (write.holds (sync.keeps (area.keeps h))) in
          let done = c.in_ok-write_areas.ensures.areas in
          let on = c.in_ok-sync.ensures.trace in
          let put = c.in_ok-write.ensures.trace in
          let end = last.holds (write.keeps (sync.keeps (area.keeps h))) in
          record {
            writes = state_sync c.sync-2.result new c.args.stored.now _ _ _ three end;
            laid = state_laid c.sync-2.result _ new c.args.stored.now c.header_sector.result _ _ _ _ _
                (done.holds h) held (on.holds (area.keeps h)) (put.holds (sync.keeps (area.keeps h))) end;
            synced = synced_by c.sync-2.result _ _ end;
          };
    }
