use Rattle.std.proofs.Common.{inl, ◌∙◌, ap}
use Rattle.std.proofs.lemmas.Result.{err_from_is_err_and}
use Rattle.ng_journal.proofs.WrittenSectorLemmas.{among_text, load_text, load_sync, load_state, text_stays, state_under}
use Rattle.ng_layout.specs.declared.header.Header.{Header}
use Rattle.ng_layout.specs.Stored.{DurableState}
use Rattle.ng_journal.specs.AtRest.{next_header}
use Rattle.ng_journal.proofs.ProgramLimitLemmas.{with_limit}
use Rattle.ng_journal.proofs.LoadLemmas.{free_in, own_again, fits_again, exit_text, exit_sync, loaded_all}
use Rattle.ng_journal.proofs.loading.load.Goals as goal

pub returns-in_err-write_program-clause-stops : goal.returns-in_err-write_program-clause-stops
returns-in_err-write_program-clause-stops g c =
    let p = err_from_is_err_and c.from_residual.result c.from_residual.ensures.1 in
    let text = c.write_program.ensures.text in
    rw p.1 (record {
      keeps = text.keeps;
      back = text.back;
      holds = λ h most at fits. exit_text p.0 c.write_program.result _ _ c.args.area c.args.header _ c.args.text.now
          c.requires.format at (free_in c.args.area c.args.header (with_limit most c.args.stored.now)
          c.requires.apart fits) (text.holds h);
    })

pub returns-in_err-sync-clause-stops : goal.returns-in_err-sync-clause-stops
returns-in_err-sync-clause-stops g c =
    let p = err_from_is_err_and c.from_residual-in_err-sync.result c.from_residual-in_err-sync.ensures.1 in
    let text = c.write_program.ensures.text in
    let sync = c.in_err-sync.ensures.trace in
    rw p.1 (record {
      keeps = λ h. sync.keeps (text.keeps h);
      back = λ h. text.back (sync.back h);
      holds = λ h most at fits. exit_sync p.0 c.write_program.result _ _ _ c.args.area c.args.header _
          c.args.text.now c.requires.format at (free_in c.args.area c.args.header (with_limit most c.args.stored.now)
          c.requires.apart fits) (text.holds h) (sync.holds (text.keeps h));
    })

pub returns-clause-stops : goal.returns-clause-stops
returns-clause-stops g c =
    let text = c.in_ok-write_program.ensures.text in
    let sync = c.in_ok-sync.ensures.trace in
    let last = c.checkpoint.ensures.stops in
    record {
      keeps = λ h. last.keeps (sync.keeps (text.keeps h));
      back = λ h. text.back (sync.back (last.back h));
      holds = λ h most at fits.
          let limited = with_limit most c.args.stored.now in
          let free = free_in c.args.area c.args.header limited c.requires.apart fits in
          let t = text.holds h in
          let s = sync.holds (text.keeps h) in
          let only = among_text c.args.area c.args.text.now _ _ t.writes in
          let next = c.next_header.result in
          let next_is = c.next_header.ensures ∙ (λ i. next_header c.args.header c.args.area (c.stored.view_is i).length) in
          loaded_all c.checkpoint.result _ _ _ _ _ c.args.area c.args.header next limited c.args.text.now at free
          c.requires.long c.requires.short t s next_is c.requires.format
          (last.holds (sync.keeps (text.keeps h)) most c.args.header
          (own_again _ _ _ c.args.area c.args.header at free only s) (ap (λ (x : Header). x.epoch) next_is)
          (inl (ap (λ (x : Header). x.format) next_is))
          (fits_again _ _ _ c.args.area c.args.header next limited at free only s next_is fits));
    }

pub returns-in_err-write_program-clause-stores : goal.returns-in_err-write_program-clause-stores
returns-in_err-write_program-clause-stores g c =
    let p = err_from_is_err_and c.from_residual.result c.from_residual.ensures.1 in
    let text = c.write_program.ensures.text in
    let loaded : DurableState = record { saved = c.args.stored.now; program = c.args.text.now } in
    rw p.1 (record {
      keeps = text.keeps;
      back = text.back;
      holds = λ h. record { writes = load_text c.write_program.result c.args.area c.args.header loaded _ _ (text.holds h); text = tt; laid = tt; synced = tt };
    })

pub returns-in_err-sync-clause-stores : goal.returns-in_err-sync-clause-stores
returns-in_err-sync-clause-stores g c =
    let p = err_from_is_err_and c.from_residual-in_err-sync.result c.from_residual-in_err-sync.ensures.1 in
    let text = c.write_program.ensures.text in
    let loaded : DurableState = record { saved = c.args.stored.now; program = c.args.text.now } in
    let sync = c.sync.ensures.trace in
    rw p.1 (record {
      keeps = λ h. sync.keeps (text.keeps h);
      back = λ h. text.back (sync.back h);
      holds = λ h.
          let one = load_text c.write_program.result c.args.area c.args.header loaded _ _ (text.holds h) in
          record { writes = load_sync c.sync.result c.args.area c.args.header loaded _ _ _ one (sync.holds (text.keeps h)); text = tt; laid = tt; synced = tt };
    })

pub returns-clause-stores : goal.returns-clause-stores
returns-clause-stores g c =
    let text = c.write_program.ensures.text in
    let loaded : DurableState = record { saved = c.args.stored.now; program = c.args.text.now } in
    let sync = c.sync.ensures.trace in
    let last = c.checkpoint.ensures.stores in
    record {
      keeps = λ h. last.keeps (sync.keeps (text.keeps h));
      back = λ h. text.back (sync.back (last.back h));
      holds = λ h.
          let one = load_text c.write_program.result c.args.area c.args.header loaded _ _ (text.holds h) in
          let two = load_sync c.sync.result c.args.area c.args.header loaded _ _ _ one (sync.holds (text.keeps h)) in
          let done = c.in_ok-write_program.ensures.text in
          let on = c.in_ok-sync.ensures.trace in
          let next_is = c.next_header.ensures ∙ (λ i. next_header c.args.header c.args.area (c.stored.view_is i).length) in
          let stored = state_under c.checkpoint.result c.next_header.result
          (next_header c.args.header c.args.area c.args.stored.now.length) c.args.stored.now _ _ next_is
          (last.holds (sync.keeps (text.keeps h))) in
          record {
            writes = load_state c.args.area c.args.header loaded _ _ _ two stored.writes;
            text = text_stays c.checkpoint.result _ c.args.area c.args.header loaded _ _ _ _ c.requires.short
                c.requires.area (done.holds h) (on.holds (text.keeps h)) stored.writes;
            laid = stored.laid;
            synced = stored.synced;
          };
    }
