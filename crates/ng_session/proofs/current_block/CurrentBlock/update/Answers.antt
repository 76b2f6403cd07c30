use Rattle.std.proofs.Common.{ap, sym}
use Rattle.ng_layout.specs.Stored.{StoredModel}
use Rattle.ng_session.proofs.NextEntryLemmas.{block_next, approach_next}
use Rattle.ng_session.proofs.current_block.CurrentBlock.update.Goals as goal

pub returns-in-OnBlock-clause-next : goal.returns-in-OnBlock-clause-next
returns-in-OnBlock-clause-next g c =
    let r = c.update_by_block in
    block_next c.args.stored.now c.args.self.now r.result c.requires.storable c.requires.ready r.ensures.slot r.ensures.changes
    (r.ensures.value c.args.stored.now (ap (λ (x : StoredModel). x.entries) (sym c.stored.view_is)))

pub returns-in-ToApproach-clause-next : goal.returns-in-ToApproach-clause-next
returns-in-ToApproach-clause-next g c =
    let r = c.update_by_approach in
    approach_next c.args.stored.now c.args.self.now r.result c.requires.storable c.requires.ready r.ensures.slot
    c.in-ToApproach.approach.to.point r.ensures.changes r.ensures.value
