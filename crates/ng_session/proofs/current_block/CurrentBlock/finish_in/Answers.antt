use Rattle.std.proofs.Common.{◌∙◌}
use Rattle.ng_session.proofs.NextEntryLemmas.{no_slot, finished_is}
use Rattle.ng_session.proofs.current_block.CurrentBlock.finish_in.Goals as goal

pub take_update-requires : goal.take_update-requires
take_update-requires g c = no_slot c.update_by_block.result.slot _ c.update_by_block.ensures.slot

pub returns : goal.returns
returns g c = c.take_update.ensures
    ∙ finished_is c.args.stored.now c.args.self.now c.args.self.now.stage c.entries_before-entries.result c.update_by_block.result
    (λ on. rw (← c.stored.view_is) (c.entries_before-entries.ensures.block on))
    (λ off. rw (← c.stored.view_is) (c.entries_before-entries.ensures.approach off))
    c.update_by_block.ensures.value
