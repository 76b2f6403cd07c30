use Rattle.std.proofs.Common.{◌∙◌, length, ap, arith, rules}
use Rattle.ng_layout.specs.Stored.{StoredModel}
use Rattle.ng_session.proofs.NextEntryLemmas.{no_slot}
use Rattle.ng_session.proofs.StorableStateLemmas.{long-after}
use Rattle.ng_session.proofs.known_lines.KnownLines.push.Goals as goal

pub take_update-requires : goal.take_update-requires
take_update-requires g c = no_slot c.update_by_block-update.result.slot _ c.update_by_block-update.ensures.slot

pub invariant_of-self : goal.invariant_of-self
invariant_of-self g c =
    ap (λ (x : StoredModel). length x.setup.params) c.take_update.ensures
    ∙ long-after c.self.inside.base.setup.params c.update_by_block-update.result.changes ∙ c.self.invariant

pub len-requires : goal.len-requires
len-requires g c κs = search rules

pub capacity-requires : goal.capacity-requires
capacity-requires g c κs = search rules

pub update_by_block-update-requires : goal.update_by_block-update-requires
update_by_block-update-requires g c = grind arith

pub try_push_back-requires : goal.try_push_back-requires
try_push_back-requires g c κs = search rules

pub returns-then-len-capacity : goal.returns-then-len-capacity
returns-then-len-capacity g c = grind arith

pub returns-else-len-capacity : goal.returns-else-len-capacity
returns-else-len-capacity g c = grind arith
