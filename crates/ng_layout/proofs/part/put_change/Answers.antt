use Rattle.std.proofs.Common.{◌∙◌, lit≤}
use Rattle.ng_layout.proofs.ByteLemmas.{number-below, bytes-below, bytes-from, below-more, from-more}
use Rattle.ng_layout.proofs.part.put_change.Goals as goal

pub returns-clause-below : goal.returns-clause-below
returns-clause-below c = below-more 488 496 c.args.sector.now c.put_u16.new.bytes c.put_i64.new.bytes c.put_u16.ensures.below c.put_i64.ensures.below (lit≤ tt)

pub returns-clause-slot : goal.returns-clause-slot
returns-clause-slot c = number-below 2 488 496 c.put_u16.new.bytes c.put_i64.new.bytes c.put_i64.ensures.below
    (lit≤ tt) ∙ c.put_u16.ensures.written ∙ c.change_numbers-slot.ensures.slot

pub returns-clause-between : goal.returns-clause-between
returns-clause-between c = bytes-below 6 490 496 c.put_u16.new.bytes c.put_i64.new.bytes c.put_i64.ensures.below
    (lit≤ tt) ∙ bytes-from 6 490 490 c.args.sector.now c.put_u16.new.bytes c.put_u16.ensures.beyond (lit≤ tt)

pub returns-clause-beyond : goal.returns-clause-beyond
returns-clause-beyond c = from-more 490 504 c.args.sector.now c.put_u16.new.bytes c.put_i64.new.bytes
    c.put_u16.ensures.beyond c.put_i64.ensures.beyond (lit≤ tt)
