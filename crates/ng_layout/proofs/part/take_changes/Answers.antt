use Rattle.std.proofs.Common.{◌∙◌, sym}
use Rattle.ng_layout.proofs.PartLemmas.{makes_none, makes_more, one_damaged}
use Rattle.ng_layout.proofs.part.take_changes.Goals as goal

pub loop-k-init : goal.loop-k-init
loop-k-init g c = makes_none c.args.sector.now c.args.table.now

pub returns-in-None : goal.returns-in-None
returns-in-None g c = one_damaged c.args.sector.now c.loop-k.k c.args.count c.loop-k-test.true (sym c.change_at.ensures ∙ c.in-None.is)

pub loop-k-preserved : goal.loop-k-preserved
loop-k-preserved g c = makes_more c.args.sector.now c.loop-k.k c.args.table.now c.loop-k.table c.set.new.self
    c.in-Some.change c.loop-k.invariant (sym c.change_at.ensures ∙ c.in-Some.is) c.set.ensures
