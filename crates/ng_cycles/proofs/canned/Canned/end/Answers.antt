use Rattle.ng_cycles.proofs.SkipLemmas.{cycle_end}
use Rattle.ng_cycles.proofs.canned.Canned.end.Goals as goal

pub returns : goal.returns
returns c = rw (c.hole_at.ensures, c.drill-drill.ensures.value) (cycle_end c.args.self.now c.drill-drill.ensures.canned.made.some)
