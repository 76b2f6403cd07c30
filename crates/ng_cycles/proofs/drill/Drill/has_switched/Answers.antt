use Rattle.std.proofs.Common.{sym, ◌∙◌}
use Rattle.ng_cycles.proofs.AfterSegmentsLemmas.{has-switched, none-switched}
use Rattle.ng_cycles.proofs.drill.Drill.has_switched.Goals as goal

pub returns-then-stops : goal.returns-then-stops
returns-then-stops c = has-switched c.args.self.now c.args.n c.lead_length.result c.requires (sym c.stops.ensures ∙ c.if-stops.true) c.lead_length.ensures.value

pub returns : goal.returns
returns c = sym (none-switched c.args.self.now c.args.n (sym c.stops.ensures ∙ c.if-stops.false))
