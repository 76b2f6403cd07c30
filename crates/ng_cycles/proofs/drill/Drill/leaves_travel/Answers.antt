use Rattle.std.proofs.Common.{◌∙◌, sym, ap, not}
use Rattle.ng_cycles.proofs.CycleTravelLemmas.{leaves-extremes, near_by, not_false}
use Rattle.ng_cycles.proofs.drill.Drill.leaves_travel.Goals as goal

pub returns-clause-leaves : goal.returns-clause-leaves
returns-clause-leaves c = ap not c.extremes_inside.ensures ∙ sym (leaves-extremes c.args.geometry.now c.args.self.now c.requires)

pub returns-clause-near : goal.returns-clause-near
returns-clause-near c = λ stays. near_by c.args.geometry.now c.args.self.now (c.args.geometry.now.z.low_in_limits).0
    (c.args.geometry.now.z.high_in_limits).1 (sym c.extremes_inside.ensures
    ∙ not_false c.extremes_inside.result stays)
