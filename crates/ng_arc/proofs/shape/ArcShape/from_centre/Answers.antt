use Rattle.ng_canon.specs.declared.pace.Pace.TheVariants.{Traverse}
use Rattle.ng_canon.proofs.PlanePointLemmas.{from_centre_is}
use Rattle.ng_arc.specs.Shape.{arc_at}
use Rattle.ng_arc.proofs.shape.ArcShape.from_centre.Goals as goal

-- a point is relative to the centre of the arc at any pace
pub returns-clause-value : goal.returns-clause-value
returns-clause-value c =
    from_centre_is (arc_at c.args.self.now Traverse) c.args.point.now _ _ _ _ c.pick_a-a.result c.pick_b-b.result c.nm.ensures.range
    c.nm-2.ensures.range c.nm-3.ensures.range c.nm-4.ensures.range
    c.nm.ensures.value c.nm-2.ensures.value c.nm-3.ensures.value c.nm-4.ensures.value c.pick_a-a.ensures c.pick_b-b.ensures
