use Rattle.ng_step.proofs.StopLemmas.{Reached}
use Rattle.ng_step.proofs.walk.ArcWalk.count.Given as goal

abbrev pub invariant-quadrants : goal.invariant-quadrants
invariant-quadrants l = Reached l.end l.self l.quadrants l.walk l.left l.steps

abbrev pub decreases-quadrants : goal.decreases-quadrants
decreases-quadrants l = l.left
