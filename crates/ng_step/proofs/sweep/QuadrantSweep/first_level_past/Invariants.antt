use Rattle.ng_step.proofs.SweepLemmas.{Halves}
use Rattle.ng_step.proofs.sweep.QuadrantSweep.first_level_past.Given as goal

abbrev pub invariant-halves : goal.invariant-halves
invariant-halves l = Halves l.self l.end l.last l.first l.levels

abbrev pub decreases-halves : goal.decreases-halves
decreases-halves l = l.levels
