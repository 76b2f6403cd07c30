use Rattle.ng_step.proofs.SweepLemmas.{last_is}
use Rattle.std.proofs.Common.{refl}
use Rattle.ng_step.proofs.sweep.QuadrantSweep.last.Goals as goal

pub returns-clause-last : goal.returns-clause-last
returns-clause-last c = last_is c.args.self.now _ refl c.outward_to.ensures.leaving
