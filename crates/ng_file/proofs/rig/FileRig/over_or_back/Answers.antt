use Rattle.std.proofs.Common.{ap, false}
use Rattle.ng_rig.specs.Trace.{items}
use Rattle.ng_file.proofs.HandOutLemmas.{given-none}
use Rattle.ng_file.proofs.rig.FileRig.over_or_back.Goals as goal

pub returns-in-Ok-over-clause-handed : goal.returns-in-Ok-over-clause-handed
returns-in-Ok-over-clause-handed g c = given-none (g.W.Write.contents c.args.out) false (ap items c.in-Ok-over.ensures.trace)
