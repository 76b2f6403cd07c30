use Rattle.ng_file.proofs.StopLemmas.{stop-at, stop-now}
use Rattle.ng_file.proofs.laws.stops.Goals as goal

pub returns-clause-now : goal.returns-clause-now
returns-clause-now g c = λ rig image honest left. stop-now (g.S.Storage.content rig.sectors.file) (g.S.Storage.promise rig.sectors.file) image honest.1.0 left

pub returns-clause-at : goal.returns-clause-at
returns-clause-at g c = λ rig t image honest until left. stop-at t rig.sectors.file image honest.1.1 until left
