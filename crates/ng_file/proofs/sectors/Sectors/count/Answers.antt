use Rattle.ng_file.proofs.SectorLemmas.{extent}
use Rattle.ng_file.proofs.sectors.Sectors.count.Goals as goal

pub returns-clause-extent : goal.returns-clause-extent
returns-clause-extent g c = λ honest. extent honest.1.0
