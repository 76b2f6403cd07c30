use Rattle.ng_journal.proofs.GrownDeviceLemmas.{grown_stands}
use Rattle.ng_journal.proofs.laws.grown.Goals as goal

pub returns : goal.returns
returns c = grown_stands
