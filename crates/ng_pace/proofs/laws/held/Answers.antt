use Rattle.ng_pace.proofs.WholeStreamLemmas.{stopped}
use Rattle.ng_pace.proofs.laws.held.Goals as goal

pub returns : goal.returns
returns c = stopped
