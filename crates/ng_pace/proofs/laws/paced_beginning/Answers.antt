use Rattle.ng_pace.proofs.WholeStreamLemmas.{paced}
use Rattle.ng_pace.proofs.laws.paced_beginning.Goals as goal

pub returns : goal.returns
returns c = paced
