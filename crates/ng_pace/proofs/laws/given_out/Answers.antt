use Rattle.ng_pace.proofs.WholeStreamLemmas.{all_given}
use Rattle.ng_pace.proofs.laws.given_out.Goals as goal

pub returns : goal.returns
returns c = all_given
