use Rattle.ng_block.proofs.TravelLemmas.{joined}
use Rattle.ng_block.proofs.laws.segments_join.Goals as goal

pub returns : goal.returns
returns c = joined
