use Rattle.ng_block.proofs.TravelLemmas.{inside}
use Rattle.ng_block.proofs.laws.travel.Goals as goal

pub returns : goal.returns
returns c = inside
