use Rattle.ng_block.proofs.SameModeLemmas.{modes_same}
use Rattle.ng_block.proofs.laws.modes_stay.Goals as goal

pub returns : goal.returns
returns c = modes_same
