use Rattle.ng_block.proofs.EndLemmas.{alone}
use Rattle.ng_block.proofs.TravelLemmas.{still}
use Rattle.ng_block.proofs.laws.offsets_move_nothing.Goals as goal

pub returns-clause-still : goal.returns-clause-still
returns-clause-still c = still

pub returns-clause-alone : goal.returns-clause-alone
returns-clause-alone c = alone
