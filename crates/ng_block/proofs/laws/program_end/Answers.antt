use Rattle.ng_block.proofs.EndLemmas.{ended_by}
use Rattle.ng_block.proofs.laws.program_end.Goals as goal

pub returns : goal.returns
returns c = ended_by
