use Rattle.std.proofs.Common.{arith}
use Rattle.ng_journal.proofs.formatting.empty_sector.Goals as goal

pub returns : goal.returns
returns c = grind arith
