use Rattle.ng_core.proofs.LivesLemmas.{cuts_of_life, recovered_again}
use Rattle.ng_core.proofs.laws.cuts.Goals as goal

pub returns-clause-history : goal.returns-clause-history
returns-clause-history c = cuts_of_life

pub returns-clause-again : goal.returns-clause-again
returns-clause-again c = recovered_again
