use Rattle.ng_core.proofs.AccountLemmas.{accounts}
use Rattle.ng_core.proofs.AcknowledgedLemmas.{counts_acknowledged, none_taken_away}
use Rattle.ng_core.proofs.laws.accounts.Goals as goal

pub returns-clause-cuts : goal.returns-clause-cuts
returns-clause-cuts g c = accounts g.R.Rig.seen

pub returns-clause-counts : goal.returns-clause-counts
returns-clause-counts g c = counts_acknowledged g.R.Rig.seen

pub returns-clause-keeps : goal.returns-clause-keeps
returns-clause-keeps g c = none_taken_away g.R.Rig.seen
