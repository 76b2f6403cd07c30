use Rattle.ng_core.proofs.SessionStopLemmas.{within_power_on, after_power_on, anew}
use Rattle.ng_core.proofs.laws.sessions.Goals as goal

pub returns-clause-within : goal.returns-clause-within
returns-clause-within g c = within_power_on g.R.Rig.seen

pub returns-clause-after : goal.returns-clause-after
returns-clause-after g c = after_power_on _ g.R.Rig.seen

pub returns-clause-anew : goal.returns-clause-anew
returns-clause-anew g c = anew _ g.R.Rig.seen
