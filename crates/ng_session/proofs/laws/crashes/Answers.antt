use Rattle.ng_session.proofs.CutLemmas.{crash_after_events}
use Rattle.ng_session.proofs.laws.crashes.Goals as goal

pub returns : goal.returns
returns g c = crash_after_events _
