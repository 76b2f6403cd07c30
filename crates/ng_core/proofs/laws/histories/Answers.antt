use Rattle.ng_core.proofs.ExchangeLemmas.{exchanges_lead}
use Rattle.ng_core.proofs.laws.histories.Goals as goal

pub returns : goal.returns
returns g c = exchanges_lead g.R.Rig.seen
