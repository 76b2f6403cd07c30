use Rattle.ng_core.proofs.LifetimeLemmas.{holds_from_format, holds_from_image}
use Rattle.ng_core.proofs.laws.lifetime.Goals as goal

pub returns-clause-formatted : goal.returns-clause-formatted
returns-clause-formatted g c = holds_from_format _ g.R.Rig.seen

pub returns-clause-found : goal.returns-clause-found
returns-clause-found g c = holds_from_image _ g.R.Rig.seen
