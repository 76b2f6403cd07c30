use Rattle.std.proofs.Common.{refl}
use Rattle.ng_rig.proofs.ContinuationLemmas.{may_hold-reads}
use Rattle.ng_rig.proofs.LaterStopLemmas.{since-between, between-since}
use Rattle.ng_rig.proofs.laws.stops.Goals as goal

pub returns-clause-reads : goal.returns-clause-reads
returns-clause-reads c = λ trace. (may_hold-reads trace, refl)

pub returns-clause-since : goal.returns-clause-since
returns-clause-since c = λ trace t image handed le. (since-between image handed trace t le, between-since image handed trace t)
