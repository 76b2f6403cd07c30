use Rattle.ng_layout.proofs.SectorLemmas.{TakenTo}
use Rattle.ng_layout.proofs.sectors.take_values.Given as goal

abbrev pub invariant-loop-k : goal.invariant-loop-k
invariant-loop-k g l = TakenTo l.initial.table l.table l.first l.k l.sector
