use Rattle.ng_layout.proofs.SectorLemmas.{ValuesTo}
use Rattle.ng_layout.proofs.sectors.values_sector.Given as goal

abbrev pub invariant-loop-k : goal.invariant-loop-k
invariant-loop-k g l = ValuesTo l.table l.first l.k l.sector
