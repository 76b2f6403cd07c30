use Rattle.ng_layout.proofs.ToolTableLemmas.{LengthsTo}
use Rattle.ng_layout.proofs.tools.lengths_sector.Given as goal

abbrev pub invariant-loop-k : goal.invariant-loop-k
invariant-loop-k l = LengthsTo l.tools l.first l.k l.sector
