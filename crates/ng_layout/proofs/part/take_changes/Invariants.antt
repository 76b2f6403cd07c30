use Rattle.ng_layout.specs.Part.{Makes}
use Rattle.ng_layout.proofs.part.take_changes.Given as goal

abbrev pub invariant-loop-k : goal.invariant-loop-k
invariant-loop-k g l = Makes l.sector l.k l.initial.table l.table
