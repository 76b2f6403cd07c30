use Rattle.ng_params.proofs.ClearLemmas.{IsClearedTo}
use Rattle.ng_params.proofs.params.Params.clear_passing.Given as goal

abbrev pub invariant-loop-k : goal.invariant-loop-k
invariant-loop-k g l = IsClearedTo l.k l.fn.self l.self-inside.values.items
