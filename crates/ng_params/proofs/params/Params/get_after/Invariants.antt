use Rattle.std.proofs.Common.{drop}
use Rattle.ng_params.proofs.OneParameterLemmas.{IsAhead}
use Rattle.ng_params.proofs.params.Params.get_after.Given as goal

abbrev pub invariant-loop-change : goal.invariant-loop-change
invariant-loop-change g l = IsAhead l.fn.self l.number l.changes l.value (drop l.change-index l.changes)
