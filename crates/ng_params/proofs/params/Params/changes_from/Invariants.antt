use Rattle.ng_params.proofs.ChangeLemmas.{AreChangesTo}
use Rattle.ng_params.proofs.params.Params.changes_from.Given as goal

abbrev pub invariant-loop-k : goal.invariant-loop-k
invariant-loop-k g l = AreChangesTo l.k l.old-inside.values.items l.self-inside.values.items l.changes.items
