use Rattle.std.proofs.Common.{take}
use Rattle.ng_params.proofs.SettlingLemmas.{IsNext}
use Rattle.ng_params.proofs.differences.next_changed.Given as goal

abbrev pub invariant-loop-change : goal.invariant-loop-change
invariant-loop-change l = IsNext l.above (take l.change-index l.changes) l.next
