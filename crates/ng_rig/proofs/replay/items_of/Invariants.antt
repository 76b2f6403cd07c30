use Rattle.std.proofs.Common.{◌≡◌, ℕ, List, take}
use Rattle.ng_rig.specs.Trace.{items}
use Rattle.ng_rig.specs.RecordedCalls.{trace_of_calls}
use Rattle.ng_rig.proofs.replay.items_of.Given as goal

abbrev pub invariant-loop-call : goal.invariant-loop-call
invariant-loop-call g l = (sectors : List (List ℕ)) → l.handed.items ≡ items (trace_of_calls sectors (take l.call-index l.calls))
