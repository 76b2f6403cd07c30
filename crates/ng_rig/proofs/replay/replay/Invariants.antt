use Rattle.std.proofs.Common.{◌≡◌, ℕ, take}
use Rattle.ng_rig.specs.Trace.{reads}
use Rattle.ng_rig.specs.RecordedCalls.{contents, trace_of_calls, IsWhole}
use Rattle.ng_rig.proofs.replay.replay.Given as goal

abbrev pub invariant-loop-call : goal.invariant-loop-call
invariant-loop-call l = record {
  whole : IsWhole l.initial.image → IsWhole l.image;
  reads : (n : ℕ) → contents l.image n ≡ reads (trace_of_calls l.initial.image (take l.call-index l.calls)) n;
}
