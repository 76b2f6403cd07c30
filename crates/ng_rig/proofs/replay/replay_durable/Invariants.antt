use Rattle.std.proofs.Common.{◌≡◌, ◌≤◌, ℕ, take, slice_index}
use Rattle.ng_rig.specs.RecordedCalls.{contents, trace_of_calls, IsWhole}
use Rattle.ng_rig.specs.Stops.{unsynced, durable}
use Rattle.ng_rig.proofs.replay.replay_durable.Given as goal

abbrev pub invariant-loop-call : goal.invariant-loop-call
invariant-loop-call l = record {
  whole : IsWhole l.initial.image → IsWhole l.image;
  image : (n : ℕ) → contents l.image n ≡ durable (trace_of_calls l.initial.image (take l.call-index l.calls)) n (slice_index l.keep n);
  count : (n : ℕ) → slice_index l.written n ≡ unsynced (trace_of_calls l.initial.image (take l.call-index l.calls)) n;
  bound : (n : ℕ) → slice_index l.written n ≤ l.call-index;
}
