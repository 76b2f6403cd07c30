use Rattle.std.proofs.Common.{◌≢◌, ◌≤◌, ◌<◌, ℕ, take, get_or}
use Rattle.ng_rig.specs.RecordedCalls.{EndsSynced}
use Rattle.ng_rig.specs.declared.call.Call.TheVariants.{Sync}
use Rattle.ng_rig.proofs.replay.synced_calls.Given as goal

abbrev pub invariant-loop-i : goal.invariant-loop-i
invariant-loop-i l = record {
  within : l.synced ≤ l.i;
  before : EndsSynced (take l.synced l.calls);
  after : (k : ℕ) → l.synced ≤ k → k < l.i → get_or l.calls k Sync ≢ Sync;
}
