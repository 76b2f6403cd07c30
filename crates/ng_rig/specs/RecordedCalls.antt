-- The calls that a device in memory records, and the trace that they make (own).
use Rattle.std.specs.Prelude.{◌≡◌, ◌≢◌, ◌⊎◌, ◌<◌, ◌≤◌, ℕ, Bool, true, List, [], ◌∷◌, ◌++◌, length, take, drop, get_or, nat_lt, ◌&&◌}
use Rattle.std.specs.List.{list_all}
use Rattle.ng_rig.specs.Trace.{Image, Trace, Began, Wrote, Synced, Handed}
use Rattle.ng_rig.specs.declared.call.Call.{Call}
use Rattle.ng_rig.specs.declared.call.Call.TheVariants.{Write, Sync, Hand}

abbrev pub after_call : Call → Trace → Trace
after_call (Write n bytes) trace = Wrote n bytes trace
after_call Sync trace = Synced trace
after_call (Hand item) trace = Handed item trace

abbrev pub trace_after : Trace → List Call → Trace
trace_after trace [] = trace
trace_after trace (call ∷ calls) = trace_after (after_call call trace) calls

-- these sectors, and nothing past them
abbrev pub contents : List (List ℕ) → Image
contents sectors n = get_or sectors n []

-- the trace of a device of these sectors after these calls
abbrev pub trace_of_calls : List (List ℕ) → List Call → Trace
trace_of_calls sectors calls = trace_after (Began (contents sectors)) calls

-- each sector has a content
pub record IsWhole (sectors : List (List ℕ)) : Type 0 where
  pub each : (n : ℕ) → n < length sectors → 0 < length (get_or sectors n [])

abbrev pub is_call_within : ℕ → Call → Bool
is_call_within size (Write n bytes) = nat_lt n size && nat_lt 0 (length bytes)
is_call_within size Sync = true
is_call_within size (Hand item) = true

-- each write is of a sector below the size, and its content isn't empty
abbrev pub AllWithin : ℕ → List Call → Type 0
AllWithin size calls = list_all (is_call_within size) calls ≡ true

abbrev pub NoSync : List Call → Type 0
NoSync calls = (i : ℕ) → i < length calls → get_or calls i Sync ≢ Sync

-- no call, or a sync at the end
abbrev pub EndsSynced : List Call → Type 0
EndsSynced calls = (calls ≡ []) ⊎ ((before : List Call) × (calls ≡ before ++ Sync ∷ []))

-- the last sync is the last of the first n calls
pub record IsLastSync (calls : List Call) (n : ℕ) : Type 0 where
  pub within : n ≤ length calls
  pub before : EndsSynced (take n calls)
  pub after : NoSync (drop n calls)
