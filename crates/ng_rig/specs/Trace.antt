-- The trace of a device, and the stops that it allows (own).
use Rattle.std.specs.Prelude.{◌≡◌, ◌⊎◌, ℕ, ◌+◌, ◌≤◌, ◌==◌, List, [], ◌∷◌, ◌++◌, if◌then◌else◌, nat_lt}
use Rattle.ng_canon.specs.declared.item.Item.{Item}

-- what each sector holds; sectors past the size hold what they always held
abbrev pub Image : Type 0
Image = ℕ → List ℕ

-- The writes, syncs and hand-outs of a device, the newest outermost.
pub data Trace : Type 0 where
  -- a device that holds this image, all of it synced, and has handed nothing out
  Began : Image → Trace
  Wrote : ℕ → List ℕ → Trace → Trace
  -- a failed write that a read doesn't return, but that a stop may leave
  Perhaps : ℕ → List ℕ → Trace → Trace
  Synced : Trace → Trace
  Handed : Item → Trace → Trace

-- what a read of a sector returns
abbrev pub reads : Trace → ℕ → List ℕ
reads (Began image) n = image n
reads (Wrote m bytes trace) n = if n == m then bytes else reads trace n
reads (Perhaps m bytes trace) n = reads trace n
reads (Synced trace) n = reads trace n
reads (Handed item trace) n = reads trace n

-- At a stop a sector holds its content at the last good sync, or any content written to it since.
abbrev pub MayHold : Trace → ℕ → List ℕ → Type 0
MayHold (Began image) n c = c ≡ image n
MayHold (Wrote m bytes trace) n c = ((n ≡ m) × (c ≡ bytes)) ⊎ MayHold trace n c
MayHold (Perhaps m bytes trace) n c = ((n ≡ m) × (c ≡ bytes)) ⊎ MayHold trace n c
MayHold (Synced trace) n c = c ≡ reads trace n
MayHold (Handed item trace) n c = MayHold trace n c

-- the items handed out, in order
abbrev pub items : Trace → List Item
items (Began image) = []
items (Wrote m bytes trace) = items trace
items (Perhaps m bytes trace) = items trace
items (Synced trace) = items trace
items (Handed item trace) = items trace ++ item ∷ []

-- the number of writes, syncs and hand-outs so far, which is the clock
abbrev pub moment : Trace → ℕ
moment (Began image) = 0
moment (Wrote m bytes trace) = moment trace + 1
moment (Perhaps m bytes trace) = moment trace + 1
moment (Synced trace) = moment trace + 1
moment (Handed item trace) = moment trace + 1

-- what a stop may leave now: a free choice for each sector, and the items handed out so far
abbrev pub IsStop : Trace → Image → List Item → Type 0
IsStop trace image handed = ((n : ℕ) → MayHold trace n (image n)) × (handed ≡ items trace)

-- what a stop at some moment from t on could have left, within a call or between two
abbrev pub StopSince : Trace → ℕ → Image → List Item → Type 0
StopSince (Began first) t image handed = IsStop (Began first) image handed
StopSince (Wrote m bytes trace) t image handed = IsStop (Wrote m bytes trace) image handed ⊎ ((t ≤ moment trace) × StopSince trace t image handed)
StopSince (Perhaps m bytes trace) t image handed = IsStop (Perhaps m bytes trace) image handed ⊎ ((t ≤ moment trace) × StopSince trace t image handed)
StopSince (Synced trace) t image handed = IsStop (Synced trace) image handed ⊎ ((t ≤ moment trace) × StopSince trace t image handed)
StopSince (Handed item trace) t image handed = IsStop (Handed item trace) image handed ⊎ ((t ≤ moment trace) × StopSince trace t image handed)

-- the trace as it was at a moment; for a moment still to come, as it is
abbrev pub trace_at : ℕ → Trace → Trace
trace_at t (Began image) = Began image
trace_at t (Wrote n bytes trace) = if nat_lt (moment trace) t then Wrote n bytes trace else trace_at t trace
trace_at t (Perhaps n bytes trace) = if nat_lt (moment trace) t then Perhaps n bytes trace else trace_at t trace
trace_at t (Synced trace) = if nat_lt (moment trace) t then Synced trace else trace_at t trace
trace_at t (Handed item trace) = if nat_lt (moment trace) t then Handed item trace else trace_at t trace
