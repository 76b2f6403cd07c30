-- A stop described by numbers: how many of its unsynced contents each sector keeps (own).
use Rattle.std.specs.Prelude.{◌≡◌, ◌≤◌, ℕ, ◌+◌, ◌==◌, List, length, if◌then◌else◌, nat_lt, slice_index}
use Rattle.ng_rig.specs.Trace.{Image, Trace, Began, Wrote, Perhaps, Synced, Handed, reads, moment}

-- how many contents were written to a sector since the last sync
abbrev pub unsynced : Trace → ℕ → ℕ
unsynced (Began image) n = 0
unsynced (Wrote m bytes trace) n = if n == m then unsynced trace n + 1 else unsynced trace n
unsynced (Perhaps m bytes trace) n = if n == m then unsynced trace n + 1 else unsynced trace n
unsynced (Synced trace) n = 0
unsynced (Handed item trace) n = unsynced trace n

-- what a sector holds if the k-th of them is durable; for 0 none of them, past their number the last
abbrev pub durable : Trace → ℕ → ℕ → List ℕ
durable (Began image) n k = image n
durable (Wrote m bytes trace) n k = if n == m then (if nat_lt (unsynced trace n) k then bytes else durable trace n k) else durable trace n k
durable (Perhaps m bytes trace) n k = if n == m then (if nat_lt (unsynced trace n) k then bytes else durable trace n k) else durable trace n k
durable (Synced trace) n k = reads trace n
durable (Handed item trace) n k = durable trace n k

-- what each sector holds, given a list of such numbers; 0 past its end
abbrev pub durable_image : Trace → List ℕ → Image
durable_image trace keep n = durable trace n (slice_index keep n)

-- some list of numbers leaves this image: at most one number for each sector, and none greater than the number of calls
pub record IsReached (sectors : ℕ) (trace : Trace) (image : Image) : Type 0 where
  pub keep : List ℕ
  pub short : length keep ≤ sectors
  pub is : durable_image trace keep ≡ image
  pub small : (n : ℕ) → slice_index keep n ≤ moment trace
