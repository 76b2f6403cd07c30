-- What writing each sector of a stretch leaves.
use Rattle.std.specs.Prelude.{◌≡◌, ◌<◌, ◌+◌, ℕ, List, Result, OnOk}
use Rattle.ng_rig.specs.Trace.{Trace, reads}
use Rattle.ng_rig.specs.Only.{WritesOnly}
use Rattle.ng_layout.specs.Spare.{IsAmong}
use Rattle.ng_journal.specs.Area.{BelongsIn}

-- Only what is right for its place is written to a stretch, and a read of any other sector returns what it did before.
-- After Ok all of the stretch is right.
pub record Overwrites {T E : Type 0} (result : Result T E) (first size : ℕ) (IsRight : ℕ → List ℕ → Type 0) (old new : Trace) : Type 0 where
  pub writes : WritesOnly (BelongsIn first size IsRight) old new
  pub outside : (m : ℕ) → ¬ IsAmong first size m → reads new m ≡ reads old m
  pub parts : OnOk result ((j : ℕ) → j < size → IsRight j (reads new (first + j)))
