-- Sequences of calls that write only what may be written (own).
use Rattle.std.specs.Prelude.{◌≡◌, ◌⊎◌, ℕ, List}
use Rattle.ng_canon.specs.declared.item.Item.{Item}
use Rattle.ng_rig.specs.Trace.{Image, Trace, MayHold, items}
use Rattle.ng_rig.specs.Continuation.{IsContinuation}

-- At a stop each sector holds what the old trace allows, or what may be written there.
pub record IsMixOf (old : Trace) (May : ℕ → List ℕ → Type 0) (image : Image) (handed : List Item) : Type 0 where
  pub each : (n : ℕ) → MayHold old n (image n) ⊎ May n (image n)
  pub handed_is : handed ≡ items old

-- Only such contents are written, and nothing is handed out.
pub record WritesOnly (May : ℕ → List ℕ → Type 0) (old new : Trace) : Type 0 where
  pub stops : IsContinuation old new (IsMixOf old May)
  pub holds : (n : ℕ) (c : List ℕ) → MayHold new n c → MayHold old n c ⊎ May n c
  pub items_are : items new ≡ items old
