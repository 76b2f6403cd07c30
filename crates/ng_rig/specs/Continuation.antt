-- What a sequence of calls may leave at a stop (own).
use Rattle.std.specs.Prelude.{◌≡◌, ◌⊎◌, ℕ, ◌≤◌, List, [], ◌∷◌, ◌++◌}
use Rattle.ng_canon.specs.declared.item.Item.{Item}
use Rattle.ng_rig.specs.Trace.{Image, Trace, MayHold, reads, items, moment, trace_at, StopSince}

-- Each stop since old is one that old could have had, or has P; and the new trace is the old one, or was it at its
-- moment.
pub record IsContinuation (old new : Trace) (P : Image → List Item → Type 0) : Type 0 where
  pub later : moment old ≤ moment new
  pub was : (new ≡ old) ⊎ (trace_at (moment old) new ≡ old)
  pub each : (t : ℕ) (image : ℕ → List ℕ) (handed : List Item) → t ≤ moment old → StopSince new t image handed → StopSince old t image handed ⊎ P image handed

-- each sector has one content, which is what a read returns
pub record IsSynced (trace : Trace) : Type 0 where
  pub one : (n : ℕ) (c : List ℕ) → MayHold trace n c → c ≡ reads trace n

-- the device reads as it did, and this item has been handed out in addition
pub record HasBesides (old : Trace) (item : Item) (image : Image) (handed : List Item) : Type 0 where
  pub image_is : image ≡ reads old
  pub handed_is : handed ≡ items old ++ item ∷ []

-- At most one item is handed out, and the device stays synced and reads as it did.
pub record HandsOne (item : Item) (old new : Trace) : Type 0 where
  pub stops : IsContinuation old new (HasBesides old item)
  pub synced : IsSynced new
  pub reads_are : reads new ≡ reads old
  pub items_are : (items new ≡ items old) ⊎ (items new ≡ items old ++ item ∷ [])
