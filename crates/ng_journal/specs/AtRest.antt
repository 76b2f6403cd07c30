-- A device at rest, and what a stop of it stands for (own).
use Rattle.std.specs.Prelude.{◌≡◌, ◌⊎◌, ◌+◌, ◌%◌, ℕ, List, Some, Ok}
use Rattle.ng_rig.specs.Trace.{Image, Trace, reads}
use Rattle.ng_rig.specs.Continuation.{IsSynced}
use Rattle.ng_layout.specs.declared.header.Header.{Header}
use Rattle.ng_layout.specs.Header.{HoldsHeader}
use Rattle.ng_layout.specs.Snapshot.{HoldsPart, HoldsToolPart}
use Rattle.ng_layout.specs.declared.header.Format.TheVariants.{Two}
use Rattle.ng_layout.specs.Spare.{IsAmong}
use Rattle.ng_layout.specs.Areas.{snapshot_first, snapshot_size, tools_first, tools_size}
use Rattle.ng_layout.specs.Stands.{in_force, stands, IsWritten}
use Rattle.ng_layout.specs.Stored.{StoredModel, DurableState}
use Rattle.ng_journal.specs.Area.{BelongsIn}
pub use Rattle.ng_log.specs.AtEnd.{IsEither}

-- one image, under this header, that stands for this state, and no record of a later epoch
pub record IsImageUnder (trace : Trace) (header : Header) (standing : DurableState) : Type 0 where
  pub synced : IsSynced trace
  pub force : in_force (reads trace) ≡ Some header
  pub format : header.format ≡ Two
  pub stands_for : stands (reads trace) ≡ Ok standing
  pub written : IsWritten (reads trace)

-- the header of the next epoch, of the same format
abbrev pub next_header : Header → ℕ → ℕ → Header
next_header header area length = record { format = header.format; epoch = header.epoch + 1; area = area; length = length }

-- the header of format 2 that comes after this one
abbrev pub migrated : Header → Header
migrated header = record { format = Two; epoch = header.epoch + 1; area = header.area; length = header.length }

-- a sector of an epoch's areas: of its snapshot or, in format 2, of its tool table
abbrev pub IsOfAreas : Header → ℕ → Type 0
IsOfAreas header n = IsAmong (snapshot_first header.epoch) snapshot_size n ⊎ ((header.format ≡ Two) × IsAmong (tools_first header.epoch) tools_size n)

-- a sector of an epoch: of its areas, or that of its header
abbrev pub IsOfEpoch : Header → ℕ → Type 0
IsOfEpoch header n = IsOfAreas header n ⊎ (n ≡ header.epoch % 2)

-- These bytes belong in sector n of the areas if this is stored under a header: a part of the snapshot or, in format 2,
-- of the tool table.
abbrev pub BelongsToAreas : Header → StoredModel → ℕ → List ℕ → Type 0
BelongsToAreas header saved n bytes = BelongsIn (snapshot_first header.epoch) snapshot_size (HoldsPart saved) n
    bytes ⊎ ((header.format ≡ Two) × BelongsIn (tools_first header.epoch) tools_size (HoldsToolPart saved) n bytes)

-- These bytes belong in sector n if this is stored under a header: a part of it in its areas, or the header in its
-- sector.
abbrev pub BelongsTo : Header → StoredModel → ℕ → List ℕ → Type 0
BelongsTo header saved n bytes = BelongsToAreas header saved n bytes ⊎ ((n ≡ header.epoch % 2) × HoldsHeader header bytes)

-- all of it is there
abbrev pub IsLaidOut : Header → StoredModel → Image → Type 0
IsLaidOut header saved image = (n : ℕ) → IsOfEpoch header n → BelongsTo header saved n (image n)
