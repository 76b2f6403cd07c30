-- What the parts of a checkpoint leave, and what the whole leaves.
use Rattle.std.specs.Prelude.{◌≡◌, ◌≢◌, ◌⊎◌, ◌<◌, ◌+◌, ℕ, List, Result, OnOk, Some, Ok}
use Rattle.ng_rig.specs.Trace.{Trace, reads, Image, items}
use Rattle.ng_rig.specs.Only.{WritesOnly}
use Rattle.ng_num.specs.declared.fault.Fault.{Fault}
use Rattle.ng_canon.specs.declared.item.Item.{Item}
use Rattle.ng_layout.specs.Fields.{number_at}
use Rattle.ng_layout.specs.Snapshot.{HoldsPart, HoldsToolPart}
use Rattle.ng_layout.specs.declared.header.Format.TheVariants.{One, Two}
use Rattle.ng_layout.specs.Areas.{snapshot_size, snapshot_first, tools_size, tools_first, shortest_log, log_first, program_first, program_size}
use Rattle.ng_layout.specs.Stored.{StoredModel, DurableState}
use Rattle.ng_rig.specs.Continuation.{IsContinuation, IsSynced}
use Rattle.ng_layout.specs.declared.header.Header.{Header}
use Rattle.ng_layout.specs.Sectors.{program_text}
use Rattle.ng_layout.specs.Header.{program_limit_of, IsValidHeader}
use Rattle.ng_layout.specs.Stands.{is_large, stretch, program_under, in_force, snapshot, stands, IsWritten}
use Rattle.ng_log.specs.AtEnd.{replay_state_in}
use Rattle.ng_journal.specs.AtRest.{BelongsToAreas, BelongsTo, IsLaidOut}

-- The areas of a header are written, and after Ok what is stored is there.
pub record WritesAreas {T E : Type 0} (result : Result T E) (next : Header) (saved : StoredModel) (old new : Trace) : Type 0 where
  pub writes : WritesOnly (λ n bytes. BelongsToAreas next saved n bytes) old new
  pub parts : OnOk result ((j : ℕ) → j < snapshot_size → HoldsPart saved j (reads new (snapshot_first next.epoch + j)))
  pub tools : OnOk result (next.format ≡ Two → (j : ℕ) → j < tools_size → HoldsToolPart saved j (reads new (tools_first next.epoch + j)))

-- What is written for a header leaves the log of the one in force unchanged: their formats are the same, or that log is
-- of format 1 and has no record.
abbrev pub MayFollow : Header → Header → Image → Type 0
MayFollow next header image = (next.format ≡ header.format) ⊎ ((header.format ≡ One) × (number_at 8 0 (image log_first) ≢ header.epoch))

-- An image stands for the one state under a header or for the other under the next, and has no record of a later epoch;
-- nothing was handed out.
pub record IsEitherUnder (header next : Header) (before after : Result DurableState Fault) (given : List Item)
    (image : Image) (handed : List Item) : Type 0 where
  pub state : ((in_force image ≡ Some header) × (stands image ≡ before)) ⊎ ((in_force image ≡ Some next) × (stands image ≡ after))
  pub written : IsWritten image
  pub handed_is : handed ≡ given

-- An image stands for this under a header by its snapshot alone: the log of either format has no part of its epoch, nor
-- of a later one.
pub record BeginsIn (image : Image) (header : Header) (standing : DurableState) : Type 0 where
  pub force : in_force image ≡ Some header
  pub written : IsWritten image
  pub clean : (m : ℕ) → m < shortest_log → number_at 8 0 (image (log_first + m)) ≢ header.epoch
  pub snapshot_is : snapshot header.format header.length (stretch (snapshot_first header.epoch) snapshot_size image)
      (stretch (tools_first header.epoch) tools_size image) ≡ Some (replay_state_in standing.saved)
  pub program : program_under header image ≡ standing.program
  pub long : standing.saved.length ≡ header.length
  pub program_limit : standing.saved.program_limit ≡ program_limit_of (is_large image)

-- the device has one image, and it is such an image
pub record IsBegun (trace : Trace) (header : Header) (standing : DurableState) : Type 0 where
  pub synced : IsSynced trace
  pub image : BeginsIn (reads trace) header standing

-- one image, under this header, with no record of a later epoch
pub record IsOwnImage (trace : Trace) (header : Header) : Type 0 where
  pub synced : IsSynced trace
  pub force : in_force (reads trace) ≡ Some header
  pub written : IsWritten (reads trace)

-- A device with this image may have the header, and the program limit is the device's.
pub record FitsDevice (image : Image) (header : Header) (saved : StoredModel) : Type 0 where
  pub valid : IsValidHeader (is_large image) header
  pub program_limit : saved.program_limit ≡ program_limit_of (is_large image)

-- what is stored, with the program in an area of an image
abbrev pub beside : StoredModel → ℕ → Image → DurableState
beside saved area image = record { saved = saved; program = program_text saved.length (stretch (program_first area) (program_size area) image) }

-- Each stop since stands for the old state, under its header, or for the new one under the next, and after Ok only for
-- the latter; its log has no record.
pub record CheckpointSpec {T E : Type 0} (result : Result T E) (header next : Header) (saved : StoredModel) (old new : Trace) : Type 0 where
  pub stops : IsContinuation old new (IsEitherUnder header next (stands (reads old)) (Ok (beside saved next.area (reads old))) (items old))
  pub items_are : items new ≡ items old
  pub at : OnOk result (IsBegun new next (beside saved next.area (reads old)))

-- Only what belongs there is written, and nothing is handed out.
abbrev pub WritesState : Header → StoredModel → Trace → Trace → Type 0
WritesState header saved = WritesOnly (λ n bytes. BelongsTo header saved n bytes)

-- Only what belongs there is written, and nothing is handed out. After Ok all of it is there, and nothing is unsynced.
pub record StoresState {T E : Type 0} (result : Result T E) (header : Header) (saved : StoredModel) (old new : Trace) : Type 0 where
  pub writes : WritesState header saved old new
  pub laid : OnOk result (IsLaidOut header saved (reads new))
  pub synced : OnOk result (IsSynced new)
