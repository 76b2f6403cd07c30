-- What power on finds and leaves (own).
use Rattle.std.specs.Prelude.{◌≡◌, ◌⊎◌, ◌+◌, ◌<◌, ℕ, ℤ, List, Some, Result, Ok, Err}
use Rattle.ng_canon.specs.declared.item.Item.{Item}
use Rattle.ng_num.specs.declared.fault.Fault.{Fault}
use Rattle.ng_num.specs.declared.fault.Fault.TheVariants.{NotFormatted, Damaged, CountersUsed}
use Rattle.ng_rig.specs.Trace.{Image, Trace, reads}
use Rattle.ng_rig.specs.Continuation.{IsSynced}
use Rattle.ng_rig.specs.Only.{WritesOnly}
use Rattle.ng_layout.specs.declared.header.Format.{Format}
use Rattle.ng_layout.specs.declared.header.Format.TheVariants.{One, Two}
use Rattle.ng_layout.specs.declared.header.Header.{Header}
use Rattle.ng_layout.specs.Limits.{greatest_count}
use Rattle.ng_layout.specs.Stands.{in_force, stands, stands_beside, recovered, IsWritten}
use Rattle.ng_layout.specs.Stored.{StoredModel, DurableState}
use Rattle.ng_journal.specs.AtRest.{BelongsTo, IsLaidOut, next_header, migrated}

-- the recovered state, if there is a state
abbrev pub recovered_of : Result DurableState Fault → Result DurableState Fault
recovered_of (Ok s) = Ok (recovered s)
recovered_of (Err e) = Err e

-- how many epochs a power on needs: over format 1 one more, in which the device becomes format 2
abbrev pub epochs_for : Format → ℕ
epochs_for One = 2
epochs_for Two = 1

-- a power on needs an epoch past the last one
pub record HasLastEpoch (image : Image) : Type 0 where
  pub header : Header
  pub force : in_force image ≡ Some header
  pub last : greatest_count < header.epoch + epochs_for header.format
  pub standing : DurableState
  pub sound : stands image ≡ Ok standing

-- why nothing is recovered
abbrev pub HasCause : Fault → Image → Type 0
HasCause NotFormatted image = stands image ≡ Err NotFormatted
HasCause Damaged image = stands image ≡ Err Damaged
HasCause CountersUsed image = HasLastEpoch image
HasCause _ image = ⊥

-- this is the recovered state of the image, with the table of the settings
pub record IsFound (tools : List ℤ) (saved : StoredModel) (image : Image) : Type 0 where
  pub program : List ℕ
  pub is : recovered_of (stands_beside tools image) ≡ Ok (record { saved = saved; program = program })

-- the header is the one in force, but of format 2 and of the next epoch, or over format 1 of the one after that
pub record IsNextEpoch (header : Header) (image : Image) : Type 0 where
  pub before : Header
  pub force : in_force image ≡ Some before
  pub is : header ≡ record before { format = Two; epoch = before.epoch + epochs_for before.format }

-- This holds of the header in force of an image, and of the recovered state.
pub record HoldsOfFound (image : Image) (Said : Header → StoredModel → Type 0) : Type 0 where
  pub header : Header
  pub force : in_force image ≡ Some header
  pub standing : DurableState
  pub is : recovered_of (stands image) ≡ Ok standing
  pub said : Said header standing.saved

-- the header under which it is written first, of the same format
abbrev pub renewed_header : Header → StoredModel → Header
renewed_header header saved = next_header header header.area saved.length

-- the bytes that belong in sector n for the recovered state under the next epoch
abbrev pub BelongsToNext : Image → ℕ → List ℕ → Type 0
BelongsToNext image n bytes = HoldsOfFound image (λ header saved. BelongsTo (renewed_header header saved) saved n bytes)

-- the bytes that belong there over format 1 under the one after that, in format 2 with a table
abbrev pub BelongsToMigration : List ℤ → Image → ℕ → List ℕ → Type 0
BelongsToMigration tools image n bytes =
    HoldsOfFound image (λ header saved. (header.format ≡ One) × BelongsTo (migrated (renewed_header header saved)) (record saved { tools = tools }) n bytes)

-- All of the recovered state is there under the next epoch, and synced.
pub record IsRenewed (image : Image) (trace : Trace) : Type 0 where
  pub laid : HoldsOfFound image (λ header saved. IsLaidOut (renewed_header header saved) saved (reads trace))
  pub synced : IsSynced trace

-- Only what belongs there is written, and nothing is handed out: first under the next epoch, up to a middle trace. Of the
-- migration nothing is written before all of that is there and synced.
pub record Renews (tools : List ℤ) (old new : Trace) : Type 0 where
  pub middle : Trace
  pub first : WritesOnly (BelongsToNext (reads old)) old middle
  pub second : WritesOnly (BelongsToMigration tools (reads old)) middle new
  pub between : (new ≡ middle) ⊎ IsRenewed (reads old) middle

-- An image stands for one of the two states with the table of the settings, and has no record of a later epoch; nothing
-- was handed out.
pub record IsEitherBeside (tools : List ℤ) (before after : Result DurableState Fault) (given : List Item) (image : Image) (handed : List Item) : Type 0 where
  pub state : (stands_beside tools image ≡ before) ⊎ (stands_beside tools image ≡ after)
  pub written : IsWritten image
  pub handed_is : handed ≡ given

-- The table may be any; but over a header in force of format 1 it is the given one.
abbrev pub IsTableOver : List ℤ → List ℤ → Image → Type 0
IsTableOver given table image = (header : Header) → in_force image ≡ Some header → header.format ≡ One → table ≡ given
