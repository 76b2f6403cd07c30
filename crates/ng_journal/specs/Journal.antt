-- A journal as its callers see it, and what its calls leave (own).
use Rattle.std.specs.Prelude.{◌≡◌, ◌⊎◌, ◌≤◌, ◌+◌, ◌%◌, ◌^◌, ℕ, ℤ, Bool, if◌then◌else◌, false, List, [], ◌∷◌, ◌++◌, Result, Ok, Err, OnOk}
use Rattle.ng_num.specs.declared.fault.Fault.{Fault}
use Rattle.ng_canon.specs.declared.item.Item.{Item}
use Rattle.ng_rig.specs.Rig.{Device}
use Rattle.ng_rig.specs.Trace.{Image, Trace, reads, items}
use Rattle.ng_rig.specs.Continuation.{IsContinuation, IsSynced}
use Rattle.ng_layout.specs.declared.header.Header.{Header}
use Rattle.ng_layout.specs.Header.{program_limit_of, IsValidHeader}
use Rattle.ng_layout.specs.declared.header.Format.TheVariants.{Two}
use Rattle.ng_layout.specs.Limits.{greatest_count}
use Rattle.ng_layout.specs.Areas.{is_large_size, log_size_of}
pub use Rattle.ng_layout.specs.Areas.{least_size}
use Rattle.ng_layout.specs.Stands.{program_under, stands, stands_beside, IsModern, IsWritten}
use Rattle.ng_layout.specs.Storable.{IsStorable}
use Rattle.ng_layout.specs.Stored.{StoredModel, DurableState}
use Rattle.ng_log.specs.declared.log_end.LogEnd.{LogEnd}
use Rattle.ng_log.specs.AtEnd.{IsAtEnd}
use Rattle.ng_journal.specs.AtRest.{IsEither}
use Rattle.ng_journal.specs.Failures.{is_device_failure}

-- the device, the header in force, where its log ends, what is stored, and whether a call of the device failed
pub record JournalModel (R : Type 0) : Type 0 where
  pub rig : R
  pub header : Header
  pub end : LogEnd
  pub saved : StoredModel
  pub broken : Bool

-- What a journal keeps of a state: all but the program limit, which is that of its device.
abbrev pub with_own_limit : {R : Type 0} → JournalModel R → StoredModel → StoredModel
with_own_limit journal stored = record stored { program_limit = journal.saved.program_limit }

-- The header is of format 2 and names a program of this length. Its log ends here, within its sectors; each record
-- takes at least one sector.
pub record IsTip (length : ℕ) (header : Header) (end : LogEnd) : Type 0 where
  pub long : length ≡ header.length
  pub format : header.format ≡ Two
  pub within : end.sector ≤ log_size_of header
  pub number : end.number ≤ end.sector

-- What holds of every journal, whatever its device does: its header is valid on a device with this many sectors, and
-- its program limit is that of such a device.
pub record IsSteady (sectors : ℕ) (header : Header) (end : LogEnd) (saved : StoredModel) : Type 0 where
  pub least : least_size ≤ sectors
  pub valid : IsValidHeader (is_large_size sectors) header
  pub program_limit : saved.program_limit ≡ program_limit_of (is_large_size sectors)
  pub tip : IsTip saved.length header end
  pub storable : IsStorable saved
  pub count : saved.entries ≤ greatest_count

-- The device has one image, which stands for this state, and the log ends where the journal says.
pub record IsDurablyAt {R : Type 0} (trace : Trace) (journal : JournalModel R) (standing : DurableState) : Type 0 where
  pub at : IsAtEnd trace journal.header standing journal.end
  pub saved_is : standing.saved ≡ journal.saved

-- the program whose bytes the journal's header names on a device
abbrev pub program_in_force : {R : Type 0} → Trace → JournalModel R → List ℕ
program_in_force trace journal = program_under journal.header (reads trace)

-- Whatever the device stands for, all of it is synced, and this is the program in force.
pub record HoldsProgram {R : Type 0} (trace : Trace) (journal : JournalModel R) (program : List ℕ) : Type 0 where
  pub synced : IsSynced trace
  pub program_is : program_in_force trace journal ≡ program

-- Each stop since stands for the state before or for the state after, and after Ok only for the latter; nothing is
-- handed out.
pub record CommitSpec {R T E : Type 0} (result : Result T E) (journal : JournalModel R) (before after : DurableState) (old new : Trace) : Type 0 where
  pub stops : IsContinuation old new (IsEither (Ok before) (Ok after) (items old))
  pub items_are : items new ≡ items old
  pub at : OnOk result (IsDurablyAt new journal after)

-- An image of either format stands for this state with a table and has no record of a later epoch; these items were
-- handed out.
pub record StandsBeside (tools : List ℤ) (standing : DurableState) (given : List Item) (image : Image) (handed : List Item) : Type 0 where
  pub state : stands_beside tools image ≡ Ok standing
  pub written : IsWritten image
  pub handed_is : handed ≡ given

-- An image of format 2 stands for this state and has no record of a later epoch; these items were handed out.
pub record StandsFor (standing : DurableState) (given : List Item) (image : Image) (handed : List Item) : Type 0 where
  pub state : stands image ≡ Ok standing
  pub modern : IsModern image
  pub written : IsWritten image
  pub handed_is : handed ≡ given

-- Each stop since has the item in addition, and the state is unchanged. After Ok the item is handed out, otherwise it
-- or nothing.
pub record JournalHandOutSpec {R T E : Type 0} (result : Result T E) (journal : JournalModel R)
    (standing : DurableState) (item : Item) (old new : Trace) : Type 0 where
  pub stops : IsContinuation old new (StandsFor standing (items old ++ item ∷ []))
  pub items_are : (items new ≡ items old) ⊎ (items new ≡ items old ++ item ∷ [])
  pub given : OnOk result (items new ≡ items old ++ item ∷ [])
  pub at : IsDurablyAt new journal standing

-- The device failed in the call exactly if the fault says so.
abbrev pub CountsFailure : {T : Type 0} → Result T Fault → ℕ → ℕ → Type 0
CountsFailure (Err e) old new = new ≡ (if is_device_failure e then (old + 1) % 2 ^ 64 else old)
CountsFailure (Ok _) old new = new ≡ old

-- A journal is broken exactly if the device failed.
abbrev pub IsBrokenBy : {T : Type 0} → Result T Fault → Bool → Type 0
IsBrokenBy (Err e) broken = broken ≡ is_device_failure e
IsBrokenBy (Ok _) broken = broken ≡ false

-- Whatever the device does: it keeps its size and counts a failure, and the journal is broken exactly if there was one.
pub record JournalCall {R T : Type 0} (seen : R → Device) (result : Result T Fault) (old new : JournalModel R) : Type 0 where
  pub size : (seen new.rig).sectors ≡ (seen old.rig).sectors
  pub failures : CountsFailure result (seen old.rig).failed (seen new.rig).failed
  pub broken : IsBrokenBy result new.broken
