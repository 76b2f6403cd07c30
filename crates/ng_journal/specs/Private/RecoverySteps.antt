-- What the steps of a recovery find and leave.
use Rattle.std.specs.Prelude.{◌≡◌, ◌≤◌, ◌⊎◌, ℕ, ℤ, Bool, List, Some, Result, Ok, Err, OnOk, IfOk, IfErr}
use Rattle.ng_num.specs.declared.fault.Fault.{Fault}
use Rattle.ng_num.specs.declared.fault.Fault.TheVariants.{NotFormatted, Damaged, CountersUsed}
use Rattle.ng_rig.specs.Trace.{Image, Trace, Synced, reads, items}
use Rattle.ng_rig.specs.Continuation.{IsContinuation, IsSynced}
use Rattle.ng_rig.specs.Only.{WritesOnly}
use Rattle.ng_layout.specs.declared.header.Format.{Format}
use Rattle.ng_layout.specs.declared.header.Format.TheVariants.{One, Two}
use Rattle.ng_layout.specs.declared.header.Header.{Header}
use Rattle.ng_layout.specs.Header.{program_limit_of, IsValidHeader}
use Rattle.ng_layout.specs.Limits.{greatest_count}
use Rattle.ng_layout.specs.Storable.{IsStorable}
use Rattle.ng_layout.specs.Stands.{is_large, in_force, stands, stands_beside, beside_format, saved_beside, IsWritten}
use Rattle.ng_layout.specs.Stored.{StoredModel, DurableState}
use Rattle.ng_log.specs.AtEnd.{no_records, IsAtEnd}
use Rattle.ng_journal.specs.AtRest.{BelongsTo, IsLaidOut, migrated}
use Rattle.ng_journal.specs.Journal.{StandsBeside}
use Rattle.ng_journal.specs.Private.CheckpointSteps.{beside, IsBegun}
use Rattle.ng_journal.specs.Recovery.{HasCause, IsFound, IsNextEpoch, Renews, IsEitherBeside, recovered_of}

-- What was found or made is whole, also for a device that isn't honest: it can be stored under this header, which is
-- valid.
pub record IsWholeUnder (large : Bool) (saved : StoredModel) (header : Header) : Type 0 where
  pub valid : IsValidHeader large header
  pub storable : IsStorable saved
  pub count : saved.entries ≤ greatest_count
  pub long : saved.length ≡ header.length

-- the faults of what a device holds
abbrev pub IsRefusal : Fault → Type 0
IsRefusal fault = (fault ≡ NotFormatted) ⊎ ((fault ≡ Damaged) ⊎ (fault ≡ CountersUsed))

-- under this header, the image stands for this state with its program
pub record StandsUnder (header : Header) (saved : StoredModel) (image : Image) : Type 0 where
  pub force : in_force image ≡ Some header
  pub state : stands image ≡ Ok (beside saved header.area image)
  pub long : saved.length ≡ header.length
  pub program_limit : saved.program_limit ≡ program_limit_of (is_large image)

-- what the reads found
abbrev pub IsRead : StoredModel → Image → Result Header Fault → Type 0
IsRead saved image (Ok header) = StandsUnder header saved image
IsRead saved image (Err fault) = HasCause fault image

abbrev pub RecoveryOutcome : List ℤ → Result Header Fault → StoredModel → Image → Type 0
RecoveryOutcome tools (Ok header) saved image = IsFound tools saved image × IsNextEpoch header image
RecoveryOutcome tools (Err fault) saved image = HasCause fault image

-- at rest, under this header, with the recovered state and no record
pub record IsReady (tools : List ℤ) (header : Header) (saved : StoredModel) (old new : Trace) : Type 0 where
  pub standing : DurableState
  pub at : IsAtEnd new header standing no_records
  pub is : recovered_of (stands_beside tools (reads old)) ≡ Ok standing
  pub saved_is : saved ≡ standing.saved

-- Each stop since stands for the old state or for the recovered one.
pub record KeepsStanding {E : Type 0} (tools : List ℤ) (result : Result (Result Header Fault) E) (saved : StoredModel) (old new : Trace) : Type 0 where
  pub stops : IsContinuation old new (IsEitherBeside tools (stands_beside tools (reads old)) (recovered_of (stands_beside tools (reads old))) (items old))
  pub ready : IfOk result (λ answer. IfOk answer (λ header. IsReady tools header saved old new))

-- What is found, or why nothing is, and what is written, for any image. Nothing is written if there is a reason to
-- recover nothing; otherwise what was found is written, and all of it is synced. Also what stops leave over an image
-- that only this journal wrote.
pub record RestoreSpec {E : Type 0} (tools : List ℤ) (result : Result (Result Header Fault) E) (saved : StoredModel) (old new : Trace) : Type 0 where
  pub outcome : IfOk result (λ answer. RecoveryOutcome tools answer saved (reads old))
  pub refused : IfOk result (λ answer. IfErr answer (λ fault. new ≡ Synced old))
  pub renews : Renews tools old new
  pub laid : IfOk result (λ answer. IfOk answer (λ header. IsLaidOut header saved (reads new)))
  pub synced : IfOk result (λ answer. OnOk answer (IsSynced new))
  pub keeps : IsWritten (reads old) → KeepsStanding tools result saved old new

-- what a header becomes in format 2
abbrev pub modern_by : Format → Header → Header
modern_by One header = migrated header
modern_by Two header = header

-- Each stop since stands for the same state with the table, and after Ok in format 2; its log has no record.
pub record ModernizeSpec {E : Type 0} (tools : List ℤ) (result : Result Header E) (header : Header) (standing : DurableState) (old new : Trace) : Type 0 where
  pub stops : IsContinuation old new (StandsBeside tools (beside_format tools header.format standing) (items old))
  pub items_are : items new ≡ items old
  pub at : IfOk result (λ last. IsAtEnd new last (beside_format tools header.format standing) no_records)

-- what is written of it: nothing in format 2
abbrev pub BelongsToModern : List ℤ → Header → StoredModel → ℕ → List ℕ → Type 0
BelongsToModern tools header saved n bytes = (header.format ≡ One) × BelongsTo (migrated header) (record saved { tools = tools }) n bytes

-- Only that is written, and nothing is handed out. After Ok, what was there and synced is so with the table.
pub record StoresModern {E : Type 0} (tools : List ℤ) (result : Result Header E) (header : Header) (saved : StoredModel) (old new : Trace) : Type 0 where
  pub writes : WritesOnly (λ n bytes. BelongsToModern tools header saved n bytes) old new
  pub laid : IsLaidOut header saved (reads old) → IfOk result (λ last. IsLaidOut last (saved_beside tools header.format saved) (reads new))
  pub synced : IsSynced old → OnOk result (IsSynced new)

-- Both, over a device at rest with this state under the header, and over any.
pub record Modernizes {E : Type 0} (tools : List ℤ) (result : Result Header E) (header : Header) (saved : StoredModel) (old new : Trace) : Type 0 where
  pub stops : (standing : DurableState) → IsBegun old header standing → standing.saved ≡ saved → ModernizeSpec tools result header standing old new
  pub writes : StoresModern tools result header saved old new
