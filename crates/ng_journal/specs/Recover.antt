-- What `recover` returns (own).
use Rattle.std.specs.Prelude.{◌≡◌, ◌⊎◌, ℕ, ℤ, List, Result, Ok, Err, OnOk, IfOk}
use Rattle.ng_num.specs.declared.fault.Fault.{Fault}
use Rattle.ng_num.specs.declared.fault.Fault.TheVariants.{NotFormatted, Damaged, CountersUsed, DeviceFailed, OutOfMemory}
use Rattle.ng_rig.specs.Trace.{Image, Trace, Synced, reads, items}
use Rattle.ng_rig.specs.Continuation.{IsContinuation, IsSynced}
use Rattle.ng_layout.specs.Stands.{stands_beside, IsWritten}
use Rattle.ng_layout.specs.Stored.{StoredModel, DurableState}
use Rattle.ng_journal.specs.AtRest.{IsLaidOut}
use Rattle.ng_journal.specs.Journal.{JournalModel, IsDurablyAt}
use Rattle.ng_journal.specs.Recovery.{recovered_of, HasCause, IsFound, IsNextEpoch, Renews, IsEitherBeside}

abbrev pub RecoverResult : Type 0 → Type 0
RecoverResult R = Result (JournalModel R × StoredModel) (Fault × R)

-- the device that is returned
abbrev pub recover_rig : {R : Type 0} → RecoverResult R → R
recover_rig (Ok x) = x.0.rig
recover_rig (Err e) = e.1

-- why a device may not be recovered, whatever it holds: it is out of memory, the device failed, it isn't formatted, it
-- is damaged, or its epochs are used up
abbrev pub IsRecoveryFault : Fault → Type 0
IsRecoveryFault fault = (fault ≡ OutOfMemory) ⊎ ((fault ≡ DeviceFailed) ⊎ ((fault ≡ NotFormatted) ⊎ ((fault ≡ Damaged) ⊎ (fault ≡ CountersUsed))))

-- the journal goes on under the epoch after the one in force
abbrev pub BeginsEpoch : {R : Type 0} → JournalModel R → Image → Type 0
BeginsEpoch journal image = IsNextEpoch journal.header image

-- what was found, or why nothing was
abbrev pub FoundByRecover : {R : Type 0} → List ℤ → RecoverResult R → Image → Type 0
FoundByRecover tools (Ok x) image = IsFound tools x.1 image × BeginsEpoch x.0 image
FoundByRecover tools (Err (OutOfMemory, rig)) image = Unit {0}
FoundByRecover tools (Err (DeviceFailed, rig)) image = Unit {0}
FoundByRecover tools (Err (fault, rig)) image = HasCause fault image

-- A refusal because of what the device holds leaves it as it was, with one more sync.
abbrev pub LeavesAlone : {R : Type 0} → RecoverResult R → Trace → Trace → Type 0
LeavesAlone (Ok x) old new = Unit {0}
LeavesAlone (Err (OutOfMemory, rig)) old new = Unit {0}
LeavesAlone (Err (DeviceFailed, rig)) old new = Unit {0}
LeavesAlone (Err (fault, rig)) old new = new ≡ Synced old

-- the journal is at rest with the recovered state
pub record IsJournalRecovered {R : Type 0} (tools : List ℤ) (journal : JournalModel R) (old new : Trace) : Type 0 where
  pub standing : DurableState
  pub rests : IsDurablyAt new journal standing
  pub is : recovered_of (stands_beside tools (reads old)) ≡ Ok standing

-- Each stop since stands for the old state or for the recovered one.
pub record JournalKeepsAll {R : Type 0} (tools : List ℤ) (result : RecoverResult R) (old new : Trace) : Type 0 where
  pub stops : IsContinuation old new (IsEitherBeside tools (stands_beside tools (reads old)) (recovered_of (stands_beside tools (reads old))) (items old))
  pub ready : IfOk result (λ x. IsJournalRecovered tools x.0 old new)

-- What is found, or why nothing is, and what is written, for any image. After Ok what was found is there under the
-- journal's header, and nothing is unsynced. Also what stops leave over an image that only this journal wrote.
pub record RecoverSpec {R : Type 0} (tools : List ℤ) (result : RecoverResult R) (old new : Trace) : Type 0 where
  pub finds : FoundByRecover tools result (reads old)
  pub refused : LeavesAlone result old new
  pub renews : Renews tools old new
  pub laid : IfOk result (λ x. IsLaidOut x.0.header x.1 (reads new))
  pub synced : OnOk result (IsSynced new)
  pub keeps : IsWritten (reads old) → JournalKeepsAll tools result old new

abbrev pub recover_fault : {R : Type 0} → RecoverResult R → Result ℕ Fault
recover_fault (Ok x) = Ok 0
recover_fault (Err e) = Err e.0
