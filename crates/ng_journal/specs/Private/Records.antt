-- How a record is stored: first room is made for it, and then it is written.
use Rattle.std.specs.Prelude.{◌≡◌, ◌≤◌, ◌⊎◌, ℕ, List, Option, Result, Ok, OnOk, IfOk}
use Rattle.ng_rig.specs.Trace.{Trace, reads, items}
use Rattle.ng_rig.specs.Continuation.{IsContinuation, IsSynced}
use Rattle.ng_rig.specs.Only.{WritesOnly}
use Rattle.ng_layout.specs.Limits.{greatest_count}
use Rattle.ng_layout.specs.Storable.{IsStorable}
use Rattle.ng_layout.specs.Stored.{StoredModel, DurableState}
use Rattle.ng_log.specs.Writing.{WritesRecord}
use Rattle.ng_offsets.specs.Tools.{first_change, IsOneSlotFrom}
use Rattle.ng_offsets.specs.declared.tools.SlotChange.{SlotChange}
use Rattle.ng_params.specs.Differences.{differences}
use Rattle.ng_params.specs.declared.change.Change.{Change}
use Rattle.ng_log.specs.AtEnd.{IsAtEnd}
use Rattle.ng_journal.specs.declared.storing.Tip.{Tip}
use Rattle.ng_journal.specs.AtRest.{BelongsTo, IsEither, IsLaidOut}
use Rattle.ng_journal.specs.Journal.{IsTip, StandsFor}
use Rattle.ng_journal.specs.Storing.{Ledger, HasRoomFor, IsFullFor, IsLedgerAfter, StoresRecord, record_of, renewed}

-- what a journal keeps, given its tip
abbrev pub ledger : Tip → StoredModel → Ledger
ledger tip saved = record { header = tip.header; end = tip.end; saved = saved }

abbrev pub tip_of : Ledger → Tip
tip_of l = record { header = l.header; end = l.end }

-- a log with room for a record of this many changes: the present one or, if that has no room, the next epoch's
abbrev pub IsRoom : Ledger → ℕ → Tip → Type 0
IsRoom l changes tip = (HasRoomFor l.header l.end changes × (tip ≡ tip_of l)) ⊎ (IsFullFor l.header l.end changes × (tip ≡ tip_of (renewed l)))

-- Each stop since stands for the old state, and after Ok the device is at rest with it.
pub record MakeRoomSpec {E : Type 0} (result : Result Tip E) (before : DurableState) (old new : Trace) : Type 0 where
  pub stops : IsContinuation old new (StandsFor before (items old))
  pub items_are : items new ≡ items old
  pub at : IfOk result (λ tip. IsAtEnd new tip.header before tip.end)

-- The state is stored under the next epoch, and a stop can leave nothing else.
pub record IsRenewed (l : Ledger) (trace : Trace) : Type 0 where
  pub laid : IsLaidOut (renewed l).header l.saved (reads trace)
  pub synced : IsSynced trace

-- What is stored is written under the next epoch, if the log has no room for a record of this many changes; otherwise
-- nothing is written.
pub record StoresRoom {T E : Type 0} (result : Result T E) (l : Ledger) (changes : ℕ) (old new : Trace) : Type 0 where
  pub writes : WritesOnly (λ n bytes. IsFullFor l.header l.end changes × BelongsTo (renewed l).header l.saved n bytes) old new
  pub done : OnOk result (IsFullFor l.header l.end changes → IsRenewed l new)

-- what making room leaves, over a device at rest with the old state, and over any
pub record MakesRoom {E : Type 0} (result : Result Tip E) (l : Ledger) (changes : ℕ) (old new : Trace) : Type 0 where
  pub stops : (before : DurableState) → IsAtEnd old l.header before l.end → before.saved ≡ l.saved → MakeRoomSpec result before old new
  pub writes : StoresRoom result l changes old new

-- Each stop since stands for the old state or for the new one, and after Ok only for the latter; the log ends after its
-- record.
pub record StoreRecordSpec {E : Type 0} (result : Result Tip E) (before : DurableState) (saved : StoredModel) (old new : Trace) : Type 0 where
  pub stops : IsContinuation old new (IsEither (Ok before) (Ok (record before { saved = saved })) (items old))
  pub items_are : items new ≡ items old
  pub at : IfOk result (λ tip. IsAtEnd new tip.header (record before { saved = saved }) tip.end)

-- it can be stored, and its entry count is within the limit
pub record MayStand (saved : StoredModel) : Type 0 where
  pub storable : IsStorable saved
  pub count : saved.entries ≤ greatest_count

-- these changes of parameters and of a slot lead from the one state to the other
pub record LeadsTo (was saved : StoredModel) (changes : List Change) (slot : Option SlotChange) : Type 0 where
  pub changes_are : changes ≡ differences was.setup.params saved.setup.params
  pub slot_is : slot ≡ first_change was.tools saved.tools
  pub one : IsOneSlotFrom was.tools saved.tools

-- What writing the record that leads from one state to another leaves, over a device at rest with the one, and over any.
pub record AppendsRecord {E : Type 0} (result : Result Tip E) (l : Ledger) (saved : StoredModel) (old new : Trace) : Type 0 where
  pub stops : (before : DurableState) → IsAtEnd old l.header before l.end → before.saved ≡ l.saved → StoreRecordSpec result before saved old new
  pub writes : WritesRecord result (record_of l saved) old new

-- the same of storing it, for which room may be made first
pub record StoresNext {E : Type 0} (result : Result Tip E) (l : Ledger) (saved : StoredModel) (old new : Trace) : Type 0 where
  pub stops : (before : DurableState) → IsAtEnd old l.header before l.end → before.saved ≡ l.saved → StoreRecordSpec result before saved old new
  pub writes : StoresRecord result l saved old new

-- the tip after it is stored
pub record IsTipAfter (l : Ledger) (saved : StoredModel) (tip : Tip) : Type 0 where
  pub ledger_is : IsLedgerAfter l saved (ledger tip saved)
  pub tip_is : IsTip saved.length tip.header tip.end
