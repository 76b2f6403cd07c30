-- What writing a record leaves (own).
use Rattle.std.specs.Prelude.{◌≡◌, ◌<◌, ◌+◌, ℕ, Result, Ok, OnOk, IfOk}
use Rattle.ng_rig.specs.Trace.{Trace, reads, items}
use Rattle.ng_rig.specs.Continuation.{IsContinuation, IsSynced}
use Rattle.ng_rig.specs.Only.{WritesOnly}
use Rattle.ng_layout.specs.declared.header.Header.{Header}
use Rattle.ng_layout.specs.Areas.{log_first}
use Rattle.ng_layout.specs.Stored.{StoredModel, DurableState}
use Rattle.ng_log.specs.declared.log_end.LogEnd.{LogEnd}
use Rattle.ng_log.specs.AtEnd.{IsAtEnd, IsEither}
use Rattle.ng_log.specs.Records.{LogRecord, size_of, IsPartOf, BelongsToRecord}

-- Only parts of the record are written, each to its sector, and nothing is handed out. After Ok all parts are there and
-- nothing is unsynced.
pub record WritesRecord {T E : Type 0} (result : Result T E) (r : LogRecord) (old new : Trace) : Type 0 where
  pub writes : WritesOnly (BelongsToRecord r) old new
  pub parts : OnOk result ((j : ℕ) → j < size_of r → IsPartOf r (r.at + j) (reads new (log_first + (r.at + j))))
  pub synced : OnOk result (IsSynced new)

-- Each stop since then stands for what stood before, or for the new state with the same program; after Ok only for the
-- new state, and the log ends after the record.
pub record AppendSpec {E : Type 0} (result : Result LogEnd E) (header : Header) (before : DurableState) (saved : StoredModel) (old new : Trace) : Type 0 where
  pub stops : IsContinuation old new (IsEither (Ok before) (Ok (record before { saved = saved })) (items old))
  pub items_are : items new ≡ items old
  pub at : IfOk result (λ end. IsAtEnd new header (record before { saved = saved }) end)
