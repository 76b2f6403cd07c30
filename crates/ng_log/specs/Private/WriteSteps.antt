-- What writing a record's parts leaves, before the sync (own).
use Rattle.std.specs.Prelude.{◌<◌, ◌+◌, ℕ, Result, OnOk}
use Rattle.ng_rig.specs.Trace.{Trace, reads}
use Rattle.ng_rig.specs.Only.{WritesOnly}
use Rattle.ng_layout.specs.Areas.{log_first}
use Rattle.ng_log.specs.Records.{LogRecord, size_of, IsPartOf, BelongsToRecord}

-- Only parts of the record are written, each to its sector, and nothing is handed out. After Ok a read of each sector
-- returns its part.
pub record WritesParts {T E : Type 0} (result : Result T E) (r : LogRecord) (old new : Trace) : Type 0 where
  pub writes : WritesOnly (BelongsToRecord r) old new
  pub parts : OnOk result ((j : ℕ) → j < size_of r → IsPartOf r (r.at + j) (reads new (log_first + (r.at + j))))
