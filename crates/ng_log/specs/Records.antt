-- A record, and the sectors that hold it (own).
use Rattle.std.specs.Prelude.{◌<◌, ◌≤◌, ◌+◌, ◌-◌, ℕ, List, ℤ, length, Option}
use Rattle.ng_offsets.specs.declared.tools.SlotChange.{SlotChange}
use Rattle.ng_params.specs.declared.change.Change.{Change}
use Rattle.ng_layout.specs.Log.{PartHeader, parts_for}
use Rattle.ng_layout.specs.Part.{HoldsRecordPart}
use Rattle.ng_layout.specs.Areas.{log_first}
use Rattle.ng_layout.specs.Stored.{StoredModel}
use Rattle.ng_log.specs.declared.log_end.LogEnd.{LogEnd}
use Rattle.ng_params.specs.Differences.{differences}

-- what a record says, its first sector in the log, and its number in its epoch
pub record LogRecord : Type 0 where
  pub epoch : ℕ
  pub number : ℕ
  pub at : ℕ
  pub saved : StoredModel
  pub changes : List Change
  pub slot : Option SlotChange

-- how many sectors it takes
abbrev pub size_of : LogRecord → ℕ
size_of r = parts_for (length r.changes)

-- the label of its n-th part
abbrev pub label : LogRecord → ℕ → PartHeader
label r n = record { epoch = r.epoch; number = r.number; part = n; parts = size_of r; changes = length r.changes }

-- sector m of a log is one of the record's, and these bytes are the part that belongs there
pub record IsPartOf (r : LogRecord) (m : ℕ) (bytes : List ℕ) : Type 0 where
  pub from : r.at ≤ m
  pub to : m < r.at + size_of r
  pub holds : HoldsRecordPart (label r (m - r.at)) r.saved r.changes r.slot bytes

-- sector n of a device is one of the record's, and these bytes are the part that belongs there
pub record BelongsToRecord (r : LogRecord) (n : ℕ) (bytes : List ℕ) : Type 0 where
  pub log : log_first ≤ n
  pub part : IsPartOf r (n - log_first) bytes

-- the record that says this, at the end of a log
abbrev pub record_at : ℕ → LogEnd → StoredModel → List Change → Option SlotChange → LogRecord
record_at epoch end saved changes slot = record { epoch = epoch; number = end.number; at = end.sector; saved = saved; changes = changes; slot = slot }

-- the record of the changes from older parameters to this, with the slot that changes
abbrev pub record_from : ℕ → LogEnd → List ℤ → Option SlotChange → StoredModel → LogRecord
record_from epoch end old slot saved = record_at epoch end saved (differences old saved.setup.params) slot
