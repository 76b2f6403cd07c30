-- Runs of complete records in a log, and where they end (own).
use Rattle.std.specs.Prelude.{◌≡◌, ◌≢◌, ◌<◌, ◌≤◌, ℕ, zero, suc, Some, None}
use Rattle.ng_rig.specs.Trace.{Image}
use Rattle.ng_layout.specs.declared.header.Format.{Format}
use Rattle.ng_layout.specs.declared.header.Header.{Header}
use Rattle.ng_layout.specs.Fields.{number_at}
use Rattle.ng_layout.specs.Areas.{log_size, log_size_of, log_first, snapshot_first, snapshot_size, tools_first, tools_size}
use Rattle.ng_layout.specs.Log.{LogPosition, next}
use Rattle.ng_layout.specs.Stands.{snapshot, stretch}

-- the log of an image under a header
abbrev pub log_of : Header → Image → Image
log_of header image = stretch log_first (log_size_of header) image

-- where the log of a header begins, with what its snapshot says
abbrev pub beginning : Image → Header → LogPosition
beginning image header =
    record {
      at = 0;
      number = 0;
      found = snapshot header.format header.length
          (stretch (snapshot_first header.epoch) snapshot_size image)
          (stretch (tools_first header.epoch) tools_size image);
    }

-- n complete records lead from one position in a log to another
abbrev pub Reaches : ℕ → Format → ℕ → Image → ℕ → LogPosition → LogPosition → Type 0
Reaches zero format length log epoch p q = p ≡ q
Reaches (suc n) format length log epoch p q = (m : LogPosition) × (next format length log epoch p ≡ Some m) × Reaches n format length log epoch m q

-- from this sector of a log on, no sector has a part of this epoch
pub record IsClean (size : ℕ) (log : Image) (epoch at : ℕ) : Type 0 where
  pub none : (m : ℕ) → at ≤ m → m < size → number_at 8 0 (log m) ≢ epoch

-- Complete records lead here, and no complete one follows.
pub record IsLongest (format : Format) (length : ℕ) (log : Image) (epoch : ℕ) (first last : LogPosition) : Type 0 where
  pub records : ℕ
  pub reached : Reaches records format length log epoch first last
  pub none : next format length log epoch last ≡ None

-- Complete records lead here, and from here on the log has no part of their epoch.
pub record EndsAt (format : Format) (length : ℕ) (log : Image) (epoch : ℕ) (first last : LogPosition) : Type 0 where
  pub records : ℕ
  pub reached : Reaches records format length log epoch first last
  pub room : last.at ≤ log_size format
  pub clean : IsClean (log_size format) log epoch last.at
