-- What is read from a log, step by step.
use Rattle.std.specs.Prelude.{◌≡◌, ◌<◌, ◌≤◌, ◌+◌, ◌==◌, ◌&&◌, nat_le, ℕ, Bool, true, false, List, ℤ, Some, None, MatchBool}
use Rattle.ng_params.specs.Change.{with_changes}
use Rattle.ng_params.specs.declared.change.Change.{Change}
use Rattle.ng_rig.specs.Trace.{Image}
use Rattle.ng_layout.specs.declared.header.Format.{Format}
use Rattle.ng_layout.specs.declared.header.Header.{Header}
use Rattle.ng_layout.specs.Areas.{log_size_of, log_first}
use Rattle.ng_layout.specs.Log.{PartHeader, LogPosition, is_part, parts_stand, parts_for, changes_of, with_record, next}
use Rattle.ng_layout.specs.Stored.{StoredModel}
use Rattle.ng_log.specs.declared.log_end.LogEnd.{LogEnd}
use Rattle.ng_log.specs.declared.scanning.Next.{Next}
use Rattle.ng_log.specs.declared.scanning.Next.TheVariants.{Last, Damaged, After}
use Rattle.ng_log.specs.AtEnd.{replay_state_in, position_of}
use Rattle.ng_log.specs.Runs.{log_of}

-- the sectors of an image from the log's first one on
abbrev pub from_log : Image → Image
from_log image m = image (log_first + m)

-- a part with this label begins a record at the end of a log
abbrev pub begins : PartHeader → Header → LogEnd → Bool
begins first header end = (first.epoch == header.epoch) && (first.number == end.number) && (first.part == 0) &&
    (first.parts == parts_for first.changes) && nat_le (end.sector + first.parts) (log_size_of header)

-- all later parts of a record are there, or one of the parts isn't
abbrev pub LaterPartsStand : ℕ → PartHeader → Image → Bool → Type 0
LaterPartsStand at first image whole = MatchBool whole ((j : ℕ) → 0 < j → j < first.parts
    → is_part (record first { part = j }) (from_log image (at + j)) ≡ true)
    (parts_stand (from_log image) at first first.parts ≡ false)

-- the first changes of a record are applied to a table
pub record MakesAll (log : Image) (at n : ℕ) (old new : List ℤ) : Type 0 where
  pub changes : List Change
  pub there : changes_of log at n ≡ Some changes
  pub is : new ≡ with_changes old changes

-- they are applied, or one of them is out of range
abbrev pub MakesAllOrDamaged : ℕ → ℕ → List ℤ → List ℤ → Image → Bool → Type 0
MakesAllOrDamaged at n old new image whole = MatchBool whole (MakesAll (from_log image) at n old new) (changes_of (from_log image) at n ≡ None)

-- what is stored is what is found with a record, or that is damaged
abbrev pub FindsRecord : Format → ℕ → ℕ → ℕ → StoredModel → StoredModel → Image → Bool → Type 0
FindsRecord format length at changes old new image whole =
    let found = with_record format length (from_log image) at changes (replay_state_in old) in
    MatchBool whole ((found ≡ Some (replay_state_in new)) × (new.length ≡ length)) (found ≡ None)

-- that holds if the record's first sector is this one
abbrev pub TakesRecord : Format → ℕ → List ℕ → ℕ → ℕ → StoredModel → StoredModel → Image → Bool → Type 0
TakesRecord format length first at changes old new image whole = first ≡ from_log image at → FindsRecord format length at changes old new image whole

-- it leads from what is stored to a position where what is found is damaged
pub record IsDamaged (format : Format) (length : ℕ) (log : Image) (epoch : ℕ) (p : LogPosition) : Type 0 where
  pub place : LogPosition
  pub step : next format length log epoch p ≡ Some place
  pub damaged : place.found ≡ None

-- No complete record begins here; or one does and it is damaged; or the new stored state is what is found with it.
abbrev pub IsNextOf : Header → LogEnd → StoredModel → StoredModel → Image → Next → Type 0
IsNextOf header end old new image Last = (next header.format header.length (log_of header image) header.epoch (position_of end old) ≡ None) × (new ≡ old)
IsNextOf header end old new image Damaged = IsDamaged header.format header.length (log_of header image) header.epoch (position_of end old)
IsNextOf header end old new image (After after) =
    (next header.format header.length (log_of header image) header.epoch (position_of end old) ≡ Some
    (position_of after new)) × (new.length ≡ header.length)

-- it is within the log, and further on than another
pub record IsFurther (header : Header) (from to : LogEnd) : Type 0 where
  pub on : from.sector < to.sector
  pub room : to.sector ≤ log_size_of header
  pub number : to.number ≤ to.sector

-- a record after which the log continues is within it, and further on
abbrev pub IsOn : Header → LogEnd → Next → Type 0
IsOn header from (After to) = IsFurther header from to
IsOn header from _ = Unit {0}

-- unless what is found is damaged
abbrev pub Goes : Next → Type 0 → Type 0
Goes Damaged fact = Unit {0}
Goes _ fact = fact
