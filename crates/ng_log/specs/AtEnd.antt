-- A device at rest whose log ends somewhere, and what a stop of it stands for (own).
use Rattle.std.specs.Prelude.{◌≡◌, ◌⊎◌, ◌+◌, ℕ, List, Some, Result}
use Rattle.ng_num.specs.declared.fault.Fault.{Fault}
use Rattle.ng_canon.specs.declared.item.Item.{Item}
use Rattle.ng_rig.specs.Trace.{Image, Trace, reads}
use Rattle.ng_rig.specs.Continuation.{IsSynced}
use Rattle.ng_layout.specs.declared.header.Header.{Header}
use Rattle.ng_layout.specs.Areas.{log_size_of}
use Rattle.ng_layout.specs.Log.{ReplayState, LogPosition, parts_for}
use Rattle.ng_layout.specs.Snapshot.{decoded_state_in}
use Rattle.ng_layout.specs.Header.{program_limit_of}
use Rattle.ng_layout.specs.Stands.{is_large, program_under, in_force, stands, IsModern, IsWritten}
use Rattle.ng_layout.specs.declared.header.Format.TheVariants.{Two}
use Rattle.ng_layout.specs.Stored.{StoredModel, DurableState}
use Rattle.ng_log.specs.declared.log_end.LogEnd.{LogEnd}
use Rattle.ng_log.specs.Runs.{log_of, beginning, EndsAt}

-- what a run of records finds if it leads to this
abbrev pub replay_state_in : StoredModel → ReplayState
replay_state_in s = record { decoded = decoded_state_in s; params = s.setup.params; tools = s.tools }

abbrev pub position_of : LogEnd → StoredModel → LogPosition
position_of end saved = record { at = end.sector; number = end.number; found = Some (replay_state_in saved) }

-- the end of a log without a record
abbrev pub no_records : LogEnd
no_records = record { sector = 0; number = 0 }

-- the end of a log after one more record with this many changes
abbrev pub end_after : LogEnd → ℕ → LogEnd
end_after end changes = record { sector = end.sector + parts_for changes; number = end.number + 1 }

-- The image stands under this header, of format 2, for this state. Its log ends here; after that the log has no part of
-- the epoch, and nowhere a part of an epoch to come.
pub record EndsIn (image : Image) (header : Header) (standing : DurableState) (end : LogEnd) : Type 0 where
  pub force : in_force image ≡ Some header
  pub format : header.format ≡ Two
  pub written : IsWritten image
  pub ends : EndsAt header.format header.length (log_of header image) header.epoch (beginning image header) (position_of end standing.saved)
  pub program : program_under header image ≡ standing.program
  pub long : standing.saved.length ≡ header.length
  pub program_limit : standing.saved.program_limit ≡ program_limit_of (is_large image)

-- The device has one image, and that image is so.
pub record IsAtEnd (trace : Trace) (header : Header) (standing : DurableState) (end : LogEnd) : Type 0 where
  pub synced : IsSynced trace
  pub image : EndsIn (reads trace) header standing end

-- An image of format 2 stands for one of the two and has no record of an epoch to come; nothing was handed out.
pub record IsEither (before after : Result DurableState Fault) (given : List Item) (image : Image) (handed : List Item) : Type 0 where
  pub state : (stands image ≡ before) ⊎ (stands image ≡ after)
  pub modern : IsModern image
  pub written : IsWritten image
  pub handed_is : handed ≡ given
