-- What is read from a device and from its log (own).
use Rattle.std.specs.Prelude.{◌≡◌, Option, Some, None, Result, IfOk}
use Rattle.ng_rig.specs.Trace.{Trace, Image, reads}
use Rattle.ng_layout.specs.declared.header.Header.{Header}
use Rattle.ng_layout.specs.Areas.{log_size_of}
use Rattle.ng_layout.specs.Log.{run}
use Rattle.ng_layout.specs.Stored.{StoredModel}
use Rattle.ng_log.specs.declared.log_end.LogEnd.{LogEnd}
use Rattle.ng_log.specs.AtEnd.{no_records, position_of}
use Rattle.ng_log.specs.Runs.{log_of, IsLongest}

-- a read changes nothing, and if it succeeds, its result is right for the image
pub record ReadSpec {T E : Type 0} (result : Result T E) (IsRight : Image → T → Type 0) (old new : Trace) : Type 0 where
  pub same : new ≡ old
  pub right : IfOk result (IsRight (reads old))

-- The longest run of complete records leads from the old stored state to this end and to the new one; or what is found
-- with it is damaged.
abbrev pub IsRunOf : Header → StoredModel → StoredModel → Image → Option LogEnd → Type 0
IsRunOf header old new image (Some end) = IsLongest header.format header.length (log_of header image) header.epoch
    (position_of no_records old) (position_of end new) × (new.length ≡ header.length)
IsRunOf header old new image None =
    (run (log_size_of header) header.format header.length (log_of header image) header.epoch
    (position_of no_records old)).found ≡ None
