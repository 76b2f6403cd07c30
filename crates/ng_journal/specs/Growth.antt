-- A small device that was lengthened, and what it stands for then (own).
use Rattle.std.specs.Prelude.{◌≡◌, ◌<◌, ℕ, ℤ, false, List, Result, Ok, Err}
use Rattle.ng_num.specs.declared.fault.Fault.{Fault}
use Rattle.ng_rig.specs.Trace.{Image}
use Rattle.ng_layout.specs.Areas.{header_count, least_size}
use Rattle.ng_layout.specs.Header.{header_in, program_limit_of}
use Rattle.ng_layout.specs.Stands.{is_large, in_force, stands_beside, IsWritten}
use Rattle.ng_layout.specs.Stored.{DurableState}

-- A small device was lengthened, to a large one or in part: its sectors stay, and its headers are read as before. Zeros
-- after them do that.
pub record IsGrown (old new : Image) : Type 0 where
  pub small : is_large old ≡ false
  pub same : (n : ℕ) → n < least_size → new n ≡ old n
  pub headers : (k : ℕ) → k < header_count → header_in (is_large new) k (old k) ≡ header_in false k (old k)

-- with the program limit of the device with this image
abbrev pub with_limit_of : Image → DurableState → DurableState
with_limit_of image x = record x { saved = record x.saved { program_limit = program_limit_of (is_large image) } }

abbrev pub grown_of : Image → Result DurableState Fault → Result DurableState Fault
grown_of image (Ok x) = Ok (with_limit_of image x)
grown_of image (Err e) = Err e

-- The grown device stands for the same, with any table of the settings, but for the program limit.
pub record StandsGrown (old new : Image) : Type 0 where
  pub force : in_force new ≡ in_force old
  pub state : (tools : List ℤ) → stands_beside tools new ≡ grown_of new (stands_beside tools old)
  pub written : IsWritten old → IsWritten new
