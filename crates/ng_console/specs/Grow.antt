-- What the job `grow` does (own).
use Rattle.std.specs.Prelude.{ℕ, ◌≡◌, ◌⊎◌, ◌*◌, ◌&&◌, Bool, true, false, nat_le, List, Option, Some, Result, Ok}
use Rattle.std.specs.Prelude.{Err, IfErr, IfSome, IsErrOf, OnOk, is_some, length}
use Rattle.ng_num.specs.declared.fault.Fault.{Fault}
use Rattle.ng_num.specs.declared.fault.Fault.TheVariants.{DeviceFailed, NotFormatted}
use Rattle.ng_file.specs.Bytes.{Lengthened, LengthenedInPart, sector_of}
use Rattle.ng_file.specs.declared.device.NoDevice.{NoDevice}
use Rattle.ng_layout.specs.Areas.{large_size, least_size}
use Rattle.ng_layout.specs.Header.{header_in}
use Rattle.ng_layout.specs.Stands.{newer}
use Rattle.ng_console.specs.Refusals.{FaultStatus, RefusesDevice}

-- how many bytes a large device has
abbrev pub large_bytes : ℕ
large_bytes = 512 * large_size

-- these bytes are at least as many as those of a large device
abbrev pub is_large : List ℕ → Bool
is_large held = nat_le large_bytes (length held)

-- one of the two headers is valid on a device with this many bytes
abbrev pub has_header : List ℕ → Bool
has_header held = is_some (newer (header_in (is_large held) 0 (sector_of 0 held)) (header_in (is_large held) 1 (sector_of 1 held)))

-- these bytes are a device's: there are enough sectors, and a valid header
abbrev pub is_device : List ℕ → Bool
is_device held = nat_le (512 * least_size) (length held) && has_header held

-- nothing is changed, or the bytes are a device's and some of the zeros come after them
abbrev pub GrowsInPart : {S : Type 0} → (S → Option (List ℕ)) → S → S → Type 0
GrowsInPart content old new =
    (content new ≡ content old)
    ⊎ (IfSome (content old) (λ held. is_device held ≡ true) × LengthenedInPart large_bytes (content old) (content new))

-- A file that is a device gets the length of a large device, by zeros after what it held, and is durable. Any other
-- file is refused as not being a device, and stays as it was. If the file fails, nothing is changed, or it is a device
-- and has some of the zeros.
pub record GrowsFile {S : Type 0} (content lasting : S → Option (List ℕ)) (file_old file_new : S) (old new : Option (List ℕ)) (status : ℕ) : Type 0 where
  pub grown : Result (Unit {0}) Fault
  pub answers : FaultStatus grown old new status
  pub faults : IfErr grown (λ fault. (fault ≡ NotFormatted) ⊎ (fault ≡ DeviceFailed))
  pub device : OnOk grown (IfSome (content file_old) (λ held. is_device held ≡ true))
  pub lengthened : OnOk grown (Lengthened large_bytes (content file_old) (content file_new))
  pub lasts : OnOk grown (IfSome (lasting file_new) (λ held. content file_new ≡ Some held))
  pub refused : IsErrOf grown NotFormatted → IfSome (content file_old) (λ held. is_device held ≡ false)
  pub unchanged : IsErrOf grown NotFormatted → content file_new ≡ content file_old
  pub failed : IsErrOf grown DeviceFailed → GrowsInPart content file_old file_new

-- The same for a file as it was opened.
abbrev pub GrowsOpened : {S : Type 0} → (S → Option (List ℕ)) → (S → Option (List ℕ)) → Result S NoDevice → Option (List ℕ) → Option (List ℕ) → ℕ → Type 0
GrowsOpened {S} content lasting (Ok file) old new status = (left : S) × GrowsFile content lasting file left old new status
GrowsOpened content lasting (Err why) old new status = RefusesDevice why old new status
