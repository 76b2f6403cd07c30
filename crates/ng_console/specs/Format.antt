-- What the job `format` does (own).
use Rattle.std.specs.Prelude.{ℕ, ◌≡◌, ◌⊎◌, ◌↔◌, ◌<◌, ◌≤◌, Bool, List, Option, Result, Ok, Err, IfErr, IsErrOf}
use Rattle.std.specs.declared.alloc.Global.{Global}
use Rattle.std.specs.declared.io.Error.{Error}
use Rattle.std.specs.declared.io.Sink.{Sink}
use Rattle.ng_num.specs.declared.fault.Fault.{Fault}
use Rattle.ng_num.specs.declared.fault.Fault.TheVariants.{DeviceFailed, NotFormatted}
use Rattle.ng_rig.specs.Rig.{Device}
use Rattle.ng_rig.specs.Calls.{IfHonest}
use Rattle.ng_file.specs.Rig.{device_of}
use Rattle.ng_file.specs.Promise.{Promise, no_promise}
use Rattle.ng_file.specs.declared.device.NoDevice.{NoDevice}
use Rattle.ng_file.specs.declared.rig.FileRig.{FileRig}
use Rattle.ng_layout.specs.Areas.{is_large_size}
use Rattle.ng_layout.specs.Header.{program_limit_of}
use Rattle.ng_journal.specs.Formatting.{FormatSpec}
use Rattle.ng_journal.specs.Journal.{CountsFailure}
use Rattle.ng_console.specs.Devices.{IsOver}
use Rattle.ng_console.specs.Refusals.{FaultStatus, RefusesDevice, RefusesStorage}
use Rattle.ng_console.specs.Size.{wanted_size}

-- The result is that of formatting the device, which the journal defines. A device is refused as too small exactly if
-- it has too few sectors, and then it stays as it was.
pub record FormatsRig {R : Type 0} (large : Bool) (seen : R → Device) (rig_old rig_new : R) (old new : Option (List ℕ)) (status : ℕ) : Type 0 where
  pub formatted : Result (Unit {0}) Fault
  pub answers : FaultStatus formatted old new status
  pub small : IsErrOf formatted NotFormatted ↔ ((seen rig_old).sectors < wanted_size large)
  pub unchanged : IsErrOf formatted NotFormatted → rig_new ≡ rig_old
  pub faults : IfErr formatted (λ fault. (fault ≡ NotFormatted) ⊎ (fault ≡ DeviceFailed))
  pub formats : wanted_size large ≤ (seen rig_old).sectors
      → IfHonest (seen rig_old) (seen rig_new)
      (FormatSpec formatted (program_limit_of (is_large_size (seen rig_old).sectors)) (seen rig_old).trace
      (seen rig_new).trace)
  pub tells : CountsFailure formatted (seen rig_old).failed (seen rig_new).failed

-- The same for the device in a file; or its bytes can't be made a device, since their number can't be read, or there is
-- no memory.
abbrev pub FormatsDevice : {S : Type 0} → (S → Option (List ℕ)) → (S → Promise) → Bool → S → Option (List ℕ) → Option (List ℕ) → ℕ → Type 0
FormatsDevice {S} content promise large file old new status =
    ((rig : FileRig S Sink Global) × (left : FileRig S Sink Global) × (out : Sink) × IsOver content promise file out rig
    × FormatsRig large (device_of content promise) rig left old new status)
    ⊎ ((error : Error) × RefusesStorage error old new status)

-- The same for a file as it was opened.
abbrev pub FormatsOpened : {S : Type 0} → (S → Option (List ℕ)) → (S → Promise) → Bool → Result S NoDevice → Option (List ℕ) → Option (List ℕ) → ℕ → Type 0
FormatsOpened content promise large (Ok file) old new status = FormatsDevice content promise large file old new status
FormatsOpened content promise large (Err why) old new status = RefusesDevice why old new status
