-- How a job that can't be done ends (own).
use Rattle.std.specs.Prelude.{ℕ, ◌≡◌, ◌≢◌, ◌⊎◌, List, ◌++◌, Option, Result, Ok, Err, codes}
use Rattle.std.specs.Io.KnownBytes.{Appends}
use Rattle.std.specs.IoError.{error_kind}
use Rattle.std.specs.declared.io.Error.{Error}
use Rattle.std.specs.declared.io.ErrorKind.TheVariants as kind
use Rattle.ng_num.specs.declared.fault.Fault.{Fault}
use Rattle.ng_num.specs.declared.fault.Fault.TheVariants.{DeviceFailed, OutOfMemory}
use Rattle.ng_num.specs.Fault.{text as fault_text}
use Rattle.ng_file.specs.declared.device.NoDevice.{NoDevice}
use Rattle.ng_file.specs.declared.device.NoDevice.TheVariants.{Unopened, Unusable}
use Rattle.ng_console.specs.declared.settings_file.NoSettings.{NoSettings}
use Rattle.ng_console.specs.declared.settings_file.NoSettings.TheVariants.{Unread, Pipe, TooLong, Refused}

-- a file that can't be opened or read: nothing is written
abbrev pub IsSilent : Option (List ℕ) → Option (List ℕ) → ℕ → Type 0
IsSilent old new status = (status ≡ 2) × (new ≡ old)

-- what is written of a fault
abbrev pub refused_text : Fault → List ℕ
refused_text fault = codes "refused " ++ (fault_text fault ++ codes "\n")

abbrev pub IsRefusedWith : Fault → Option (List ℕ) → Option (List ℕ) → ℕ → Type 0
IsRefusedWith fault old new status = (status ≡ 2) × Appends old new (refused_text fault)

-- what was asked of a device is done, and nothing is written; or the line of the fault is written
abbrev pub FaultStatus : {T : Type 0} → Result T Fault → Option (List ℕ) → Option (List ℕ) → ℕ → Type 0
FaultStatus (Ok _) old new status = (status ≡ 0) × (new ≡ old)
FaultStatus (Err fault) old new status = IsRefusedWith fault old new status

-- settings that can't be read, that are no file or too long, or that are refused
abbrev pub RefusesSettings : NoSettings → Option (List ℕ) → Option (List ℕ) → ℕ → Type 0
RefusesSettings Unread old new status = IsSilent old new status
RefusesSettings Pipe old new status = (status ≡ 2) × Appends old new (codes "refused SETTINGS: no file, but a pipe\n")
RefusesSettings TooLong old new status =
    (status ≡ 2) × Appends old new (codes "refused SETTINGS: it is longer than 1,048,576 bytes\n")
RefusesSettings (Refused fault) old new status = IsRefusedWith fault old new status

-- a device that can't be opened, or that can't be used
abbrev pub RefusesDevice : NoDevice → Option (List ℕ) → Option (List ℕ) → ℕ → Type 0
RefusesDevice Unopened old new status = IsSilent old new status
RefusesDevice Unusable old new status = IsRefusedWith DeviceFailed old new status

-- the fault for an error of an opened file: there was no memory, or else the file failed
abbrev pub IsFaultOf : Error → Fault → Type 0
IsFaultOf error fault =
    ((error_kind error ≡ kind.OutOfMemory) × (fault ≡ OutOfMemory))
    ⊎ ((error_kind error ≢ kind.OutOfMemory) × (fault ≡ DeviceFailed))

-- an opened file that can't be made a device because of this error
abbrev pub RefusesStorage : Error → Option (List ℕ) → Option (List ℕ) → ℕ → Type 0
RefusesStorage error old new status = (fault : Fault) × IsFaultOf error fault × IsRefusedWith fault old new status
