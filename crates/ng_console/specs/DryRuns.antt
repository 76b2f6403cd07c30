-- What the job `dry` does (own): a dry run of a program, from the fresh state or from a device.
use Rattle.std.specs.Prelude.{ℕ, ℤ, ◌≡◌, ◌⊎◌, ◌<◌, ◌≤◌, Bool, List, Option, Result, Ok, Err, IfSome}
use Rattle.std.specs.declared.io.Error.{Error}
use Rattle.ng_num.specs.declared.fault.Fault.{Fault}
use Rattle.ng_num.specs.declared.fault.Fault.TheVariants.{DeviceFailed, NotFormatted, OutOfMemory}
use Rattle.ng_settings.specs.declared.standard.Settings.{Settings}
use Rattle.ng_state.specs.State.{StateModel}
use Rattle.ng_block.specs.Program.{TermsModel}
use Rattle.ng_dry.specs.Dry.{Output, DryRunSpec, output_from, output_of}
use Rattle.ng_dry.specs.declared.ending.Ended.{Ended}
use Rattle.ng_dry.specs.declared.ending.Ended.TheVariants as ended
use Rattle.ng_dry.specs.declared.ending.DryFault.{DryFault}
use Rattle.ng_rig.specs.Trace.{Image}
use Rattle.ng_layout.specs.Areas.{large_size, least_size}
use Rattle.ng_layout.specs.Stored.{StoredModel}
use Rattle.ng_journal.specs.Recovery.{HasCause, IsFound}
use Rattle.ng_session.specs.Entries.{after_load}
use Rattle.ng_file.specs.Copying.{IsImageOf, sectors_in}
use Rattle.ng_file.specs.declared.device.NoDevice.{NoDevice}
use Rattle.ng_console.specs.Refusals.{IsRefusedWith, IsSilent, RefusesDevice}

abbrev pub status_of : Result Ended DryFault → ℕ
status_of (Ok ended.Done) = 0
status_of (Ok (ended.Refused number fault)) = 1
status_of (Err fault) = 2

-- a run with the machine and the tools of settings; lines that begin with a slash are deleted if that is asked
abbrev pub terms_of : Bool → Settings → TermsModel
terms_of block_delete settings = record { block_delete = block_delete; tools = settings.tools; geometry = settings.geometry }

-- the status is that of a run that wrote what it had to
abbrev pub Reports : Option (List ℕ) → Option (List ℕ) → Output → ℕ → Type 0
Reports old new output status =
    (ended : Result Ended DryFault) × (status ≡ status_of ended) × DryRunSpec old new output ended

-- a dry run with settings, of the bytes that a reader gives, if they are known
abbrev pub IsDryRun : Settings → Bool → Option (List ℕ) → Option (List ℕ) → Option (List ℕ) → ℕ → Type 0
IsDryRun settings block_delete given old new status =
    IfSome given (λ program. Reports old new (output_of (terms_of block_delete settings) program) status)

-- ---- from a device

-- the sectors of the device in these bytes: all that are whole, but no more than those of a large device
abbrev pub sector_count : List ℕ → ℕ
sector_count held = sectors_in large_size held

-- A power on over the device in these bytes finds this, with these tools if the device is of format 1.
pub record FindsStored (tools : List ℤ) (held : List ℕ) (saved : StoredModel) : Type 0 where
  pub enough : least_size ≤ sector_count held
  pub image : Image
  pub sectors : IsImageOf large_size held image
  pub found : IsFound tools saved image

-- The device is damaged, isn't formatted, or has used up its epochs.
pub record IsRefusedFor (held : List ℕ) (fault : Fault) : Type 0 where
  pub image : Image
  pub sectors : IsImageOf large_size held image
  pub cause : HasCause fault image

-- what a power on over it finds, or why it finds nothing: too few sectors, what they hold, a file that fails, or no
-- memory
abbrev pub Finds : List ℤ → List ℕ → Result StoredModel Fault → Type 0
Finds tools held (Ok saved) = FindsStored tools held saved
Finds tools held (Err fault) =
    ((fault ≡ NotFormatted) × (sector_count held < least_size))
    ⊎ (IsRefusedFor held fault ⊎ ((fault ≡ DeviceFailed) ⊎ (fault ≡ OutOfMemory)))

-- what a program begins with that is loaded there
abbrev pub setup_once_loaded : StoredModel → StateModel
setup_once_loaded saved = (after_load saved 0).setup

-- a run with the machine of settings and the tools of a device
abbrev pub terms_over : Bool → Settings → StoredModel → TermsModel
terms_over block_delete settings saved = record { block_delete = block_delete; tools = saved.tools; geometry = settings.geometry }

-- the dry run from what was found; or the line of the fault is written
abbrev pub RunsFromFound : Settings → Bool → Result StoredModel Fault → Option (List ℕ) → Option (List ℕ) → Option (List ℕ) → ℕ → Type 0
RunsFromFound settings block_delete (Ok saved) given old new status =
    IfSome given (λ program. Reports old new (output_from (terms_over block_delete settings saved) (setup_once_loaded saved) program) status)
RunsFromFound settings block_delete (Err fault) given old new status = IsRefusedWith fault old new status

-- the same from the device in a file
abbrev pub RunsFrom : {S : Type 0} → (S → Option (List ℕ)) → Settings → Bool → S → Option (List ℕ) → Option (List ℕ) → Option (List ℕ) → ℕ → Type 0
RunsFrom content settings block_delete device given old new status =
    (found : Result StoredModel Fault) × IfSome (content device) (λ held. Finds settings.tools held found)
    × RunsFromFound settings block_delete found given old new status

module _ {F S : Type 0} (bytes_of : F → Option (List ℕ)) (content : S → Option (List ℕ)) where
  -- the same for a program's file, as it was opened
  abbrev pub RunsFileFrom : Settings → Bool → S → Result F Error → Option (List ℕ) → Option (List ℕ) → ℕ → Type 0
  RunsFileFrom settings block_delete device (Ok file) old new status = RunsFrom content settings block_delete device (bytes_of file) old new status
  RunsFileFrom settings block_delete device (Err error) old new status = IsSilent old new status

  -- the same for a device as it was opened; if there is no device, the program's file isn't used
  abbrev pub RunsFileFromOpened : Settings → Bool → Result S NoDevice → Result F Error → Option (List ℕ) → Option (List ℕ) → ℕ → Type 0
  RunsFileFromOpened settings block_delete (Ok device) program old new status = RunsFileFrom settings block_delete device program old new status
  RunsFileFromOpened settings block_delete (Err why) program old new status = RefusesDevice why old new status
