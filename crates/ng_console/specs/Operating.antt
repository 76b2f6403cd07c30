-- What the job `run` does (own): an operator commands a controller over a device in a file, and what it hands out is
-- appended to another file.
use Rattle.std.specs.Prelude.{ℕ, ◌≡◌, ◌⊎◌, List, Option, Some, None, Result, Ok, Err, IfSome}
use Rattle.std.specs.declared.io.Error.{Error}
use Rattle.std.specs.declared.alloc.Global.{Global}
use Rattle.ng_rig.specs.Trace.{items, reads}
use Rattle.ng_settings.specs.declared.standard.Settings.{Settings}
use Rattle.ng_file.specs.HandOuts.{AreGiven}
use Rattle.ng_file.specs.Rig.{device_of, is_cut, outlet, sector_count, storage}
use Rattle.ng_file.specs.Promise.{Promise, IsDurable, no_promise}
use Rattle.ng_file.specs.Sectors.{image_of}
use Rattle.ng_file.specs.WeakPromise.{IfWeaklyPromised, WeakPromise, no_weak_promise}
use Rattle.ng_file.specs.declared.device.NoDevice.{NoDevice}
use Rattle.ng_file.specs.declared.device.NoDevice.TheVariants.{Unusable}
use Rattle.ng_file.specs.declared.opened.OpenedFile.{OpenedFile}
use Rattle.ng_file.specs.declared.rig.FileRig.{FileRig}
use Rattle.ng_run.specs.Consoles.{ConsoleSpec}
use Rattle.ng_console.specs.SettingsFile.{GivesChoice}
use Rattle.ng_console.specs.Settling.{SettlesTheRest}
use Rattle.ng_console.specs.Devices.{IsOver}
use Rattle.ng_console.specs.Refusals.{IsSilent, RefusesDevice, RefusesSettings, RefusesStorage}
use Rattle.ng_console.specs.declared.settings_file.NoFile.{NoFile}
use Rattle.ng_console.specs.declared.settings_file.NoSettings.{NoSettings}

-- The device's file was settled. No byte has changed, and a loss of power leaves what a read returns. A file that does
-- what it promises still does, and all of it is durable; of one whose failed sync forgets, what power on goes by is.
pub record IsSettled {S : Type 0} (content lasting : S → Option (List ℕ)) (promise : S → Promise) (weak : S → WeakPromise) (device settled : S) : Type 0 where
  pub same : IfSome (content device) (λ held. content settled ≡ Some held)
  pub lasts : IfSome (lasting settled) (λ held. content settled ≡ Some held)
  pub honest : (promise device).honest → (promise settled).honest × IsDurable (content settled) (promise settled)
  pub weakly : IfWeaklyPromised (weak device) (weak settled) (IfSome (content device) (λ held. SettlesTheRest held (weak device) (weak settled)))

-- What is left of the device's file and of OUT, with the device that the console left. Where it was honest as it was made,
-- the file's sectors are those that its trace reads. After what OUT held at first come the lines of the trace's items, in
-- order, and nothing else; or after a hand-out that failed a beginning of one more.
pub record LeavesFiles {S O A : Type 0} (content : S → Option (List ℕ)) (contents : O → Option (List ℕ)) (promise : S → Promise)
    (first : Option (List ℕ)) (made left : FileRig S O A) (device : S) (out : O) : Type 0 where
  pub device_is : device ≡ storage left
  pub out_is : out ≡ outlet left
  pub sectors : (device_of content promise made).honest → image_of (sector_count left) (content device) ≡ reads (device_of content promise left).trace
  pub lines : AreGiven first (contents out) (items (device_of content promise left).trace) (is_cut left)

-- nothing was done with the files but to settle the first
pub record LeavesFilesAlone {S O : Type 0} (content : S → Option (List ℕ)) (device_old device : S) (out_old out : O) : Type 0 where
  pub same : IfSome (content device_old) (λ held. content device ≡ Some held)
  pub out_is : out ≡ out_old

module _ {S O : Type 0} (content : S → Option (List ℕ)) (contents : O → Option (List ℕ)) (promise : S → Promise) (settings : Settings)
    (text old new : Option (List ℕ)) where
  -- The console's conversation over that device, and what it leaves of both files; or these bytes can't be made a device,
  -- since their number can't be read, or there is no memory.
  abbrev pub OperatesSettled : S → O → ℕ → S → O → Type 0
  OperatesSettled settled out status device_left out_left =
      ((rig : FileRig S O Global) × (left : FileRig S O Global) × IsOver content promise settled out rig
      × ConsoleSpec Global (device_of content promise) settings rig text old new (status, left)
      × LeavesFiles content contents promise (contents out) rig left device_left out_left)
      ⊎ ((error : Error) × RefusesStorage error old new status × LeavesFilesAlone content settled device_left out out_left)

  -- The same once the device is settled, which is honest then where the file does what it promises; or the file fails at
  -- that.
  abbrev pub OperatesDevice : (S → Option (List ℕ)) → (S → WeakPromise) → S → O → ℕ → S → O → Type 0
  OperatesDevice lasting weak device out status device_left out_left =
      ((settled : S) × IsSettled content lasting promise weak device settled × OperatesSettled settled out status device_left out_left)
      ⊎ (RefusesDevice Unusable old new status × LeavesFilesAlone content device device_left out out_left)

-- the same for a file as it was opened
abbrev pub OperatesInto : {S O : Type 0} → (S → Option (List ℕ)) → (O → Option (List ℕ)) → (S → Option (List ℕ)) → (S → Promise) → (S → WeakPromise)
    → Settings → S → Result O Error → Option (List ℕ) → Option (List ℕ) → Option (List ℕ) → ℕ → Type 0
OperatesInto content contents lasting promise weak settings device (Err error) text old new status = IsSilent old new status
OperatesInto {S} {O} content contents lasting promise weak settings device (Ok out) text old new status =
    (device_left : S) × (out_left : O)
    × OperatesDevice content contents promise settings text old new lasting weak device out status device_left out_left

module _ {F : Type 0} (contents : F → Option (List ℕ)) where
  -- the same for a device as it was opened; if there is no device, no other file is opened
  abbrev pub OperatesOpened : Settings → Result (OpenedFile F) NoDevice → Option (List ℕ) → Option (List ℕ) → Option (List ℕ) → ℕ → Type 0
  OperatesOpened settings (Err why) text old new status = RefusesDevice why old new status
  OperatesOpened settings (Ok device) text old new status =
      (out : Result F Error) × OperatesInto (λ (file : OpenedFile F). None) contents (λ (file : OpenedFile F). None)
      (λ (file : OpenedFile F). no_promise) (λ (file : OpenedFile F). no_weak_promise) settings device out text old new status

  -- the same for some device, with the settings that were found; if there are none, no device is opened
  abbrev pub OperatesChosen : Result Settings NoSettings → Option (List ℕ) → Option (List ℕ) → Option (List ℕ) → ℕ → Type 0
  OperatesChosen (Err why) text old new status = RefusesSettings why old new status
  OperatesChosen (Ok settings) text old new status = (device : Result (OpenedFile F) NoDevice) × OperatesOpened settings device text old new status

-- the same with the settings of some file
abbrev pub Operates : {F : Type 0} → (F → Option (List ℕ)) → (F → Option (List ℕ)) → Option (List ℕ) → Option (List ℕ) → Option (List ℕ) → ℕ → Type 0
Operates {F} bytes_of contents text old new status =
    (settings_file : Result F NoFile) × (chosen : Result Settings NoSettings) × GivesChoice bytes_of (Some settings_file) chosen
    × OperatesChosen contents chosen text old new status
