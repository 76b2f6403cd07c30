-- How `ngc` ends (own): 0 done, 1 a line of a dry run or of OUT was refused, 2 anything else that kept it from its work.
-- The causes of status 2 are checked in this order: the words, one file given twice, the settings file, other files, the
-- run.
use Rattle.std.specs.Prelude.{ℕ, ◌≡◌, Bool, List, Option, None, Some, Result, Ok, Err, is_some}
use Rattle.std.specs.declared.io.Error.{Error}
use Rattle.ng_settings.specs.declared.standard.Settings.{Settings}
use Rattle.ng_file.specs.declared.device.NoDevice.{NoDevice}
use Rattle.ng_file.specs.declared.opened.OpenedFile.{OpenedFile}
use Rattle.ng_console.specs.SettingsFile.{GivesChoice}
use Rattle.ng_file.specs.Promise.{no_promise}
use Rattle.ng_console.specs.DryRuns.{IsDryRun, RunsFileFromOpened}
use Rattle.ng_console.specs.Format.{FormatsOpened}
use Rattle.ng_console.specs.Grow.{GrowsOpened}
use Rattle.ng_console.specs.Operating.{Operates}
use Rattle.ng_console.specs.Pacing.{Paces}
use Rattle.ng_console.specs.Refusals.{IsSilent, RefusesSettings}
use Rattle.ng_console.specs.declared.command_line.Job.{Job}
use Rattle.ng_console.specs.declared.command_line.Job.TheVariants.{Dry, Format, Grow, Run, Pace}
use Rattle.ng_console.specs.declared.settings_file.NoFile.{NoFile}
use Rattle.ng_console.specs.declared.settings_file.NoSettings.{NoSettings}

module _ {F : Type 0} (bytes_of : F → Option (List ℕ)) where
  -- a dry run of a program's file, as it was opened
  abbrev pub RunsFile : Settings → Bool → Result F Error → Option (List ℕ) → Option (List ℕ) → ℕ → Type 0
  RunsFile settings block_delete (Ok file) old new status = IsDryRun settings block_delete (bytes_of file) old new status
  RunsFile settings block_delete (Err error) old new status = IsSilent old new status

  -- the same with the settings that were found, from a device if one is named; if there are no settings, no other file
  -- is used
  abbrev pub RunsChosen : {S : Type 0} → (S → Option (List ℕ)) → Result Settings NoSettings → Bool → Option (Result S NoDevice) → Result F Error
      → Option (List ℕ) → Option (List ℕ) → ℕ → Type 0
  RunsChosen content (Ok settings) block_delete (Some device) program old new status =
      RunsFileFromOpened bytes_of content settings block_delete device program old new status
  RunsChosen content (Ok settings) block_delete None program old new status = RunsFile settings block_delete program old new status
  RunsChosen content (Err why) block_delete from program old new status = RefusesSettings why old new status

module _ {F : Type 0} (bytes_of contents : F → Option (List ℕ)) where
  -- what the job asks for, of files that were opened or not, and of the text of an operator
  abbrev pub JobSpec : Job → Option (List ℕ) → Option (List ℕ) → Option (List ℕ) → ℕ → Type 0
  JobSpec (Dry program from settings block_delete) text old new status =
      (settings_file : Option (Result F NoFile)) × (device : Option (Result (OpenedFile F) NoDevice)) × (program_file : Result F Error)
      × (is_some settings_file ≡ is_some settings) × (is_some device ≡ is_some from)
      × ((chosen : Result Settings NoSettings) × GivesChoice bytes_of settings_file chosen
      × RunsChosen bytes_of (λ (file : OpenedFile F). None) chosen block_delete device program_file old new status)
  JobSpec (Format device large) text old new status = (opened : Result (OpenedFile F) NoDevice)
      × FormatsOpened (λ (file : OpenedFile F). None) (λ (file : OpenedFile F). no_promise) large opened old new
      status
  JobSpec (Grow device) text old new status =
      (opened : Result (OpenedFile F) NoDevice) × GrowsOpened (λ (file : OpenedFile F). None) (λ (file : OpenedFile F). None) opened old new status
  JobSpec (Run device settings out) text old new status = Operates bytes_of contents text old new status
  JobSpec (Pace settings machine total) text old new status = Paces bytes_of total text old new status
