-- What the job `pace` does (own): the lines of OUT that an operator's input holds get the times at which they are due,
-- on a machine with these settings and this motion.
use Rattle.std.specs.Prelude.{ℕ, ◌≡◌, ◌≢◌, ◌<◌, ◌≤◌, Bool, true, false, List, ◌++◌, Option, Some, Result, Ok, Err, IfErr, IfSome}
use Rattle.std.specs.Prelude.{⊤, codes, length}
use Rattle.std.specs.Io.KnownBytes.{Appends}
use Rattle.ng_canon.specs.declared.geometry.Geometry.{Geometry}
use Rattle.ng_pace.specs.declared.limits.Limits.{Limits}
use Rattle.ng_motion.specs.declared.fault.MotionFault.{MotionFault}
use Rattle.ng_motion.specs.Reading.{AreLimitsOf, IsRefused}
use Rattle.ng_motion.specs.Fault.{fault_text}
use Rattle.ng_schedule.specs.Schedule.{ScheduleSpec}
use Rattle.ng_schedule.specs.declared.ending.Shown.{Shown}
use Rattle.ng_schedule.specs.declared.ending.Shown.TheVariants.{Lines, Total}
use Rattle.ng_schedule.specs.declared.ending.Ended.{Ended}
use Rattle.ng_schedule.specs.declared.ending.Ended.TheVariants.{Done, NotALine, TooLate}
use Rattle.ng_schedule.specs.declared.ending.ScheduleFault.{ScheduleFault}
use Rattle.ng_schedule.specs.declared.ending.ScheduleFault.TheVariants as schedule_fault
use Rattle.ng_settings.specs.declared.standard.Settings.{Settings}
use Rattle.ng_console.specs.SettingsFile.{GivesChoice, most_bytes}
use Rattle.ng_console.specs.Refusals.{IsSilent, RefusesSettings}
use Rattle.ng_console.specs.declared.pacing.NoLimits.{NoLimits}
use Rattle.ng_console.specs.declared.pacing.NoLimits.TheVariants.{Unread, Pipe, TooLong, Refused}
use Rattle.ng_console.specs.declared.settings_file.NoFile.{NoFile}
use Rattle.ng_console.specs.declared.settings_file.NoFile.TheVariants as no_file
use Rattle.ng_console.specs.declared.settings_file.NoSettings.{NoSettings}

-- what is shown of the lines
abbrev pub shown_of : Bool → Shown
shown_of false = Lines
shown_of true = Total

-- 0 if all lines have their times, 1 if one was refused, 2 if the run was aborted
abbrev pub pace_status : Result Ended ScheduleFault → ℕ
pace_status (Ok Done) = 0
pace_status (Ok (NotALine number)) = 1
pace_status (Ok (TooLate number)) = 1
pace_status (Err fault) = 2

-- the times of the lines that a reader gives, if they are known, on motors with these limits; a run is aborted for want
-- of memory, or since the reader or the writer failed, and for nothing else
abbrev pub IsPaced : Limits → Bool → Option (List ℕ) → Option (List ℕ) → Option (List ℕ) → ℕ → Type 0
IsPaced limits total given old new status =
    IfSome given (λ text. (ended : Result Ended ScheduleFault) × (status ≡ pace_status ended)
    × IfErr ended (λ fault. fault ≢ schedule_fault.Limits) × ScheduleSpec limits (shown_of total) text old new ended)

-- what is written of a machine that is refused
abbrev pub refused_machine_text : MotionFault → List ℕ
refused_machine_text fault = codes "refused MACHINE" ++ (fault_text fault ++ codes "\n")

-- the limits in a text that can be read, or a fault of it; or the text is too long
abbrev pub FindsLimits : List ℕ → Geometry → Result Limits NoLimits → Type 0
FindsLimits text machine (Ok limits) = (length text ≤ most_bytes) × AreLimitsOf text machine limits
FindsLimits text machine (Err (Refused fault)) = (length text ≤ most_bytes) × IsRefused text machine fault
FindsLimits text machine (Err TooLong) = most_bytes < length text
FindsLimits text machine (Err Unread) = ⊤
FindsLimits text machine (Err Pipe) = ⊥

-- the times, with the limits that were found; if there are none, no line is read
abbrev pub PacesFound : Result Limits NoLimits → Bool → Option (List ℕ) → Option (List ℕ) → Option (List ℕ) → ℕ → Type 0
PacesFound (Ok limits) total text old new status = IsPaced limits total text old new status
PacesFound (Err Unread) total text old new status = IsSilent old new status
PacesFound (Err Pipe) total text old new status = (status ≡ 2) × Appends old new (codes "refused MACHINE: no file, but a pipe\n")
PacesFound (Err TooLong) total text old new status =
    (status ≡ 2) × Appends old new (codes "refused MACHINE: it is longer than 1,048,576 bytes\n")
PacesFound (Err (Refused fault)) total text old new status = (status ≡ 2) × Appends old new (refused_machine_text fault)

module _ {F : Type 0} (bytes_of : F → Option (List ℕ)) where
  -- the limits in a file, as it was opened
  abbrev pub FindsIn : Result F NoFile → Geometry → Result Limits NoLimits → Type 0
  FindsIn (Ok file) machine found = IfSome (bytes_of file) (λ text. FindsLimits text machine found)
  FindsIn (Err no_file.Unopened) machine found = found ≡ Err Unread
  FindsIn (Err no_file.Pipe) machine found = found ≡ Err Pipe

  -- the times, with the settings that were found; if there are none, the file of the machine isn't used
  abbrev pub PacesChosen : Result Settings NoSettings → Result F NoFile → Bool → Option (List ℕ) → Option (List ℕ)
      → Option (List ℕ) → ℕ → Type 0
  PacesChosen (Err why) machine_file total text old new status = RefusesSettings why old new status
  PacesChosen (Ok settings) machine_file total text old new status =
      (found : Result Limits NoLimits) × FindsIn machine_file settings.geometry found
      × PacesFound found total text old new status

  -- the same with the settings of some file, and some file of the machine
  abbrev pub Paces : Bool → Option (List ℕ) → Option (List ℕ) → Option (List ℕ) → ℕ → Type 0
  Paces total text old new status =
      (settings_file : Result F NoFile) × (machine_file : Result F NoFile) × (chosen : Result Settings NoSettings)
      × GivesChoice bytes_of (Some settings_file) chosen × PacesChosen chosen machine_file total text old new status
