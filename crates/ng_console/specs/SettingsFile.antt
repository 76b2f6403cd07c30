-- The settings of a file (own).
use Rattle.std.specs.Prelude.{◌≡◌, ◌≢◌, ◌<◌, ◌≤◌, ◌+◌, ℕ, List, Option, Some, None, Result, Ok, Err, IfSome, length, ⊤}
use Rattle.std.specs.Io.KnownBytes.{Consumes}
use Rattle.std.specs.IoError.{error_kind}
use Rattle.std.specs.declared.io.ErrorKind.TheVariants.{Interrupted}
use Rattle.ng_settings.specs.Reading.{AreSettings, IsRefused}
use Rattle.ng_settings.specs.Standard.{AreStandard}
use Rattle.ng_settings.specs.declared.standard.Settings.{Settings}
use Rattle.ng_console.specs.declared.settings_file.NoBytes.{NoBytes}
use Rattle.ng_console.specs.declared.settings_file.NoBytes.TheVariants as no_bytes
use Rattle.ng_console.specs.declared.settings_file.NoFile.{NoFile}
use Rattle.ng_console.specs.declared.settings_file.NoFile.TheVariants as no_file
use Rattle.ng_console.specs.declared.settings_file.NoSettings.{NoSettings}
use Rattle.ng_console.specs.declared.settings_file.NoSettings.TheVariants.{Unread, Pipe, TooLong, Refused}

-- the most bytes that a file of settings or of a machine may have
abbrev pub most_bytes : ℕ
most_bytes = 1_048_576

-- so many bytes were read at most, and one more
abbrev pub ReadsFew : Option (List ℕ) → Option (List ℕ) → Type 0
ReadsFew old new = (read : List ℕ) × Consumes old new read × (length read ≤ most_bytes + 1)

-- a read that a signal interrupted is no cause: it is tried again
abbrev pub IsNoInterruption : NoBytes → Type 0
IsNoInterruption (no_bytes.Unread error) = error_kind error ≢ Interrupted
IsNoInterruption no_bytes.TooLong = ⊤

-- the settings in a text that can be read, or its first fault; or the text is too long
abbrev pub GivesSettings : List ℕ → Result Settings NoSettings → Type 0
GivesSettings text (Ok settings) = (length text ≤ most_bytes) × AreSettings text settings
GivesSettings text (Err (Refused fault)) = (length text ≤ most_bytes) × IsRefused text fault
GivesSettings text (Err TooLong) = most_bytes < length text
GivesSettings text (Err Unread) = ⊤
GivesSettings text (Err Pipe) = ⊥

module _ {F : Type 0} (bytes_of : F → Option (List ℕ)) where
  -- the settings in a file, as it was opened; the default settings if no file is named
  abbrev pub GivesChoice : Option (Result F NoFile) → Result Settings NoSettings → Type 0
  GivesChoice (Some (Ok file)) found = IfSome (bytes_of file) (λ text. GivesSettings text found)
  GivesChoice (Some (Err no_file.Unopened)) found = found ≡ Err Unread
  GivesChoice (Some (Err no_file.Pipe)) found = found ≡ Err Pipe
  GivesChoice None (Ok settings) = AreStandard settings
  GivesChoice None (Err why) = ⊥
