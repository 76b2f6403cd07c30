-- How a console ends (own).
use Rattle.std.specs.Prelude.{ℕ, Bool, true, false, Result, Ok, Err}
use Rattle.ng_run.specs.declared.ending.ConsoleEnd.{ConsoleEnd}
use Rattle.ng_run.specs.declared.ending.ConsoleEnd.TheVariants.{Answered, DeviceFailed, NotPowered}
use Rattle.ng_run.specs.declared.ending.ConsoleAbort.{ConsoleAbort}

-- the whole text is answered, by a controller that works or by a broken one
abbrev pub ended_by : Bool → ConsoleEnd
ended_by false = Answered
ended_by true = DeviceFailed

-- the exit status: 0 if the whole text is answered and the device never failed
abbrev pub status_of : Result ConsoleEnd ConsoleAbort → ℕ
status_of (Ok Answered) = 0
status_of (Ok DeviceFailed) = 2
status_of (Ok NotPowered) = 2
status_of (Err stop) = 2
