-- What a stop prints and switches, and how the program goes on after a line (NISTIR 6556, 3.6.1).
use Rattle.std.specs.Prelude.{Bool, true, false, List, [], ◌∷◌, Option, Some, None, if◌then◌else◌}
use Rattle.ng_num.specs.declared.point.Point.{Point}
use Rattle.ng_canon.specs.declared.command.CanonicalCommand.{CanonicalCommand}
use Rattle.ng_canon.specs.declared.command.CanonicalCommand.TheVariants as command
use Rattle.ng_canon.specs.declared.outputs.Outputs.{Outputs}
use Rattle.ng_canon.specs.declared.outputs.Spindle.TheVariants.{Stopped}
use Rattle.ng_canon.specs.declared.plane.Plane.TheVariants.{Xy}
use Rattle.ng_canon.specs.declared.segment.Segment.{Segment}
use Rattle.ng_canon.specs.declared.segment.Segment.TheVariants.{Switch}
use Rattle.ng_modal.specs.declared.requests.StopWord.{StopWord}
use Rattle.ng_modal.specs.declared.requests.StopWord.TheVariants as word
use Rattle.ng_block.specs.declared.effect.ProgramFlow.{ProgramFlow}
use Rattle.ng_block.specs.declared.effect.ProgramFlow.TheVariants.{GoesOn, Stops, StopsIfWanted, Ends}

-- M2 and M30 end the program
abbrev pub ends : Option StopWord → Bool
ends (Some word.End) = true
ends (Some word.EndWithShuttle) = true
ends _ = false

abbrev pub stop_of : Option StopWord → ProgramFlow
stop_of None = GoesOn
stop_of (Some word.Program) = Stops
stop_of (Some word.Shuttle) = Stops
stop_of (Some word.Optional) = StopsIfWanted
stop_of (Some word.End) = Ends
stop_of (Some word.EndWithShuttle) = Ends

-- what it prints, given the origin after the line
abbrev pub stop_commands : Option StopWord → Point → List CanonicalCommand
stop_commands None origin = []
stop_commands (Some word.Program) origin = command.ProgramStop ∷ []
stop_commands (Some word.Optional) origin = command.OptionalStop ∷ []
stop_commands (Some word.Shuttle) origin = command.PalletShuttle ∷ command.ProgramStop ∷ []
stop_commands (Some word.End) origin =
    command.OriginOffsets origin ∷ command.SelectPlane Xy ∷ command.StopSpindle ∷ command.MistOff ∷ command.FloodOff
    ∷ command.ProgramEnd ∷ []
stop_commands (Some word.EndWithShuttle) origin =
    command.OriginOffsets origin ∷ command.SelectPlane Xy ∷ command.StopSpindle ∷ command.MistOff ∷ command.FloodOff
    ∷ command.PalletShuttle ∷ command.ProgramEnd ∷ []

-- spindle stopped, coolant off; speed and slots stay
abbrev pub switched_off : Outputs → Outputs
switched_off o = record o { spindle = Stopped; mist = false; flood = false }

-- the outputs after it: the program's end switches them off
abbrev pub stop_outputs : Option StopWord → Outputs → Outputs
stop_outputs word o = if ends word then switched_off o else o

-- what it switches, given the outputs before it
abbrev pub stop_segments : Option StopWord → Outputs → List Segment
stop_segments word o = if ends word then Switch (switched_off o) ∷ [] else []
