-- What an action of a block prints and switches (NISTIR 6556, 3.5 to 3.7).
use Rattle.std.specs.Prelude.{true, false, List, [], ◌∷◌, ◌++◌, fold}
use Rattle.ng_canon.specs.declared.command.CanonicalCommand.{CanonicalCommand}
use Rattle.ng_canon.specs.declared.command.CanonicalCommand.TheVariants as command
use Rattle.ng_canon.specs.declared.outputs.Outputs.{Outputs}
use Rattle.ng_canon.specs.declared.outputs.Spindle.TheVariants.{Stopped}
use Rattle.ng_canon.specs.declared.segment.Segment.{Segment}
use Rattle.ng_canon.specs.declared.segment.Segment.TheVariants as segment
use Rattle.ng_modal.specs.declared.requests.Coolant.{Coolant}
use Rattle.ng_modal.specs.declared.requests.Coolant.TheVariants.{Mist, Flood, Off}
use Rattle.ng_block.specs.declared.action.Action.{Action}
use Rattle.ng_block.specs.declared.action.Action.TheVariants as action
use Rattle.ng_block.specs.Path.{spindle_command}

abbrev pub coolant_commands : Coolant → List CanonicalCommand
coolant_commands Mist = command.MistOn ∷ []
coolant_commands Flood = command.FloodOn ∷ []
coolant_commands Off = command.MistOff ∷ command.FloodOff ∷ []

-- what an action prints
abbrev pub action_commands : Action → List CanonicalCommand
action_commands (action.SpindleSpeed speed) = command.SpindleSpeed speed ∷ []
action_commands (action.SelectTool slot) = command.SelectTool slot ∷ []
action_commands (action.ChangeTool slot) = command.ChangeTool slot ∷ []
action_commands (action.Spindle spindle) = spindle_command spindle ∷ []
action_commands (action.Coolant coolant) = coolant_commands coolant
action_commands (action.Dwell seconds) = command.Dwell seconds ∷ []
action_commands (action.SelectPlane plane) = command.SelectPlane plane ∷ []
action_commands (action.LengthUnits unit) = command.LengthUnits unit ∷ []
action_commands (action.ToolLength length) = command.ToolLength length ∷ []
action_commands (action.OriginOffsets offsets) = command.OriginOffsets offsets ∷ []
action_commands (action.InverseTime time) = command.InverseTime time ∷ []

-- mist and flood may both be on
abbrev pub coolant_outputs : Coolant → Outputs → Outputs
coolant_outputs Mist o = record o { mist = true }
coolant_outputs Flood o = record o { flood = true }
coolant_outputs Off o = record o { mist = false; flood = false }

-- the outputs after an action: what it switches, and all else as before; a change of the tool stops the spindle (own)
abbrev pub action_outputs : Outputs → Action → Outputs
action_outputs o (action.SpindleSpeed speed) = record o { speed = speed }
action_outputs o (action.SelectTool slot) = record o { selected_slot = slot }
action_outputs o (action.ChangeTool slot) = record o { spindle = Stopped; spindle_slot = slot }
action_outputs o (action.Spindle spindle) = record o { spindle = spindle }
action_outputs o (action.Coolant coolant) = coolant_outputs coolant o
action_outputs o _ = o

-- the outputs after some actions
abbrev pub outputs_after : Outputs → List Action → Outputs
outputs_after o actions = fold action_outputs o actions

-- the segments of an action: a switch, which carries all outputs as they are after it, or a dwell
abbrev pub action_segments : Action → Outputs → List Segment
action_segments (action.SpindleSpeed speed) now = segment.Switch now ∷ []
action_segments (action.SelectTool slot) now = segment.Switch now ∷ []
action_segments (action.ChangeTool slot) now = segment.Switch now ∷ []
action_segments (action.Spindle spindle) now = segment.Switch now ∷ []
action_segments (action.Coolant coolant) now = segment.Switch now ∷ []
action_segments (action.Dwell seconds) now = segment.Dwell seconds ∷ []
action_segments _ now = []

-- the segments of some actions
abbrev pub actions_segments : Outputs → List Action → List Segment
actions_segments o [] = []
actions_segments o (a ∷ actions) = action_segments a (action_outputs o a) ++ actions_segments (action_outputs o a) actions
