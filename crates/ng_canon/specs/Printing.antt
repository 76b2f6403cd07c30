-- The canonical text of commands (own, after NISTIR 6556, 4.3): one a line, arguments joined by a comma and a blank.
use Rattle.std.specs.Prelude.{◌≡◌, ℕ, List, ◌++◌, codes}
use Rattle.std.specs.Fmt.{decimal}
use Rattle.ng_num.specs.Printing.{number_text, point_text}
use Rattle.ng_num.specs.declared.unit.Unit.{Unit as LengthUnit}
use Rattle.ng_num.specs.declared.unit.Unit.TheVariants.{Inches, Millimetres}
use Rattle.ng_canon.specs.declared.plane.Plane.{Plane}
use Rattle.ng_canon.specs.declared.plane.Plane.TheVariants.{Xy, Xz, Yz}
use Rattle.ng_canon.specs.declared.plane.ArcDirection.{ArcDirection}
use Rattle.ng_canon.specs.declared.plane.ArcDirection.TheVariants.{Clockwise, Counterclockwise}
use Rattle.ng_canon.specs.declared.command.ArcFeed.{ArcFeed as Arc}
use Rattle.ng_canon.specs.declared.command.CanonicalCommand.{CanonicalCommand}
use Rattle.ng_canon.specs.declared.command.CanonicalCommand.TheVariants.{FeedRate, InverseTime, SpindleSpeed}
use Rattle.ng_canon.specs.declared.command.CanonicalCommand.TheVariants.{SelectTool, ChangeTool}
use Rattle.ng_canon.specs.declared.command.CanonicalCommand.TheVariants.{StartSpindleClockwise}
use Rattle.ng_canon.specs.declared.command.CanonicalCommand.TheVariants.{StartSpindleCounterclockwise, StopSpindle}
use Rattle.ng_canon.specs.declared.command.CanonicalCommand.TheVariants.{MistOn, MistOff, FloodOn, FloodOff, Dwell}
use Rattle.ng_canon.specs.declared.command.CanonicalCommand.TheVariants.{SelectPlane, LengthUnits, ToolLength}
use Rattle.ng_canon.specs.declared.command.CanonicalCommand.TheVariants.{OriginOffsets, Traverse, Feed, ArcFeed}
use Rattle.ng_canon.specs.declared.command.CanonicalCommand.TheVariants.{ProgramStop, OptionalStop, PalletShuttle}
use Rattle.ng_canon.specs.declared.command.CanonicalCommand.TheVariants.{ProgramEnd}
use Rattle.ng_canon.specs.declared.command.Canon.{Canon}
use Rattle.ng_canon.specs.declared.command.Canon.TheVariants.{Comment, Message, Command as Numeric}

abbrev pub plane_text : Plane → List ℕ
plane_text Xy = codes "XY"
plane_text Xz = codes "XZ"
plane_text Yz = codes "YZ"

abbrev pub unit_text : LengthUnit → List ℕ
unit_text Inches = codes "INCHES"
unit_text Millimetres = codes "MM"

abbrev pub turn_text : ArcDirection → List ℕ
turn_text Clockwise = codes "CW"
turn_text Counterclockwise = codes "CCW"

-- the centre on the plane's axes, and the direction
abbrev pub round_text : Arc → List ℕ
round_text arc = number_text arc.centre_a ++ codes ", " ++ number_text arc.centre_b ++ codes ", " ++ turn_text arc.turn

-- a command whose arguments are numbers
unfoldable pub command_text : CanonicalCommand → List ℕ
command_text (FeedRate rate) = codes "SET_FEED_RATE(" ++ number_text rate ++ codes ")\n"
command_text (InverseTime number) = codes "INVERSE_TIME(" ++ number_text number ++ codes ")\n"
command_text (SpindleSpeed speed) = codes "SET_SPINDLE_SPEED(" ++ number_text speed ++ codes ")\n"
command_text (SelectTool slot) = codes "SELECT_TOOL(" ++ decimal slot ++ codes ")\n"
command_text (ChangeTool slot) = codes "CHANGE_TOOL(" ++ decimal slot ++ codes ")\n"
command_text StartSpindleClockwise = codes "START_SPINDLE_CLOCKWISE()\n"
command_text StartSpindleCounterclockwise = codes "START_SPINDLE_COUNTERCLOCKWISE()\n"
command_text StopSpindle = codes "STOP_SPINDLE_TURNING()\n"
command_text MistOn = codes "MIST_ON()\n"
command_text MistOff = codes "MIST_OFF()\n"
command_text FloodOn = codes "FLOOD_ON()\n"
command_text FloodOff = codes "FLOOD_OFF()\n"
command_text (Dwell seconds) = codes "DWELL(" ++ number_text seconds ++ codes ")\n"
command_text (SelectPlane plane) = codes "SELECT_PLANE(" ++ plane_text plane ++ codes ")\n"
command_text (LengthUnits unit) = codes "USE_LENGTH_UNITS(" ++ unit_text unit ++ codes ")\n"
command_text (ToolLength offset) = codes "USE_TOOL_LENGTH_OFFSET(" ++ number_text offset ++ codes ")\n"
command_text (OriginOffsets point) = codes "SET_ORIGIN_OFFSETS(" ++ point_text point ++ codes ")\n"
command_text (Traverse point) = codes "STRAIGHT_TRAVERSE(" ++ point_text point ++ codes ")\n"
command_text (Feed point) = codes "STRAIGHT_FEED(" ++ point_text point ++ codes ")\n"
command_text (ArcFeed arc) = codes "ARC_FEED(" ++ point_text arc.end ++ codes ", " ++ round_text arc ++ codes ")\n"
command_text ProgramStop = codes "PROGRAM_STOP()\n"
command_text OptionalStop = codes "OPTIONAL_PROGRAM_STOP()\n"
command_text PalletShuttle = codes "PALLET_SHUTTLE()\n"
command_text ProgramEnd = codes "PROGRAM_END()\n"

-- a canonical command, wherever its text is stored
pub data CanonModel : Type 0 where
  comment : List ℕ → CanonModel
  message : List ℕ → CanonModel
  numeric : CanonicalCommand → CanonModel

abbrev pub canonical : Canon → CanonModel
canonical (Comment words) = comment words.now
canonical (Message words) = message words.now
canonical (Numeric command) = numeric command

unfoldable pub canonical_text : CanonModel → List ℕ
canonical_text (comment words) = codes "COMMENT(" ++ words ++ codes ")\n"
canonical_text (message words) = codes "MESSAGE(" ++ words ++ codes ")\n"
canonical_text (numeric command) = command_text command

-- the text was not shortened: it still begins with the old text
abbrev pub StaysWithin : List ℕ → List ℕ → Type 0
StaysWithin old new = (more : List ℕ) × (new ≡ old ++ more)
