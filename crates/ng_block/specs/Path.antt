-- Where a block's motion goes: its path, the segments of the path, and what each of these prints (NISTIR 6556, 3.5,
-- 4.3).
use Rattle.std.specs.Prelude.{List, [], ◌∷◌, Option, Some, None, map}
use Rattle.ng_num.specs.declared.point.Point.{Point}
use Rattle.ng_canon.specs.declared.command.CanonicalCommand.{CanonicalCommand}
use Rattle.ng_canon.specs.declared.command.CanonicalCommand.TheVariants as command
use Rattle.ng_canon.specs.declared.outputs.Spindle.{Spindle}
use Rattle.ng_canon.specs.declared.outputs.Spindle.TheVariants.{Stopped, Clockwise, Counterclockwise}
use Rattle.ng_canon.specs.declared.pace.Pace.{Pace}
use Rattle.ng_canon.specs.declared.pace.Pace.TheVariants as pace
use Rattle.ng_canon.specs.declared.segment.Segment.{Segment}
use Rattle.ng_canon.specs.declared.segment.Segment.TheVariants as segment
use Rattle.ng_canon.specs.declared.segment.StraightMove.{StraightMove}
use Rattle.ng_block.specs.declared.path.Path.{Path}
use Rattle.ng_cycles.specs.Segments.{begin, after_segments, cycle_segments}
use Rattle.ng_block.specs.declared.path.Path.TheVariants.{Still, WithoutFeed, Straight, Round, Homing, Cycle}

-- a straight move at a pace; a block that moves without a pace is refused
abbrev pub moving_at : Option Pace → Point → Point → Path
moving_at None start end = WithoutFeed
moving_at (Some pace) start end = Straight (record { start = start; end = end; pace = pace })

-- the machine's position after a path
abbrev pub point_after : Path → Point → Point
point_after (Straight line) start = line.end
point_after (Round arc) start = arc.end
point_after (Homing way) start = way.home
point_after (Cycle drill) start = (after_segments (begin drill) (cycle_segments drill)).point
point_after _ start = start

abbrev pub traverse : Point → Point → StraightMove
traverse start end = record { start = start; end = end; pace = pace.Traverse }

abbrev pub path_segments : Path → List Segment
path_segments Still = []
path_segments WithoutFeed = []
path_segments (Straight line) = segment.Line line ∷ []
path_segments (Round arc) = segment.Arc arc ∷ []
path_segments (Homing way) = segment.Line (traverse way.start way.between) ∷ segment.Line (traverse way.between way.home) ∷ []
path_segments (Cycle drill) = cycle_segments drill

abbrev pub pace_command : Pace → Point → CanonicalCommand
pace_command pace.Traverse end = command.Traverse end
pace_command (pace.Feed rate) end = command.Feed end
pace_command (pace.InverseTime time) end = command.Feed end

abbrev pub spindle_command : Spindle → CanonicalCommand
spindle_command Stopped = command.StopSpindle
spindle_command Clockwise = command.StartSpindleClockwise
spindle_command Counterclockwise = command.StartSpindleCounterclockwise

-- what a segment of a path prints: one command
abbrev pub command_of : Segment → CanonicalCommand
command_of (segment.Line line) = pace_command line.pace line.end
command_of (segment.Arc arc) = command.ArcFeed (record { end = arc.end; centre_a = arc.centre_a; centre_b = arc.centre_b; turn = arc.turn })
command_of (segment.Dwell seconds) = command.Dwell seconds
command_of (segment.Switch outputs) = spindle_command outputs.spindle

abbrev pub path_commands : Path → List CanonicalCommand
path_commands p = map command_of (path_segments p)
