-- What a cursor over a block's commands has left.
use Rattle.std.specs.Prelude.{List, [], ◌++◌, drop, flat_map, map, if◌then◌else◌}
use Rattle.std.specs.Option.{option_to_list}
use Rattle.ng_canon.specs.Printing.{CanonModel, numeric}
use Rattle.ng_canon.specs.declared.command.CanonicalCommand.{CanonicalCommand}
use Rattle.ng_block.specs.declared.commands.CommandsLeft.{CommandsLeft}
use Rattle.ng_block.specs.Action.{action_commands}
use Rattle.ng_block.specs.Path.{command_of}
use Rattle.ng_block.specs.Remarks.{said_by}

-- the remark
abbrev pub remark_left : CommandsLeft → List CanonModel
remark_left r = if r.has_remark then said_by r.remark.now else []

-- those of the feed and the actions
abbrev pub action_commands_left : CommandsLeft → List CanonicalCommand
action_commands_left r = option_to_list r.waiting ++ flat_map action_commands r.actions.now

-- those of the stop
abbrev pub stop_commands_left : CommandsLeft → List CanonicalCommand
stop_commands_left r = drop r.taken r.stop.items

-- all but the remark
abbrev pub numeric_left : CommandsLeft → List CanonicalCommand
numeric_left r = action_commands_left r ++ (map command_of r.moves ++ stop_commands_left r)

abbrev pub rest_commands : CommandsLeft → List CanonModel
rest_commands r = remark_left r ++ map numeric (numeric_left r)
