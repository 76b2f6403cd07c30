-- What a block prints, moves and switches, part by part (NISTIR 6556, 3.8, table 8).
use Rattle.std.specs.Prelude.{ℤ, List, ◌++◌, Option, flat_map, map}
use Rattle.std.specs.Option.{option_map, option_to_list}
use Rattle.ng_num.specs.declared.point.Point.{Point}
use Rattle.ng_canon.specs.Printing.{CanonModel, numeric}
use Rattle.ng_canon.specs.declared.command.CanonicalCommand.{CanonicalCommand}
use Rattle.ng_canon.specs.declared.command.CanonicalCommand.TheVariants.{FeedRate}
use Rattle.ng_canon.specs.declared.outputs.Outputs.{Outputs}
use Rattle.ng_canon.specs.declared.segment.Segment.{Segment}
use Rattle.ng_modal.specs.declared.requests.StopWord.{StopWord}
use Rattle.ng_block.specs.declared.action.Action.{Action}
use Rattle.ng_block.specs.declared.path.Path.{Path}
use Rattle.ng_block.specs.Action.{action_commands, actions_segments, outputs_after}
use Rattle.ng_block.specs.Ends.{stop_commands, stop_outputs, stop_segments}
use Rattle.ng_block.specs.Path.{path_segments, path_commands}

-- the plan of a block, its parts in the order in which they act: its remark (step 1), the feed that its F sets (3), its
-- actions (4 to 19), the path of its motion (20), its stop (21); the origin after it, and the outputs before it. The
-- other steps set modes and print nothing
pub record Plan : Type 0 where
  pub remark : List CanonModel
  pub feed : Option ℤ
  pub actions : List Action
  pub path : Path
  pub stop : Option StopWord
  pub origin : Point
  pub before : Outputs

-- what the feed that an F sets prints
abbrev pub feed_commands : Option ℤ → List CanonicalCommand
feed_commands feed = option_to_list (option_map FeedRate feed)

-- all that it prints but its remark
abbrev pub numeric_commands : Plan → List CanonicalCommand
numeric_commands p =
    feed_commands p.feed ++ (flat_map action_commands p.actions ++ (path_commands p.path ++ stop_commands p.stop p.origin))

abbrev pub commands_of : Plan → List CanonModel
commands_of p = p.remark ++ map numeric (numeric_commands p)

abbrev pub segments_of : Plan → List Segment
segments_of p =
    actions_segments p.before p.actions
    ++ (path_segments p.path ++ stop_segments p.stop (outputs_after p.before p.actions))

-- the outputs after a block
abbrev pub outputs_of : Plan → Outputs
outputs_of p = stop_outputs p.stop (outputs_after p.before p.actions)
