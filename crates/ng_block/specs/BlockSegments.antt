-- What is left of a block's segments.
use Rattle.std.specs.Prelude.{List, ◌++◌, drop}
use Rattle.ng_canon.specs.declared.segment.Segment.{Segment}
use Rattle.ng_block.specs.declared.action.Action.{Action}
use Rattle.ng_block.specs.declared.block_segments.BlockSegmentsLeft.{BlockSegmentsLeft}
use Rattle.ng_block.specs.Action.{actions_segments, outputs_after}
use Rattle.ng_block.specs.Ends.{stop_segments}

-- the actions that haven't begun, and their segments
abbrev pub actions_left : BlockSegmentsLeft → List Action
actions_left c = drop c.begun c.actions.items

abbrev pub action_segments_left : BlockSegmentsLeft → List Segment
action_segments_left c = actions_segments c.outputs (actions_left c)

-- that of the stop, with the outputs after those actions
abbrev pub stop_segments_left : BlockSegmentsLeft → List Segment
stop_segments_left c = stop_segments c.stop (outputs_after c.outputs (actions_left c))

abbrev pub rest_of : BlockSegmentsLeft → List Segment
rest_of c = action_segments_left c ++ (c.moves ++ stop_segments_left c)
