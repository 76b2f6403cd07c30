use Rattle.std.proofs.Common.{◌≡◌, ◌-◌, length}
use Rattle.ng_block.specs.BlockSegments.{action_segments_left, stop_segments_left}
use Rattle.ng_block.proofs.block_segments.BlockSegmentsLeft.next_of_actions.Given as goal

abbrev pub invariant-loop-self : goal.invariant-loop-self
invariant-loop-self l = record {
  moves : l.self.moves ≡ l.fn.self.moves;
  stop : stop_segments_left l.self ≡ stop_segments_left l.fn.self;
  actions : action_segments_left l.self ≡ action_segments_left l.fn.self;
}

abbrev pub decreases-loop-self : goal.decreases-loop-self
decreases-loop-self l = length l.self.actions.items - l.self.begun
