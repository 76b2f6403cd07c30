use Rattle.std.proofs.Common.{◌≡◌}
use Rattle.ng_block.specs.Resuming.{Stays}
use Rattle.ng_block.proofs.block_segments.resuming.Passing.pass_actions.Given as goal

abbrev pub invariant-loop-self : goal.invariant-loop-self
invariant-loop-self l = record {
  stays : Stays l.fn.self l.self;
  moves : l.self.rest.moves ≡ l.fn.self.rest.moves;
}

abbrev pub decreases-loop-self : goal.decreases-loop-self
decreases-loop-self l = l.self.left
