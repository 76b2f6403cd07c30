use Rattle.std.proofs.Common.{◌∙◌, ◌-◌, ℕ, List, ap}
use Rattle.ng_canon.specs.declared.segment.Segment.{Segment}
use Rattle.ng_block.specs.declared.block_segments.BlockSegmentsLeft.{BlockSegmentsLeft}
use Rattle.ng_block.specs.Path.{path_segments}
use Rattle.ng_block.proofs.LaterLemmas.{Stays-path}
use Rattle.ng_block.proofs.block_segments.resuming.Passing.pass_moves.Goals as goal

pub returns-clause-stays : goal.returns-clause-stays
returns-clause-stays c =
    let old = c.args.self.now in
    let rest : BlockSegmentsLeft = old.rest in
    Stays-path old _ (path_segments c.args.path.now) c.requires.actions c.requires.moves
    (ap (λ (moves : List Segment). record rest { moves = moves }) c.later-self.ensures)
    (c.left_after-self.ensures ∙ ap (λ (count : ℕ). old.left - count) c.count.ensures)
    c.motion_state_after-self.ensures
