use Rattle.std.proofs.Common.{arith}
use Rattle.std.proofs.lemmas.Int.{ints}
use Rattle.ng_step.proofs.WalkLemmas.{in_range, small, step_outward}
use Rattle.ng_step.proofs.walk.ArcWalk.go_outward.Goals as goal

pub returns : goal.returns
returns c =
    let sizes = small c.args.self.now c.requires.walks in
    step_outward c.args.self.now _ _ _ c.requires.walks c.requires.inside c.requires.walks.outward_made (omega (arith, ints)) (omega (arith, ints))

pub sum-self-requires-clause-second : goal.sum-self-requires-clause-second
sum-self-requires-clause-second c = in_range c.args.self.now.outward (small c.args.self.now c.requires.walks).outward

pub sum-self-requires-2-clause-first : goal.sum-self-requires-2-clause-first
sum-self-requires-2-clause-first c = in_range c.args.self.now.outward (small c.args.self.now c.requires.walks).outward

pub sum-self-requires-2-clause-second : goal.sum-self-requires-2-clause-second
sum-self-requires-2-clause-second c = in_range c.args.self.now.outer_second (small c.args.self.now c.requires.walks).outer_second
