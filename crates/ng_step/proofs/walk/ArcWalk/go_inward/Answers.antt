use Rattle.std.proofs.lemmas.Grind.{common_steps}
use Rattle.std.proofs.Common.{arith, rules}
use Rattle.std.proofs.lemmas.Int.{ints}
use Rattle.ng_step.proofs.WalkLemmas.{small, step_inward}
use Rattle.ng_step.proofs.walk.ArcWalk.go_inward.Goals as goal

pub returns : goal.returns
returns c =
    let sizes = small c.args.self.now c.requires.walks in
    step_inward c.args.self.now _ _ _ c.requires.walks c.requires.outside c.requires.far
    c.requires.walks.inward_made (omega (arith, ints)) (omega (arith, ints))

pub sum-self-requires-clause-second : goal.sum-self-requires-clause-second
sum-self-requires-clause-second c = grind (arith, common_steps)

pub sum-self-requires-2-clause-second : goal.sum-self-requires-2-clause-second
sum-self-requires-2-clause-second c = search rules

pub overflow_sub-self : goal.overflow_sub-self
overflow_sub-self c = omega arith
