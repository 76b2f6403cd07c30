use Rattle.std.proofs.lemmas.Grind.{common_steps}
use Rattle.std.proofs.Common.{arith, ap, ◌∙◌}
use Rattle.std.proofs.lemmas.Int.{ints}
use Rattle.ng_step.proofs.WalkLemmas.{in_range, small, step_crossing, flat}
use Rattle.ng_step.proofs.walk.ArcWalk.cross.Goals as goal

pub returns : goal.returns
returns c =
    let sizes = small c.args.self.now c.requires.walks in
    step_crossing c.args.self.now _ _ _ _ _ _ _ _ _ c.requires.walks c.requires.outside c.requires.near c.requires.walks.inward_made c.next-quadrant.ensures
    (omega (arith, ints)) (omega (arith, ints)) (omega (arith, ints)) (omega (arith, ints)) (omega (arith, ints))
    (c.pulse_with.ensures ∙ ap (flat c.args.self.now) c.inward.ensures) (c.pulse_with-2.ensures
    ∙ ap (flat c.args.self.now) c.outward.ensures)

pub sum-requires-clause-second : goal.sum-requires-clause-second
sum-requires-clause-second c = in_range c.args.self.now.inward (small c.args.self.now c.requires.walks).inward

pub difference-requires-clause-second : goal.difference-requires-clause-second
difference-requires-clause-second c = in_range c.args.self.now.outward (small c.args.self.now c.requires.walks).outward

pub sum-requires-2-clause-first : goal.sum-requires-2-clause-first
sum-requires-2-clause-first c = in_range c.args.self.now.inward (small c.args.self.now c.requires.walks).inward

pub next-quadrant-requires : goal.next-quadrant-requires
next-quadrant-requires c = omega arith

pub overflow_sub-self : goal.overflow_sub-self
overflow_sub-self c = omega arith

pub difference-requires-clause-first : goal.difference-requires-clause-first
difference-requires-clause-first c = grind (arith, common_steps)

pub sum-requires-2-clause-second : goal.sum-requires-2-clause-second
sum-requires-2-clause-second c = grind (arith, common_steps)

pub inward-requires : goal.inward-requires
inward-requires c = omega arith

pub pulse_with-requires : goal.pulse_with-requires
pulse_with-requires c = omega arith

pub outward-requires : goal.outward-requires
outward-requires c = omega arith

pub pulse_with-requires-2 : goal.pulse_with-requires-2
pulse_with-requires-2 c = omega arith
