use Rattle.std.proofs.Common.{arith, rules}
use Rattle.ng_step.proofs.BeginLemmas.{placed_pulse}
use Rattle.std.proofs.lemmas.Int.{ints}
use Rattle.ng_step.proofs.walk.ArcWalk.begin.Goals as goal

pub sum-requires-2-clause-first : goal.sum-requires-2-clause-first
sum-requires-2-clause-first c = omega (arith, ints)

pub sum-requires-2-clause-second : goal.sum-requires-2-clause-second
sum-requires-2-clause-second c = omega (arith, ints)

pub sum-requires-3-clause-first : goal.sum-requires-3-clause-first
sum-requires-3-clause-first c = omega (arith, ints)

pub sum-requires-3-clause-second : goal.sum-requires-3-clause-second
sum-requires-3-clause-second c = omega (arith, ints)

pub sum-requires-4-clause-first : goal.sum-requires-4-clause-first
sum-requires-4-clause-first c = omega (arith, ints)

pub sum-requires-4-clause-second : goal.sum-requires-4-clause-second
sum-requires-4-clause-second c = omega (arith, ints)

pub returns-clause-walks : goal.returns-clause-walks
returns-clause-walks c = record {
  has = c.requires.arc.has;
  bounded = record { large = c.requires.arc.large; within = c.requires.arc.within; fits = (let small = c.requires.small in omega arith) };
  sound = record { some = c.requires.some; inner = c.requires.inner; outer = c.requires.outer };
  inner_step = c.requires.inner_step;
  outer_step = c.requires.outer_step;
  inward_made = placed_pulse c.args.frame c.inward.result _ c.pulse_with.result c.pulse_with.ensures c.inward.ensures;
  outward_made = placed_pulse c.args.frame c.outward.result _ c.pulse_with-2.result c.pulse_with-2.ensures c.outward.ensures;
  inner_second = omega (arith, ints);
  outer_second = omega (arith, ints);
  excess = omega (arith, ints);
  inward = omega (arith, ints);
  outward = omega (arith, ints);
}

pub square-inner_square-requires : goal.square-inner_square-requires
square-inner_square-requires c = grind arith

pub square-outer_square-requires : goal.square-outer_square-requires
square-outer_square-requires c = grind arith

pub square-requires : goal.square-requires
square-requires c = omega arith

pub square-requires-2 : goal.square-requires-2
square-requires-2 c = omega arith

pub sum-requires-clause-first : goal.sum-requires-clause-first
sum-requires-clause-first c = grind arith

pub sum-requires-clause-second : goal.sum-requires-clause-second
sum-requires-clause-second c = grind arith

pub overflow_cast-circle : goal.overflow_cast-circle
overflow_cast-circle c = omega arith

pub difference-requires-clause-first : goal.difference-requires-clause-first
difference-requires-clause-first c = grind arith

pub difference-requires-clause-second : goal.difference-requires-clause-second
difference-requires-clause-second c = grind arith

pub twice-requires-clause-first : goal.twice-requires-clause-first
twice-requires-clause-first c = omega arith

pub twice-requires-clause-second : goal.twice-requires-clause-second
twice-requires-clause-second c = grind arith

pub difference-requires-2-clause-first : goal.difference-requires-2-clause-first
difference-requires-2-clause-first c = search rules

pub difference-requires-2-clause-second : goal.difference-requires-2-clause-second
difference-requires-2-clause-second c = grind arith

pub twice-requires-2-clause-first : goal.twice-requires-2-clause-first
twice-requires-2-clause-first c = omega arith

pub twice-requires-2-clause-second : goal.twice-requires-2-clause-second
twice-requires-2-clause-second c = grind arith

pub inward-requires : goal.inward-requires
inward-requires c = omega arith

pub pulse_with-requires : goal.pulse_with-requires
pulse_with-requires c = omega arith

pub outward-requires : goal.outward-requires
outward-requires c = omega arith

pub pulse_with-requires-2 : goal.pulse_with-requires-2
pulse_with-requires-2 c = omega arith

pub returns-clause-spot : goal.returns-clause-spot
returns-clause-spot c = grind arith

pub returns-clause-quadrant : goal.returns-clause-quadrant
returns-clause-quadrant c = grind arith

pub returns-clause-inner : goal.returns-clause-inner
returns-clause-inner c = omega arith

pub returns-clause-outer : goal.returns-clause-outer
returns-clause-outer c = omega arith

pub returns-clause-circle : goal.returns-clause-circle
returns-clause-circle c = grind arith

pub returns-clause-frame : goal.returns-clause-frame
returns-clause-frame c = grind arith
