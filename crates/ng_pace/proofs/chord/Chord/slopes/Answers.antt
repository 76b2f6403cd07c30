use Rattle.std.proofs.Common.{arith}
use Rattle.std.proofs.lemmas.List.{length-map}
use Rattle.ng_pace.specs.Legs.{step_of, steps_along}
use Rattle.ng_pace.proofs.chord.Chord.slopes.Goals as goal

pub returns-clause-are : goal.returns-clause-are
returns-clause-are c = λ slack pulses cones count some. record {
  x = λ d. c.slopes_at.ensures.between slack (steps_along 0 pulses) (cones.x _)
      (omega (arith, length-map pulses (step_of 0), count)) (omega (arith, count, some));
  y = λ d. c.slopes_at-2.ensures.between slack (steps_along 1 pulses) (cones.y _)
      (omega (arith, length-map pulses (step_of 1), count)) (omega (arith, count, some));
  z = λ d. c.slopes_at-3.ensures.between slack (steps_along 2 pulses) (cones.z _)
      (omega (arith, length-map pulses (step_of 2), count)) (omega (arith, count, some));
}

pub returns-clause-reached : goal.returns-clause-reached
returns-clause-reached c = λ slack pulses cones count some chord. record {
  x = λ d. c.slopes_at.ensures.reached slack (steps_along 0 pulses) (cones.x _) chord.x (omega (arith, length-map pulses (step_of 0), count))
      (omega (arith, count, some));
  y = λ d. c.slopes_at-2.ensures.reached slack (steps_along 1 pulses) (cones.y _) chord.y (omega (arith, length-map pulses (step_of 1), count))
      (omega (arith, count, some));
  z = λ d. c.slopes_at-3.ensures.reached slack (steps_along 2 pulses) (cones.z _) chord.z (omega (arith, length-map pulses (step_of 2), count))
      (omega (arith, count, some));
}
