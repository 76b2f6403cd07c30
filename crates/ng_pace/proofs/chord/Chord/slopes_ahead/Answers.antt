use Rattle.std.proofs.Common.{arith}
use Rattle.std.proofs.lemmas.List.{length-map}
use Rattle.ng_pace.specs.Legs.{step_of, steps_along}
use Rattle.ng_pace.proofs.chord.Chord.slopes_ahead.Goals as goal

pub returns-clause-all : goal.returns-clause-all
returns-clause-all c = λ slack pulses cones. record {
  x = λ slope is near d. c.slopes.ensures.all slack (steps_along 0 pulses) (cones.x _) slope is near;
  y = λ slope is near d. c.slopes-2.ensures.all slack (steps_along 1 pulses) (cones.y _) slope is near;
  z = λ slope is near d. c.slopes-3.ensures.all slack (steps_along 2 pulses) (cones.z _) slope is near;
}

pub returns-clause-reached : goal.returns-clause-reached
returns-clause-reached c = λ slack pulses cones some chord. record {
  x = λ d. c.slopes.ensures.reached slack (steps_along 0 pulses) (cones.x _) chord.x (omega (arith, length-map pulses (step_of 0), some));
  y = λ d. c.slopes-2.ensures.reached slack (steps_along 1 pulses) (cones.y _) chord.y (omega (arith, length-map pulses (step_of 1), some));
  z = λ d. c.slopes-3.ensures.reached slack (steps_along 2 pulses) (cones.z _) chord.z (omega (arith, length-map pulses (step_of 2), some));
}
