-- The remaining items as a model (own).
use Rattle.std.specs.Prelude.{Option, Some, None, List, [], ◌∷◌, ◌++◌, map}
use Rattle.ng_canon.specs.declared.item.Item.{Item}
use Rattle.ng_step.specs.declared.stepper.Stepper.TheInside.{Inside}
use Rattle.ng_step.specs.declared.steps.AxisSteps.{AxisSteps}
use Rattle.ng_step.specs.Hands.{pulse_item}

abbrev pub single_item : Option Item → List Item
single_item None = []
single_item (Some i) = i ∷ []

-- no pulses of an arc if there is no arc
abbrev pub or_none : Option (List AxisSteps) → List AxisSteps
or_none None = []
or_none (Some pulses) = pulses

abbrev pub items_left : Inside → List Item
items_left a = single_item a.single ++ map (pulse_item a.period_us) (or_none a.arc ++ a.line)
