-- What C is told of a line of OUT.
use Rattle.std.specs.Prelude.{ℕ, ℤ, pos, negsuc, ◌≡◌, ◌++◌, false, List, codes}
use Rattle.ng_canon.specs.declared.item.AxisStep.{AxisStep}
use Rattle.ng_canon.specs.declared.item.AxisStep.TheVariants.{Backward, Still, Forward}
use Rattle.ng_canon.specs.declared.item.Item.{Item}
use Rattle.ng_canon.specs.declared.item.Item.TheVariants.{Pulse, Dwell, Switch}
use Rattle.ng_canon.specs.declared.outputs.Spindle.{Spindle}
use Rattle.ng_canon.specs.declared.outputs.Spindle.TheVariants.{Stopped, Clockwise, Counterclockwise}
use Rattle.ng_lines.specs.Lines.{IsItem, item_line}
use Rattle.ng_lines_c.specs.declared.reading.OutLine.{OutLine}

abbrev pub step_number : AxisStep → ℤ
step_number Backward = negsuc 0
step_number Still = pos 0
step_number Forward = pos 1

abbrev pub spindle_number : Spindle → ℕ
spindle_number Stopped = 0
spindle_number Clockwise = 1
spindle_number Counterclockwise = 2

abbrev pub blank : ℕ → OutLine
blank letter = record { us = 0; speed = pos 0; letter = letter; x = pos 0; y = pos 0; z = pos 0; spindle = 0; selected = 0; slot = 0; mist = false; flood = false }

-- the letter and all numbers of an item
abbrev pub told : Item → OutLine
told (Pulse p) = record (blank 80) { us = p.period_us; x = step_number p.x; y = step_number p.y; z = step_number p.z }
told (Dwell us) = record (blank 68) { us = us }
told (Switch o) = record (blank 83) { speed = o.speed; spindle = spindle_number o.spindle; selected = o.selected_slot; slot = o.spindle_slot; mist = o.mist; flood = o.flood }

-- it is the line of an item, of which all is told
pub record IsLine (text : List ℕ) (line : OutLine) : Type 0 where
  pub item : Item
  pub text_is : item_line item ≡ text ++ codes "\n"
  pub range : IsItem item
  pub told_is : line ≡ told item
