-- The items of what C passes.
use Rattle.std.specs.Prelude.{ℤ, pos, int_lt, ◌==◌, if◌then◌else◌}
use Rattle.ng_canon.specs.declared.item.AxisStep.{AxisStep}
use Rattle.ng_canon.specs.declared.item.AxisStep.TheVariants.{Backward, Still, Forward}
use Rattle.ng_canon.specs.declared.item.Item.{Item}
use Rattle.ng_canon.specs.declared.item.Item.TheVariants.{Pulse, Dwell, Switch}
use Rattle.ng_canon.specs.Outputs.{fresh_outputs}
use Rattle.ng_pace_c.specs.declared.shapes.PaceLine.{PaceLine}

abbrev pub step_of : ℤ → AxisStep
step_of step = if int_lt step (pos 0) then Backward else (if int_lt (pos 0) step then Forward else Still)

-- a pulse for P, a dwell for D, and else a switch: what it sets isn't told, and changes no time
abbrev pub item_of : PaceLine → Item
item_of line = if line.letter == 80 then Pulse (record { x = step_of line.x; y = step_of line.y; z = step_of line.z; period_us = line.us })
    else (if line.letter == 68 then Dwell line.us else Switch fresh_outputs)
