-- The line of an item that is handed out (own).
use Rattle.std.specs.Prelude.{ℕ, ◌<◌, ◌^◌, Bool, true, false, List, [], ◌∷◌, ◌++◌, codes}
use Rattle.std.specs.Fmt.{decimal}
use Rattle.ng_num.specs.Range.{IsCount}
use Rattle.ng_num.specs.Printing.{number_text}
use Rattle.ng_canon.specs.declared.item.AxisStep.{AxisStep}
use Rattle.ng_canon.specs.declared.item.AxisStep.TheVariants.{Backward, Still, Forward}
use Rattle.ng_canon.specs.declared.item.Pulse.{Pulse as Stepping}
use Rattle.ng_canon.specs.declared.item.Item.{Item}
use Rattle.ng_canon.specs.declared.item.Item.TheVariants.{Pulse, Dwell, Switch}
use Rattle.ng_canon.specs.declared.outputs.Spindle.{Spindle}
use Rattle.ng_canon.specs.declared.outputs.Spindle.TheVariants.{Stopped, Clockwise, Counterclockwise}
use Rattle.ng_canon.specs.declared.outputs.Outputs.{Outputs}

abbrev pub step_text : AxisStep → List ℕ
step_text Backward = codes "-1"
step_text Still = codes "0"
step_text Forward = codes "1"

abbrev pub spindle_text : Spindle → List ℕ
spindle_text Stopped = codes "0"
spindle_text Clockwise = codes "1"
spindle_text Counterclockwise = codes "2"

-- the digit for a truth value
abbrev pub truth_digit : Bool → ℕ
truth_digit false = 48
truth_digit true = 49

-- P, the steps of X, Y and Z, and the microseconds until the next pulse
abbrev pub pulse_line : Stepping → List ℕ
pulse_line p = codes "P " ++ step_text p.x ++ codes " " ++ step_text p.y ++ codes " " ++ step_text p.z ++ codes " " ++ decimal p.period_us ++ codes "\n"

-- spindle, speed, mist, flood
abbrev pub spinning_text : Outputs → List ℕ
spinning_text o = spindle_text o.spindle ++ codes " " ++ number_text o.speed ++ (32 ∷ truth_digit o.mist ∷ []) ++ (32 ∷ truth_digit o.flood ∷ 32 ∷ [])

-- selected slot, slot in the spindle
abbrev pub slots_text : Outputs → List ℕ
slots_text o = decimal o.selected_slot ++ codes " " ++ decimal o.spindle_slot

-- S and all outputs
abbrev pub switch_line : Outputs → List ℕ
switch_line o = codes "S " ++ spinning_text o ++ slots_text o ++ codes "\n"

abbrev pub item_line : Item → List ℕ
item_line (Pulse p) = pulse_line p
item_line (Dwell us) = codes "D " ++ decimal us ++ codes "\n"
item_line (Switch o) = switch_line o

-- the numbers of an item are in the ranges of their types
abbrev pub IsItem : Item → Type 0
IsItem (Pulse p) = p.period_us < 2 ^ 64
IsItem (Dwell us) = us < 2 ^ 64
IsItem (Switch o) = IsCount o.speed × (o.selected_slot < 2 ^ 8) × (o.spindle_slot < 2 ^ 8)
