-- The square that is wanted at so many percent of the controller's rates.
use Rattle.std.specs.Prelude.{ℕ, ◌-◌, ◌^◌, min, List, [], ◌∷◌, nat_le, if◌then◌else◌}
use Rattle.ng_canon.specs.declared.item.Item.{Item}
use Rattle.ng_canon.specs.declared.item.Item.TheVariants.{Pulse, Dwell, Switch}
use Rattle.ng_pace.specs.declared.line.Line.{Line}
use Rattle.ng_pace.specs.Due.{own_square}

-- as fast as may be
abbrev pub any_square : ℕ
any_square = 2 ^ 64 - 1

-- at a pulse its own, at so many percent of its rate
abbrev pub wanted_by : ℕ → Item → ℕ
wanted_by percent (Pulse pulse) = own_square percent pulse.period_us
wanted_by percent (Dwell us) = any_square
wanted_by percent (Switch outputs) = any_square

-- of the next line, at whose end the square is that of the one behind it
abbrev pub wanted_of : ℕ → List Line → ℕ
wanted_of percent [] = any_square
wanted_of percent (line ∷ []) = wanted_by percent line.item
wanted_of percent (line ∷ next ∷ rest) = min (wanted_by percent line.item) (wanted_by percent next.item)

-- where it is at most as much as the controller's rates allow
abbrev pub wanted_at : ℕ → ℕ → List Line → ℕ
wanted_at most percent lines = if nat_le most percent then any_square else wanted_of percent lines
