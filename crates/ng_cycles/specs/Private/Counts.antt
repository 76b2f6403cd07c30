-- How many segments come before a cycle's first hole, and whether some segments switch.
use Rattle.std.specs.Prelude.{ℕ, ◌+◌, int_lt, Bool, true, false, if◌then◌else◌, List, [], ◌∷◌}
use Rattle.std.specs.Ordering.{int_eq}
use Rattle.ng_canon.specs.declared.segment.Segment.{Segment}
use Rattle.ng_canon.specs.declared.segment.Segment.TheVariants as segment
use Rattle.ng_cycles.specs.declared.drill.Drill.{Drill}
use Rattle.ng_cycles.specs.declared.drill.Work.{Work}
use Rattle.ng_cycles.specs.declared.drill.Work.TheVariants.{Drilling, DrillingWithDwell, PeckDrilling, Boring, BoringWithStop, BoringWithDwell}

-- to R before all repeats, to the first hole, and to R there
abbrev pub lead_length : Drill → ℕ
lead_length d =
    let rises = int_lt d.start.z d.r in
    (if rises then 1 else 0) + (1 + (if int_eq (if rises then d.r else d.start.z) d.r then 0 else 1))

-- only G86 stops the spindle
abbrev pub stops : Work → Bool
stops Drilling = false
stops (DrillingWithDwell seconds) = false
stops (PeckDrilling q) = false
stops Boring = false
stops (BoringWithStop seconds) = true
stops (BoringWithDwell seconds) = false

abbrev pub has_switch : List Segment → Bool
has_switch [] = false
has_switch (segment.Line line ∷ rest) = has_switch rest
has_switch (segment.Arc arc ∷ rest) = has_switch rest
has_switch (segment.Dwell seconds ∷ rest) = has_switch rest
has_switch (segment.Switch outputs ∷ rest) = true
