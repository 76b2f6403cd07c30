-- The plan: at each line the greatest square from which a rest can be reached.
use Rattle.std.specs.Prelude.{ℕ, zero, suc, ◌+◌, ◌/◌, ◌-◌, ◌^◌, ◌<◌, ◌≤◌, ◌≡◌, ◌⊎◌, min, max, List, [], ◌∷◌, length}
use Rattle.std.specs.Prelude.{IsTrue, if◌then◌else◌}
use Rattle.ng_pace.specs.declared.line.Line.{Line}
use Rattle.ng_pace.specs.declared.planning.Slot.{Slot}
use Rattle.ng_pace.specs.Rest.{IsRamp, Stands}

abbrev pub lines_of : List Slot → List Line
lines_of [] = []
lines_of (s ∷ r) = s.line ∷ lines_of r

-- the square that is planned for the first line; 0 if none is known
abbrev pub ahead : List Slot → ℕ
ahead [] = 0
ahead (s ∷ r) = s.plan

-- the greatest square at a line after which this square is planned
abbrev pub most_now : Line → ℕ → ℕ
most_now line after = min (min ((if line.last then 0 else after) + line.ramp.down) (2 ^ 64 - 1)) line.most

-- so many lines are planned, the first of them: each at the greatest square before what is planned after it; for the
-- others 0 is planned
abbrev pub IsPlan : ℕ → List Slot → Type 0
IsPlan planned [] = planned ≡ 0
IsPlan zero (s ∷ r) = (s.plan ≡ 0) × IsPlan zero r
IsPlan (suc planned) (s ∷ r) = (s.plan ≡ most_now s.line (ahead r)) × IsPlan planned r

-- all lines are planned
abbrev pub IsWhole : List Slot → Type 0
IsWhole [] = Unit {0}
IsWhole (s ∷ r) = (s.plan ≡ most_now s.line (ahead r)) × IsWhole r

abbrev pub StandsFirst : List Slot → Type 0
StandsFirst [] = Unit {0}
StandsFirst (s ∷ r) = Stands s.line

-- so many of these lines are planned: all but an eighth and eight, and one at least if there is one
pub record LooksAhead (planned : ℕ) (rest : List Slot) : Type 0 where
  pub most : length rest ≤ planned + planned / 8 + 8
  pub some : planned ≡ 0 → rest ≡ []

-- enough is planned to take the first line; where everything stands still, nothing has to be
abbrev pub IsFresh : ℕ → List Slot → Type 0
IsFresh planned [] = Unit {0}
IsFresh planned (s ∷ r) = Stands s.line ⊎ ((0 < planned) × LooksAhead (planned - 1) r)

-- the first line of a plan was taken, and so many of the others are planned
pub record IsTaken (old new : List Slot) (planned : ℕ) (slot : Slot) : Type 0 where
  pub first : lines_of old ≡ slot.line ∷ lines_of new
  pub plan : IsPlan planned new
  pub grows : ahead old ≤ slot.plan
  pub within : slot.plan ≤ most_now slot.line (ahead new)
  pub greatest : Stands slot.line ⊎ ((slot.plan ≡ most_now slot.line (ahead new)) × LooksAhead planned new)

-- after a line that is passed at one square there may be another, where this square is planned for what comes then
pub record FollowsWithin (line : Line) (from wanted planned square : ℕ) : Type 0 where
  pub ramp : IsRamp line.ramp from square
  pub last : IsTrue line.last → square ≡ 0
  pub is_wanted : square ≤ max wanted (from - line.ramp.down)
  pub within : square ≤ planned
