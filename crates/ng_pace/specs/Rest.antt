-- Coming to rest.
use Rattle.std.specs.Prelude.{ℕ, ◌+◌, ◌≤◌, ◌≡◌, ◌⊎◌, List, [], ◌∷◌, ◌++◌, IsTrue}
use Rattle.ng_pace.specs.declared.line.Line.{Line}
use Rattle.ng_pace.specs.declared.line.Ramp.{Ramp}

-- a ramp that is as steep up as down
abbrev pub either_way : ℕ → Ramp
either_way ramp = record { up = ramp; down = ramp }

-- from one line to the next the square grows and falls by at most this
pub record IsRamp (ramp : Ramp) (from to : ℕ) : Type 0 where
  pub grows : to ≤ from + ramp.up
  pub falls : from ≤ to + ramp.down

-- from this square at the first of these lines a rest can be reached within them: there are squares at the lines, none
-- greater than its line allows, each within the ramp of the one before; the square after a last line, and after all of
-- them, is 0
abbrev pub CanRest : ℕ → List Line → Type 0
CanRest square [] = square ≡ 0
CanRest square (line ∷ rest) = (square ≤ line.most) × ((to : ℕ) × (IsRamp line.ramp square to × ((IsTrue line.last → to ≡ 0) × CanRest to rest)))

-- everything stands still at a line
abbrev pub Stands : Line → Type 0
Stands line = (line.most ≡ 0) × ((line.ramp.up ≡ 0) × (line.ramp.down ≡ 0))

-- everything stands still behind these lines: at the last of them, or after it, since it is marked so
abbrev pub StandsBehind : List Line → Type 0
StandsBehind lines = (before : List Line) (line : Line) → lines ≡ before ++ line ∷ [] → IsTrue line.last ⊎ Stands line

-- the last of these lines is marked: everything stands still after it
pub record IsMarked (lines : List Line) : Type 0 where
  pub before : List Line
  pub line : Line
  pub lines_are : lines ≡ before ++ line ∷ []
  pub marked : IsTrue line.last
