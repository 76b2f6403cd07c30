-- At which squares a line may be passed, and the greatest of them.
use Rattle.std.specs.Prelude.{ℕ, ◌-◌, ◌*◌, ◌/◌, ◌+◌, ◌^◌, ◌≤◌, ◌≡◌, min, max, List, [], ◌∷◌, ◌++◌, length, IsTrue}
use Rattle.ng_pace.specs.declared.line.Line.{Line}
use Rattle.ng_pace.specs.Rest.{IsRamp, CanRest}

-- the square at which motors can start or stop at once, where it may change by so much
abbrev pub start_square : ℕ → ℕ → ℕ
start_square ramp start = min (ramp / 256 * start) (2 ^ 64 - 1)

-- from rest these lines may begin at a square: motors can start at it, it is wanted, and a rest can be reached within
-- the lines
pub record MayBegin (line : Line) (start wanted : ℕ) (lines : List Line) (square : ℕ) : Type 0 where
  pub starts : square ≤ start_square line.ramp.up start
  pub is_wanted : square ≤ wanted
  pub rests : CanRest square lines

-- after a line that is passed at one square there may be another: it is within the ramp, and 0 after a last line; it is
-- wanted, or else it has fallen by the whole ramp; and a rest can be reached within the lines that come then
pub record MayFollow (line : Line) (from wanted : ℕ) (lines : List Line) (square : ℕ) : Type 0 where
  pub ramp : IsRamp line.ramp from square
  pub last : IsTrue line.last → square ≡ 0
  pub is_wanted : square ≤ max wanted (from - line.ramp.down)
  pub rests : CanRest square lines

-- the greatest number of which something holds
pub record IsGreatest (Holds : ℕ → Type 0) (number : ℕ) : Type 0 where
  pub holds : Holds number
  pub greatest : (other : ℕ) → Holds other → other ≤ number

-- haste: a line is passed from one square to another, the greatest that may be, with regard to the lines known behind
-- it: to all of them but the last few, an eighth of the others and eight, and to one at least
pub record IsHasty (line : Line) (square start wanted from to : ℕ) (known : List Line) : Type 0 where
  pub regarded : List Line
  pub others : List Line
  pub all : known ≡ regarded ++ others
  pub most : length others ≤ length regarded / 8 + 8
  pub some : regarded ≡ [] → known ≡ []
  pub begins : square ≡ 0 → IsGreatest (MayBegin line start wanted (line ∷ regarded)) from
  pub follows : IsGreatest (MayFollow line from wanted regarded) to
