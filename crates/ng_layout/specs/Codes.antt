-- The numbers that stand for modes on a device: those of the report's words, if there are such words (own).
use Rattle.std.specs.Prelude.{ℕ, ◌==◌, Bool, true, false, List, [], ◌∷◌, Option, Some, None, if◌then◌else◌}
use Rattle.ng_num.specs.declared.unit.Unit.{Unit as LengthUnit}
use Rattle.ng_num.specs.declared.unit.Unit.TheVariants.{Inches, Millimetres}
use Rattle.ng_canon.specs.declared.plane.Plane.{Plane}
use Rattle.ng_canon.specs.declared.plane.Plane.TheVariants.{Xy, Xz, Yz}
use Rattle.ng_canon.specs.declared.outputs.Spindle.{Spindle}
use Rattle.ng_canon.specs.declared.outputs.Spindle.TheVariants.{Stopped, Clockwise, Counterclockwise}
use Rattle.ng_state.specs.declared.modes.Motion.{Motion}
use Rattle.ng_state.specs.declared.modes.Motion.TheVariants.{Off, Traverse, Feed, ClockwiseArc, CounterclockwiseArc}
use Rattle.ng_state.specs.declared.modes.Motion.TheVariants.{Drilling, DrillingWithDwell, PeckDrilling, Boring}
use Rattle.ng_state.specs.declared.modes.Motion.TheVariants.{BoringWithStop, BoringWithDwell}
use Rattle.ng_state.specs.declared.modes.Distance.{Distance}
use Rattle.ng_state.specs.declared.modes.Distance.TheVariants.{Absolute, Incremental}
use Rattle.ng_state.specs.declared.modes.FeedMode.{FeedMode}
use Rattle.ng_state.specs.declared.modes.FeedMode.TheVariants.{PerMinute, InverseTime}
use Rattle.ng_state.specs.declared.modes.Retract.{Retract}
use Rattle.ng_state.specs.declared.modes.Retract.TheVariants.{OldZ, ToR}
use Rattle.ng_state.specs.declared.modes.PathMode.{PathMode}
use Rattle.ng_state.specs.declared.modes.PathMode.TheVariants.{Exact, ExactStop, Continuous}
use Rattle.ng_layout.specs.declared.header.Format.{Format}
use Rattle.ng_layout.specs.declared.header.Format.TheVariants.{One, Two}
use Rattle.ng_layout.specs.declared.half.Source.{Source}
use Rattle.ng_layout.specs.declared.half.Source.TheVariants.{Program, Mdi}
use Rattle.ng_layout.specs.declared.half.Opened.{Opened}
use Rattle.ng_layout.specs.declared.half.Opened.TheVariants.{Segment, Approach}

-- the value for a number in a list of codes
abbrev pub among : {X : Type 0} → List (ℕ × X) → ℕ → Option X
among [] code = None
among (entry ∷ entries) code = if code == entry.0 then Some entry.1 else among entries code

-- the format of a device
abbrev pub format_of : ℕ → Option Format
format_of code = among ((1, One) ∷ (2, Two) ∷ []) code

abbrev pub code_of_format : Format → ℕ
code_of_format One = 1
code_of_format Two = 2

abbrev pub motion_of : ℕ → Option Motion
motion_of code = among ((0, Traverse) ∷ (1, Feed) ∷ (2, ClockwiseArc) ∷ (3, CounterclockwiseArc) ∷ (80, Off) ∷
    (81, Drilling) ∷ (82, DrillingWithDwell) ∷ (83, PeckDrilling) ∷ (85, Boring) ∷ (86, BoringWithStop) ∷
    (89, BoringWithDwell) ∷ []) code

abbrev pub plane_of : ℕ → Option Plane
plane_of code = among ((17, Xy) ∷ (18, Xz) ∷ (19, Yz) ∷ []) code

abbrev pub distance_of : ℕ → Option Distance
distance_of code = among ((90, Absolute) ∷ (91, Incremental) ∷ []) code

abbrev pub feed_mode_of : ℕ → Option FeedMode
feed_mode_of code = among ((93, InverseTime) ∷ (94, PerMinute) ∷ []) code

abbrev pub unit_of : ℕ → Option LengthUnit
unit_of code = among ((20, Inches) ∷ (21, Millimetres) ∷ []) code

abbrev pub retract_of : ℕ → Option Retract
retract_of code = among ((98, OldZ) ∷ (99, ToR) ∷ []) code

-- 0 for G61, 1 for G61.1, 2 for G64
abbrev pub path_of : ℕ → Option PathMode
path_of code = among ((0, Exact) ∷ (1, ExactStop) ∷ (2, Continuous) ∷ []) code

abbrev pub spindle_of : ℕ → Option Spindle
spindle_of code = among ((0, Stopped) ∷ (1, Clockwise) ∷ (2, Counterclockwise) ∷ []) code

abbrev pub truth_of : ℕ → Option Bool
truth_of code = among ((0, false) ∷ (1, true) ∷ []) code

-- the source of a half-done block's line; 0 for no block
abbrev pub source_of : ℕ → Option (Option Source)
source_of code = among ((0, None) ∷ (1, Some Program) ∷ (2, Some Mdi) ∷ []) code

-- what part of it is open; 0 for nothing
abbrev pub opened_of : ℕ → Option (Option Opened)
opened_of code = among ((0, None) ∷ (1, Some Segment) ∷ (2, Some Approach) ∷ []) code
