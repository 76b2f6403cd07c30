-- The codes of the language: what a word asks for, by its value (NISTIR 6556, tables 5 and 7). Each row has its code
-- and its section.
use Rattle.std.specs.Prelude.{ℕ, ℤ, pos, ◌*ℤ◌, true, false, List, [], ◌∷◌, Option, Some, None, if◌then◌else◌}
use Rattle.std.specs.Option.{option_and_then}
use Rattle.std.specs.Ordering.{int_eq}
use Rattle.ng_num.specs.Whole.{whole_of}
use Rattle.ng_num.specs.declared.unit.Unit.TheVariants.{Inches, Millimetres}
use Rattle.ng_canon.specs.declared.plane.Plane.TheVariants.{Xy, Xz, Yz}
use Rattle.ng_canon.specs.declared.outputs.Spindle.TheVariants.{Clockwise, Counterclockwise, Stopped}
use Rattle.ng_state.specs.declared.modes.Motion.TheVariants.{Off as NoMotion, Traverse, Feed, ClockwiseArc}
use Rattle.ng_state.specs.declared.modes.Motion.TheVariants.{CounterclockwiseArc, Drilling, DrillingWithDwell}
use Rattle.ng_state.specs.declared.modes.Motion.TheVariants.{PeckDrilling, Boring, BoringWithStop, BoringWithDwell}
use Rattle.ng_state.specs.declared.modes.Distance.TheVariants.{Absolute, Incremental}
use Rattle.ng_state.specs.declared.modes.FeedMode.TheVariants.{PerMinute, InverseTime}
use Rattle.ng_state.specs.declared.modes.Retract.TheVariants.{OldZ, ToR}
use Rattle.ng_state.specs.declared.modes.PathMode.TheVariants.{Exact, ExactStop, Continuous}
use Rattle.ng_modal.specs.declared.requests.NonModal.TheVariants.{Dwell, SetOrigin, Home, SecondHome}
use Rattle.ng_modal.specs.declared.requests.NonModal.TheVariants.{MachineCoordinates, SetOffset, CancelOffsetAndParameters}
use Rattle.ng_modal.specs.declared.requests.NonModal.TheVariants.{CancelOffset, RestoreOffset}
use Rattle.ng_modal.specs.declared.requests.ToolLength.TheVariants.{OfSlot, Zero}
use Rattle.ng_modal.specs.declared.requests.StopWord.TheVariants.{Program, Optional, End, EndWithShuttle, Shuttle}
use Rattle.ng_modal.specs.declared.requests.Coolant.TheVariants.{Mist, Flood, Off}
use Rattle.ng_modal.specs.declared.codes.GWord.{GWord}
use Rattle.ng_modal.specs.declared.codes.GWord.TheVariants.{NonModal, Motion, LeftOutMotion, Plane, Distance}
use Rattle.ng_modal.specs.declared.codes.GWord.TheVariants.{FeedMode, Unit, NoCompensation, LeftOutCompensation}
use Rattle.ng_modal.specs.declared.codes.GWord.TheVariants.{ToolLength, Retract, System, Path}
use Rattle.ng_modal.specs.declared.codes.MWord.{MWord}
use Rattle.ng_modal.specs.declared.codes.MWord.TheVariants.{Stop, ToolChange, Spindle, Coolant, Overrides}

-- each G code by ten times its value
abbrev pub g_table : List (ℕ × GWord)
g_table =
    (0, Motion Traverse) ∷  -- G0 3.5.1
    (10, Motion Feed) ∷  -- G1 3.5.2
    (20, Motion ClockwiseArc) ∷  -- G2 3.5.3
    (30, Motion CounterclockwiseArc) ∷  -- G3 3.5.3
    (40, NonModal Dwell) ∷  -- G4 3.5.4
    (100, NonModal SetOrigin) ∷  -- G10 3.5.5
    (170, Plane Xy) ∷  -- G17 3.5.6
    (180, Plane Xz) ∷  -- G18 3.5.6
    (190, Plane Yz) ∷  -- G19 3.5.6
    (200, Unit Inches) ∷  -- G20 3.5.7
    (210, Unit Millimetres) ∷  -- G21 3.5.7
    (280, NonModal Home) ∷  -- G28 3.5.8
    (300, NonModal SecondHome) ∷  -- G30 3.5.8
    (382, LeftOutMotion) ∷  -- G38.2 3.5.9
    (400, NoCompensation) ∷  -- G40 3.5.10
    (410, LeftOutCompensation) ∷  -- G41 3.5.10
    (420, LeftOutCompensation) ∷  -- G42 3.5.10
    (430, ToolLength OfSlot) ∷  -- G43 3.5.11
    (490, ToolLength Zero) ∷  -- G49 3.5.11
    (530, NonModal MachineCoordinates) ∷  -- G53 3.5.12
    (540, System 1) ∷  -- G54 3.5.13
    (550, System 2) ∷  -- G55 3.5.13
    (560, System 3) ∷  -- G56 3.5.13
    (570, System 4) ∷  -- G57 3.5.13
    (580, System 5) ∷  -- G58 3.5.13
    (590, System 6) ∷  -- G59 3.5.13
    (591, System 7) ∷  -- G59.1 3.5.13
    (592, System 8) ∷  -- G59.2 3.5.13
    (593, System 9) ∷  -- G59.3 3.5.13
    (610, Path Exact) ∷  -- G61 3.5.14
    (611, Path ExactStop) ∷  -- G61.1 3.5.14
    (640, Path Continuous) ∷  -- G64 3.5.14
    (800, Motion NoMotion) ∷  -- G80 3.5.15
    (810, Motion Drilling) ∷  -- G81 3.5.16.2
    (820, Motion DrillingWithDwell) ∷  -- G82 3.5.16.3
    (830, Motion PeckDrilling) ∷  -- G83 3.5.16.4
    (840, LeftOutMotion) ∷  -- G84 3.5.16.5
    (850, Motion Boring) ∷  -- G85 3.5.16.6
    (860, Motion BoringWithStop) ∷  -- G86 3.5.16.7
    (870, LeftOutMotion) ∷  -- G87 3.5.16.8
    (880, LeftOutMotion) ∷  -- G88 3.5.16.9
    (890, Motion BoringWithDwell) ∷  -- G89 3.5.16.10
    (900, Distance Absolute) ∷  -- G90 3.5.17
    (910, Distance Incremental) ∷  -- G91 3.5.17
    (920, NonModal SetOffset) ∷  -- G92 3.5.18
    (921, NonModal CancelOffsetAndParameters) ∷  -- G92.1 3.5.18
    (922, NonModal CancelOffset) ∷  -- G92.2 3.5.18
    (923, NonModal RestoreOffset) ∷  -- G92.3 3.5.18
    (930, FeedMode InverseTime) ∷  -- G93 3.5.19
    (940, FeedMode PerMinute) ∷  -- G94 3.5.19
    (980, Retract OldZ) ∷  -- G98 3.5.20
    (990, Retract ToR) ∷  -- G99 3.5.20
    []

-- each M code by its value
abbrev pub m_table : List (ℕ × MWord)
m_table =
    (0, Stop Program) ∷  -- M0 3.6.1
    (1, Stop Optional) ∷  -- M1 3.6.1
    (2, Stop End) ∷  -- M2 3.6.1
    (3, Spindle Clockwise) ∷  -- M3 3.6.2
    (4, Spindle Counterclockwise) ∷  -- M4 3.6.2
    (5, Spindle Stopped) ∷  -- M5 3.6.2
    (6, ToolChange) ∷  -- M6 3.6.3
    (7, Coolant Mist) ∷  -- M7 3.6.4
    (8, Coolant Flood) ∷  -- M8 3.6.4
    (9, Coolant Off) ∷  -- M9 3.6.4
    (30, Stop EndWithShuttle) ∷  -- M30 3.6.1
    (48, Overrides true) ∷  -- M48 3.6.5
    (49, Overrides false) ∷  -- M49 3.6.5
    (60, Stop Shuttle) ∷  -- M60 3.6.1
    []

-- the entry for a number in a table
abbrev pub lookup : {W : Type 0} → ℤ → List (ℕ × W) → Option W
lookup n [] = None
lookup n (row ∷ rows) = if int_eq (pos row.0) n then Some row.1 else lookup n rows

-- the G word with a code, given as ten times its value, and the M word with a code
unfoldable pub g_word_of : ℤ → Option GWord
g_word_of tenths = lookup tenths g_table

unfoldable pub m_word_of : ℤ → Option MWord
m_word_of number = lookup number m_table

-- the word that selects a coordinate system
abbrev pub selecting : ℕ → Option GWord
selecting n = Some (System n)

-- a G word by its value, of which ten times is looked up, and an M word (closeness to a whole number own)
unfoldable pub g_word : ℤ → Option GWord
g_word value = option_and_then g_word_of (whole_of (value *ℤ pos 10))

unfoldable pub m_word : ℤ → Option MWord
m_word value = option_and_then m_word_of (whole_of value)
