-- What a stream makes of the items that are put in: the chords of its pulses, and lines that keep to them (own).
use Rattle.std.specs.Prelude.{◌≡◌, ◌⊎◌, List, [], ◌∷◌, ◌++◌, map, length}
use Rattle.ng_canon.specs.declared.item.Item.{Item}
use Rattle.ng_canon.specs.declared.item.Item.TheVariants.{Pulse, Dwell, Switch}
use Rattle.ng_canon.specs.declared.item.Pulse.{Pulse as OnePulse}
use Rattle.ng_pace.specs.declared.limits.Limits.{Limits}
use Rattle.ng_pace.specs.declared.line.Line.{Line}
use Rattle.ng_pace.specs.Stream.{Flow, items_of, items_waiting, still_line}
use Rattle.ng_pace.specs.Legs.{Leg, IsChord, IsPaced, pulses_of, lines_of}
use Rattle.ng_pace.specs.Path.{IsPath, IsBegun}

-- these are the chords of the pulses that were put in since the last rest, with the lines that were made of them; the
-- other pulses wait
pub record IsUnderway (flow : Flow) (legs : List Leg) : Type 0 where
  pub path : IsPath flow.limits 0 flow.chord (length flow.waiting) legs
  pub begun : IsBegun legs
  pub items : items_of (lines_of legs) ++ items_waiting flow.waiting ≡ map Pulse (pulses_of legs)

-- a pulse was put in: the path goes on with it
pub record Goes (old new : Flow) (legs : List Leg) (pulse : OnePulse) : Type 0 where
  pub made : List Line
  pub known : new.motion.known ≡ old.motion.known ++ made
  pub chords : List Leg
  pub pulses_are : pulses_of chords ≡ pulses_of legs ++ pulse ∷ []
  pub lines_are : lines_of chords ≡ lines_of legs ++ made
  pub underway : IsUnderway new chords

-- the path comes to rest: lines were made of all of its pulses, which keep to its chords and corners, and then of these
-- items, before which everything stands still
pub record Rests (old new : Flow) (legs : List Leg) (items : List Item) : Type 0 where
  pub made : List Line
  pub known : new.motion.known ≡ old.motion.known ++ (made ++ map still_line items)
  pub chords : List Leg
  pub pulses_are : pulses_of chords ≡ pulses_of legs
  pub lines_are : lines_of chords ≡ lines_of legs ++ made
  pub items_are : items_of (lines_of chords) ≡ map Pulse (pulses_of chords)
  pub paced : IsPaced old.limits old.motion.start chords
  pub underway : IsUnderway new []

-- an item was put in: a pulse goes on with the path, before all else it comes to rest
abbrev pub GoesOnWith : Flow → Flow → List Leg → Item → Type 0
GoesOnWith old new legs (Pulse pulse) = Goes old new legs pulse
GoesOnWith old new legs (Dwell us) = Rests old new legs (Dwell us ∷ [])
GoesOnWith old new legs (Switch outputs) = Rests old new legs (Switch outputs ∷ [])

-- the lines that were made of a path so far keep to its chords and corners: of the last chord there may be none yet
abbrev pub KeepSoFar : Limits → List Leg → Type 0
KeepSoFar limits [] = Unit {0}
KeepSoFar limits (leg ∷ rest) = IsPaced limits 0 (leg ∷ rest) ⊎ ((leg.lines ≡ []) × (IsChord limits.slack leg.pulses × IsPaced limits 0 rest))
