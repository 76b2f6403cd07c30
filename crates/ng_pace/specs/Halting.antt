-- What is known of a path once an item was taken.
use Rattle.std.specs.Prelude.{ℕ, ◌≡◌, List, [], ◌∷◌, ◌++◌, map}
use Rattle.ng_canon.specs.declared.item.Item.{Item}
use Rattle.ng_canon.specs.declared.item.Item.TheVariants.{Pulse, Dwell, Switch}
use Rattle.ng_pace.specs.declared.limits.Limits.{Limits}
use Rattle.ng_pace.specs.declared.chord.Chord.{Chord}
use Rattle.ng_pace.specs.Pacer.{Motion}
use Rattle.ng_pace.specs.Stream.{still_line}
use Rattle.ng_pace.specs.Legs.{Leg, pulses_of, lines_of}
use Rattle.ng_pace.specs.Path.{IsPath, Advances, Finishes}

-- the path is at its end, and then come lines of these items
pub record Halts (limits : Limits) (stop : ℕ) (old new : Motion) (chord : Chord) (waits : ℕ) (legs : List Leg) (items : List Item) : Type 0 where
  pub mid : Motion
  pub finishes : Finishes limits stop old mid (pulses_of legs) (lines_of legs)
  pub known : new.known ≡ mid.known ++ map still_line items
  pub path : IsPath limits 0 chord waits []

-- a pulse goes on with a path, all else ends it
abbrev pub Takes : Limits → ℕ → Motion → Motion → Chord → ℕ → List Leg → Item → Type 0
Takes limits stop old new chord waits legs (Pulse pulse) = Advances limits 0 old new chord waits (pulses_of legs ++ pulse ∷ []) (lines_of legs)
Takes limits stop old new chord waits legs (Dwell us) = Halts limits stop old new chord waits legs (Dwell us ∷ [])
Takes limits stop old new chord waits legs (Switch outputs) = Halts limits stop old new chord waits legs (Switch outputs ∷ [])
