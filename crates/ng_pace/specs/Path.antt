-- How far the code has come with a path: its last chord is open.
use Rattle.std.specs.Prelude.{ℕ, ◌+◌, ◌*◌, ◌/◌, ◌^◌, ◌<◌, ◌≤◌, ◌≡◌, min, ◌⊎◌, List, [], ◌∷◌, ◌++◌, length}
use Rattle.std.specs.Prelude.{slice_index_or, IsTrue, IsFalse}
use Rattle.ng_canon.specs.declared.item.Pulse.{Pulse}
use Rattle.ng_pace.specs.declared.limits.Limits.{Limits}
use Rattle.ng_pace.specs.declared.slopes.Slopes.{Slopes}
use Rattle.ng_pace.specs.declared.cone.Cone.{Cone}
use Rattle.ng_pace.specs.declared.chord.Chord.{Chord}
use Rattle.ng_pace.specs.declared.line.Line.{Line}
use Rattle.ng_pace.specs.Pacer.{Motion}
use Rattle.ng_pace.specs.Axes.{EachAxis}
use Rattle.ng_pace.specs.Chord.{IsNear}
use Rattle.ng_pace.specs.Cone.{IsCone, IsReached, AreBetween}
use Rattle.ng_pace.specs.Legs.{Leg, IsChord, IsFarthest, IsPaced, pulses_of, lines_of, steps_along, slope_along}

-- the cones of some pulses, by axes
abbrev pub AreCones : ℕ → List Cone → List Pulse → Type 0
AreCones slack cones pulses = EachAxis (λ axis. (d : Cone) → IsCone slack (slice_index_or cones axis d) (steps_along axis pulses))

-- the slopes of some pulses, by axes
abbrev pub AreSlopes : List Slopes → List Pulse → Type 0
AreSlopes slopes pulses = EachAxis (λ axis. AreBetween slopes axis (slope_along axis pulses))

-- the greatest slope of each axis is one that it may get, whatever pulses come: near all of these
abbrev pub AreReached : ℕ → List Slopes → List Pulse → Type 0
AreReached slack slopes pulses =
    EachAxis (λ axis. (d : Slopes) → IsReached (λ slope. IsNear slack slope (steps_along axis pulses)) (slice_index_or slopes axis d))

-- the chord is open, and these are its pulses
pub record IsOpen (limits : Limits) (chord : Chord) (pulses : List Pulse) : Type 0 where
  pub is_open : IsTrue chord.is_open
  pub cones : AreCones limits.slack chord.cones pulses
  pub count : chord.pulses ≡ length pulses
  pub few : length pulses ≤ 2 ^ 20
  pub straight : IsChord limits.slack pulses

-- how many of the last pulses of a chord may belong to the corner that it ends at
abbrev pub reserve_of : ℕ → ℕ → ℕ
reserve_of half pulses = min pulses (2 * half) / 2

-- a chord with more pulses
abbrev pub longer : Leg → List Pulse → Leg
longer leg more = record { pulses = leg.pulses ++ more; lines = leg.lines }

-- the corner at which the chord begins, if it has one, is decided: whatever pulses the chord still takes, its lines
-- keep to it
pub record IsGoing (limits : Limits) (stop : ℕ) (chord : Chord) (waits : ℕ) (leg : Leg) (rest : List Leg) : Type 0 where
  pub opened : IsOpen limits chord leg.pulses
  pub decided : IsFalse chord.has_corner
  pub paced : (more : List Pulse) → IsChord limits.slack (leg.pulses ++ more) → IsPaced limits stop (longer leg more ∷ rest)
  pub waits_are : waits + length leg.lines ≡ length leg.pulses
  pub reserve : length leg.lines + reserve_of limits.half (length leg.pulses) ≤ length leg.pulses

-- the corner isn't decided: the last pulses of the chord before it wait, too
pub record IsPending (limits : Limits) (stop : ℕ) (chord : Chord) (waits : ℕ) (leg before : Leg) (rest : List Leg) : Type 0 where
  pub opened : IsOpen limits chord leg.pulses
  pub pending : IsTrue chord.has_corner
  pub none : leg.lines ≡ []
  pub paced : IsPaced limits stop (before ∷ rest)
  pub farthest : IsFarthest limits.slack before.pulses leg.pulses
  pub some : 0 < length before.pulses
  pub before_is : AreSlopes chord.before before.pulses
  pub before_reached : AreReached limits.slack chord.before before.pulses
  pub before_count : chord.before_pulses ≡ length before.pulses
  pub waits_are : waits + length before.lines ≡ length leg.pulses + length before.pulses
  pub reserve : length before.lines + reserve_of limits.half (length before.pulses) ≡ length before.pulses

abbrev pub IsJoined : Limits → ℕ → Chord → ℕ → Leg → List Leg → Type 0
IsJoined limits stop chord waits leg [] = ⊥
IsJoined limits stop chord waits leg (before ∷ rest) = IsPending limits stop chord waits leg before rest

-- so many pulses of a path wait, and of the others lines were made
abbrev pub IsPath : Limits → ℕ → Chord → ℕ → List Leg → Type 0
IsPath limits stop chord waits [] = IsFalse chord.is_open × (waits ≡ 0)
IsPath limits stop chord waits (leg ∷ rest) = IsGoing limits stop chord waits leg rest ⊎ IsJoined limits stop chord waits leg rest

-- lines were made, and the path has these pulses now; its last chord is open
pub record Advances (limits : Limits) (stop : ℕ) (old new : Motion) (chord : Chord) (waits : ℕ) (pulses : List Pulse) (lines : List Line) : Type 0 where
  pub made : List Line
  pub known : new.known ≡ old.known ++ made
  pub leg : Leg
  pub rest : List Leg
  pub pulses_are : pulses_of (leg ∷ rest) ≡ pulses
  pub lines_are : lines_of (leg ∷ rest) ≡ lines ++ made
  pub path : IsPath limits stop chord waits (leg ∷ rest)
  pub some : 0 < length leg.pulses

-- lines were made, and the path ends with its last chord; so many of its pulses wait
pub record Reaches (limits : Limits) (stop : ℕ) (old new : Motion) (waits : ℕ) (chord pulses : List Pulse) (lines : List Line) : Type 0 where
  pub made : List Line
  pub known : new.known ≡ old.known ++ made
  pub last : List Line
  pub rest : List Leg
  pub pulses_are : pulses_of rest ++ chord ≡ pulses
  pub lines_are : lines_of rest ++ last ≡ lines ++ made
  pub paced : IsPaced limits stop (record { pulses = chord; lines = last } ∷ rest)
  pub waits_are : waits + length last ≡ length chord

-- the last chord of a path has a pulse
abbrev pub IsBegun : List Leg → Type 0
IsBegun [] = Unit {0}
IsBegun (leg ∷ rest) = 0 < length leg.pulses

-- a chord was closed: what is held of it, and how many of its pulses wait
pub record IsClosed (slack : ℕ) (chord : Chord) (pulses : List Pulse) (waits reserve : ℕ) : Type 0 where
  pub waits_are : waits ≡ reserve
  pub before_is : AreSlopes chord.before pulses
  pub before_reached : AreReached slack chord.before pulses
  pub before_count : chord.before_pulses ≡ length pulses

-- the chord before one that has these pulses goes as far as it can
abbrev pub IsBehindFarthest : ℕ → List Leg → List Pulse → Type 0
IsBehindFarthest slack [] pulses = Unit {0}
IsBehindFarthest slack (before ∷ rest) pulses = IsFarthest slack before.pulses pulses

-- lines were made, and the last chord of the path goes straight with one more pulse
pub record Bends (limits : Limits) (old new : Motion) (chord : Chord) (waits : ℕ) (pulse : Pulse) (pulses : List Pulse) (lines : List Line) : Type 0 where
  pub made : List Line
  pub known : new.known ≡ old.known ++ made
  pub leg : Leg
  pub rest : List Leg
  pub pulses_are : pulses_of (leg ∷ rest) ≡ pulses
  pub lines_are : lines_of (leg ∷ rest) ≡ lines ++ made
  pub path : IsPath limits 0 chord waits (leg ∷ rest)
  pub straight : IsChord limits.slack (leg.pulses ++ pulse ∷ [])
  pub farthest : IsBehindFarthest limits.slack rest (leg.pulses ++ pulse ∷ [])
  pub few : length leg.pulses < 2 ^ 20

-- lines were made of all pulses of a path, and they keep to its chords and corners
pub record Finishes (limits : Limits) (stop : ℕ) (old new : Motion) (pulses : List Pulse) (lines : List Line) : Type 0 where
  pub made : List Line
  pub known : new.known ≡ old.known ++ made
  pub legs : List Leg
  pub pulses_are : pulses_of legs ≡ pulses
  pub lines_are : lines_of legs ≡ lines ++ made
  pub paced : IsPaced limits stop legs
  pub whole : length (lines_of legs) ≡ length (pulses_of legs)
