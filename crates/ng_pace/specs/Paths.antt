-- Whole streams: each line that is made keeps to the chords and corners of its path (own).
use Rattle.std.specs.Prelude.{ℕ, ◌≡◌, List, [], ◌∷◌, ◌++◌, map}
use Rattle.ng_canon.specs.declared.item.Item.{Item}
use Rattle.ng_canon.specs.declared.item.Item.TheVariants.{Pulse, Dwell, Switch}
use Rattle.ng_canon.specs.declared.item.Pulse.{Pulse as OnePulse}
use Rattle.ng_pace.specs.declared.limits.Limits.{Limits}
use Rattle.ng_pace.specs.declared.line.Line.{Line}
use Rattle.ng_pace.specs.declared.stepping.Given.{Given}
use Rattle.ng_pace.specs.Stream.{Flow, items_of, items_waiting, still_line}
use Rattle.ng_pace.specs.Legs.{Leg, IsPaced, pulses_of, lines_of}
use Rattle.ng_pace.specs.Putting.{KeepSoFar}
use Rattle.ng_pace.specs.Run.{Event, put, end, ask, lines_given}

-- the chords from one rest to the next, and the items behind them at which everything stands still
pub record Path : Type 0 where
  pub chords : List Leg
  pub stands : List Item

-- the lines of such paths, in order
abbrev pub lines_on : List Path → List Line
lines_on [] = []
lines_on (path ∷ rest) = (lines_of path.chords ++ map still_line path.stands) ++ lines_on rest

-- each pulse of a path has its line, and no line asks of an axis for more than it has: along its chord, and at its
-- corner, if it is at one
pub record IsWithinLimits (limits : Limits) (start : ℕ) (path : Path) : Type 0 where
  pub items : items_of (lines_of path.chords) ≡ map Pulse (pulses_of path.chords)
  pub paced : IsPaced limits start path.chords

abbrev pub AreWithinLimits : Limits → ℕ → List Path → Type 0
AreWithinLimits limits start [] = Unit {0}
AreWithinLimits limits start (path ∷ rest) = IsWithinLimits limits start path × AreWithinLimits limits start rest

abbrev pub lines_out : List Given → List Line
lines_out [] = []
lines_out (given ∷ rest) = given.line ∷ lines_out rest

-- these are the paths of some events: each has the pulses that were put in since a rest, and ends only at a dwell, at a
-- switch, or where nothing more was known to come. Some pulses were put in before
abbrev pub ArePathsOf : List OnePulse → List Event → List Path → List Leg → Type 0
ArePathsOf before [] [] last = pulses_of last ≡ before
ArePathsOf before [] (path ∷ paths) last = ⊥
ArePathsOf before (put (Pulse pulse) ∷ events) paths last = ArePathsOf (before ++ pulse ∷ []) events paths last
ArePathsOf before (put (Dwell us) ∷ events) [] last = ⊥
ArePathsOf before (put (Dwell us) ∷ events) (path ∷ paths) last = (pulses_of path.chords ≡ before) ×
    ((path.stands ≡ Dwell us ∷ []) × ArePathsOf [] events paths last)
ArePathsOf before (put (Switch outputs) ∷ events) [] last = ⊥
ArePathsOf before (put (Switch outputs) ∷ events) (path ∷ paths) last
    = (pulses_of path.chords ≡ before) × ((path.stands ≡ Switch outputs ∷ []) × ArePathsOf [] events paths last)
ArePathsOf before (end ∷ events) [] last = ⊥
ArePathsOf before (end ∷ events) (path ∷ paths) last = (pulses_of path.chords ≡ before) × ((path.stands ≡ []) × ArePathsOf [] events paths last)
ArePathsOf before (ask wanted answer ∷ events) paths last = ArePathsOf before events paths last

-- all lines, those that were given out and those that are known, are those of paths, and behind these of a path that
-- isn't at its end: of its last pulses there are no lines yet
pub record KeepsToPaths (limits : Limits) (start : ℕ) (events : List Event) (new : Flow) : Type 0 where
  pub paths : List Path
  pub last : List Leg
  pub are_of : ArePathsOf [] events paths last
  pub lines : lines_out (lines_given events) ++ new.motion.known ≡ lines_on paths ++ lines_of last
  pub within_limits : AreWithinLimits limits start paths
  pub so_far : KeepSoFar limits last
  pub items : items_of (lines_of last) ++ items_waiting new.waiting ≡ map Pulse (pulses_of last)
