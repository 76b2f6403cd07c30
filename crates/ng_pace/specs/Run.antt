-- Whole streams: what was given out is a beginning of what was put in, and is paced line by line.
use Rattle.std.specs.Prelude.{ℕ, ◌-◌, ◌<◌, ◌≤◌, ◌≡◌, ◌⊎◌, List, [], ◌∷◌, ◌++◌, Option, Some, None, IsTrue}
use Rattle.ng_canon.specs.declared.item.Item.{Item}
use Rattle.ng_pace.specs.declared.stepping.Given.{Given}
use Rattle.ng_pace.specs.Due.{least_ns}
use Rattle.ng_pace.specs.Rest.{IsRamp}
use Rattle.ng_pace.specs.Stepping.{start_square}
use Rattle.ng_pace.specs.Interval.{IsTimeOf, KeepsOwnRate, IsNoSooner}
use Rattle.ng_pace.specs.Paced.{Waits}
use Rattle.ng_pace.specs.Stream.{Flow, all_items}
use Rattle.ng_pace.specs.Calls.{IsPut, IsEnded, IsFlowGiven}

-- an item is put in; it is told that nothing more comes; or a line is asked for at no more than a square, and what is
-- answered
pub data Event : Type 0 where
  put : Item → Event
  end : Event
  ask : ℕ → Option Given → Event

-- these events, one after another, lead from one flow to another
abbrev pub IsRun : Flow → List Event → Flow → Type 0
IsRun old [] new = new ≡ old
IsRun old (put item ∷ rest) new = (mid : Flow) × (IsPut old mid item × IsRun mid rest new)
IsRun old (end ∷ rest) new = (mid : Flow) × (IsEnded old mid × IsRun mid rest new)
IsRun old (ask wanted (Some given) ∷ rest) new = (mid : Flow) × (IsFlowGiven old mid wanted given × IsRun mid rest new)
IsRun old (ask wanted None ∷ rest) new = Waits old.motion wanted × IsRun old rest new

-- what was put in
abbrev pub items_put : List Event → List Item
items_put [] = []
items_put (put item ∷ rest) = item ∷ items_put rest
items_put (end ∷ rest) = items_put rest
items_put (ask wanted answer ∷ rest) = items_put rest

-- what was given out
abbrev pub lines_given : List Event → List Given
lines_given [] = []
lines_given (put item ∷ rest) = lines_given rest
lines_given (end ∷ rest) = lines_given rest
lines_given (ask wanted (Some given) ∷ rest) = given ∷ lines_given rest
lines_given (ask wanted None ∷ rest) = lines_given rest

abbrev pub items_given : List Given → List Item
items_given [] = []
items_given (given ∷ rest) = given.line.item ∷ items_given rest

-- a line is passed, and the square goes on from what was left of it to what is left then
pub record IsPassed (start percent square : ℕ) (given : Given) (left : ℕ) : Type 0 where
  -- never sooner than in its own time, and in the time of its squares
  pub least : least_ns percent given.line.item ≤ given.ns
  pub time : IsTimeOf percent given.line given.from given.to given.ns
  -- nor sooner than at its two rates: a line between slower ones has their time
  pub rates : KeepsOwnRate percent given.line given.from given.to ⊎ IsNoSooner given.from given.to given.ns
  pub goes_on : 0 < square → given.from ≡ square
  pub starts : square ≡ 0 → given.from ≤ start_square given.line.ramp.up start
  pub within : given.from ≤ given.line.most
  pub ramp : IsRamp given.line.ramp given.from given.to
  -- everything stands still after a last line
  pub last : IsTrue given.line.last → given.to ≡ 0
  pub stops : (left ≡ given.to) ⊎ ((left ≡ 0) × (given.to ≤ start_square given.line.ramp.down start))

-- one line after another is passed so, from a square to another
abbrev pub ArePassed : ℕ → ℕ → ℕ → List Given → ℕ → Type 0
ArePassed start percent square [] left = left ≡ square
ArePassed start percent square (given ∷ rest) left
    = (next : ℕ) × (IsPassed start percent square given next × ArePassed start percent next rest left)

-- each line once, in order, and each is passed so, whatever was wanted and whenever lines came
pub record IsPacedBeginning (old : Flow) (events : List Event) (new : Flow) : Type 0 where
  pub order : all_items old ++ items_put events ≡ items_given (lines_given events) ++ all_items new
  pub passed : ArePassed old.motion.start old.motion.percent old.motion.square (lines_given events) new.motion.square

-- lines are asked for, and nothing else happens; some motion is wanted each time
abbrev pub AsksOnly : List Event → Type 0
AsksOnly [] = Unit {0}
AsksOnly (put item ∷ rest) = ⊥
AsksOnly (end ∷ rest) = ⊥
AsksOnly (ask wanted answer ∷ rest) = (0 < wanted) × AsksOnly rest

-- all that was known is given out, and everything stands still
pub record IsGivenOut (old : Flow) (events : List Event) (new : Flow) : Type 0 where
  pub all : items_given (lines_given events) ≡ all_items old
  pub rest : new.motion.square ≡ 0

-- lines are asked for, and nothing else happens; a hold goes on
abbrev pub HoldsOnly : List Event → Type 0
HoldsOnly [] = Unit {0}
HoldsOnly (put item ∷ rest) = ⊥
HoldsOnly (end ∷ rest) = ⊥
HoldsOnly (ask wanted answer ∷ rest) = (wanted ≡ 0) × HoldsOnly rest

-- at each line the square falls by the whole ramp
abbrev pub AreFalling : List Given → Type 0
AreFalling [] = Unit {0}
AreFalling (given ∷ rest) = (given.to ≤ given.from - given.line.ramp.down) × AreFalling rest

-- everything has come to rest as fast as may be
pub record IsStopped (events : List Event) (new : Flow) : Type 0 where
  pub falls : AreFalling (lines_given events)
  pub rest : new.motion.square ≡ 0
