-- What a stream promises of each call.
use Rattle.std.specs.Prelude.{ℕ, ◌+◌, ◌*◌, ◌<◌, ◌≡◌, List, [], ◌∷◌, ◌++◌, length}
use Rattle.ng_canon.specs.declared.item.Item.{Item}
use Rattle.ng_pace.specs.declared.limits.Limits.{Limits}
use Rattle.ng_pace.specs.declared.stepping.Given.{Given}
use Rattle.ng_pace.specs.Axes.{AreLimits, IsStop}
use Rattle.ng_pace.specs.Start.{start_of}
use Rattle.ng_pace.specs.Rest.{CanRest, StandsBehind, IsMarked}
use Rattle.ng_pace.specs.Paced.{IsGiven}
use Rattle.ng_pace.specs.Stream.{Flow, Settles, StandsAt, all_items, full_of, square_behind, no_pulse}
use Rattle.ng_pace.specs.Legs.{Leg}
use Rattle.ng_pace.specs.Putting.{IsUnderway, GoesOnWith, Rests}

-- at rest, with nothing known, and capacity for so many items
pub record IsEmpty (flow : Flow) (limits : Limits) (capacity : ℕ) : Type 0 where
  pub known : flow.motion.known ≡ []
  pub waiting : flow.waiting ≡ []
  pub rest : flow.motion.square ≡ 0
  pub before : flow.before ≡ no_pulse
  pub start : flow.motion.start ≡ start_of limits
  pub stops : IsStop limits flow.motion.start
  pub percent : flow.motion.percent ≡ limits.most_percent
  pub capacity_is : flow.motion.capacity ≡ capacity
  pub limits_are : flow.limits ≡ limits
  pub can_be_met : AreLimits limits
  pub underway : IsUnderway flow []

-- an item is put in, behind all that are known
pub record IsPut (old new : Flow) (item : Item) : Type 0 where
  pub items : all_items new ≡ all_items old ++ item ∷ []
  pub settles : Settles old.motion new.motion (old.waiting ++ (record { item = item; full = full_of old.limits.most_percent old.before item }) ∷ []) new.waiting
  pub stands : StandsAt new.motion.known new.waiting item
  pub before : new.before ≡ square_behind old.limits.most_percent item
  pub rests : CanRest new.motion.square new.motion.known
  pub limits : new.limits ≡ old.limits
  -- few items wait
  pub few : length new.waiting < 5 * new.limits.half + 15
  -- the chords of the pulses go on with it, and the lines keep to them
  pub path : (legs : List Leg) → IsUnderway old legs → GoesOnWith old new legs item

-- nothing more is known to come: no item waits
pub record IsEnded (old new : Flow) : Type 0 where
  pub items : all_items new ≡ all_items old
  pub settles : Settles old.motion new.motion old.waiting []
  pub none : new.waiting ≡ []
  -- everything stands still behind all that is known, and what is put in later begins from rest: of what waited the
  -- last is marked
  pub stands : StandsBehind new.motion.known
  pub marked : 0 < length old.waiting → IsMarked new.motion.known
  pub before : new.before ≡ no_pulse
  pub rests : CanRest new.motion.square new.motion.known
  pub limits : new.limits ≡ old.limits
  -- the chords of the pulses come to rest at their end
  pub path : (legs : List Leg) → IsUnderway old legs → Rests old new legs []

-- a line is given out
pub record IsFlowGiven (old new : Flow) (wanted : ℕ) (given : Given) : Type 0 where
  pub items : all_items old ≡ given.line.item ∷ all_items new
  pub given_out : IsGiven old.motion new.motion wanted given
  pub waiting : new.waiting ≡ old.waiting
  pub before : new.before ≡ old.before
  pub limits : new.limits ≡ old.limits
  pub chord : new.chord ≡ old.chord
