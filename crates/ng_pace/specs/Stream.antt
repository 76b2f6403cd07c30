-- A stream of items: those of whose lines the motion is planned, and those that wait since their limits aren't final.
use Rattle.std.specs.Prelude.{ℕ, ◌+◌, ◌^◌, ◌≤◌, ◌≡◌, min, List, [], ◌∷◌, ◌++◌, length, false}
use Rattle.ng_canon.specs.declared.item.Item.{Item}
use Rattle.ng_canon.specs.declared.item.Item.TheVariants.{Pulse, Dwell, Switch}
use Rattle.ng_pace.specs.declared.line.Line.{Line}
use Rattle.ng_pace.specs.declared.limits.Limits.{Limits}
use Rattle.ng_pace.specs.declared.chord.Chord.{Chord}
use Rattle.ng_pace.specs.declared.chord.Waiting.{Waiting}
use Rattle.ng_pace.specs.Axes.{AreLimits}
use Rattle.ng_pace.specs.WaitingPulses.{WaitFew, WaitSome}
use Rattle.ng_pace.specs.Pacer.{Motion}
use Rattle.ng_pace.specs.Due.{own_square}
use Rattle.ng_pace.specs.Rest.{CanRest, StandsBehind, either_way}

-- an item, and the square of the rate at which it comes in its own time
pub record Timed : Type 0 where
  pub item : Item
  pub full : ℕ

-- items that are known and not given out: the lines of the first are known, the others wait
pub record Flow : Type 0 where
  pub motion : Motion
  pub waiting : List Timed
  -- the square of the pulse that was put in last; 2^58, above all of them, if none was since the last stop
  pub before : ℕ
  -- what the motors allow, and the chord that is open
  pub limits : Limits
  pub chord : Chord

abbrev pub items_of : List Line → List Item
items_of [] = []
items_of (line ∷ rest) = line.item ∷ items_of rest

abbrev pub items_waiting : List Timed → List Item
items_waiting [] = []
items_waiting (timed ∷ rest) = timed.item ∷ items_waiting rest

-- all items that are known and not given out, in order
abbrev pub all_items : Flow → List Item
all_items flow = items_of flow.motion.known ++ items_waiting flow.waiting

abbrev pub no_pulse : ℕ
no_pulse = 2 ^ 58

-- between two pulses the rate is no more than either's own; at all else everything stands still
abbrev pub full_of : ℕ → ℕ → Item → ℕ
full_of percent before (Pulse pulse) = min (own_square percent pulse.period_us) before
full_of percent before (Dwell us) = 0
full_of percent before (Switch outputs) = 0

abbrev pub square_behind : ℕ → Item → ℕ
square_behind percent (Pulse pulse) = own_square percent pulse.period_us
square_behind percent (Dwell us) = no_pulse
square_behind percent (Switch outputs) = no_pulse

abbrev pub timed_lines : List Line → List Timed
timed_lines [] = []
timed_lines (line ∷ rest) = (record { item = line.item; full = line.full }) ∷ timed_lines rest

abbrev pub timed_waiting : List Waiting → List Timed
timed_waiting [] = []
timed_waiting (w ∷ rest) = (record { item = w.item; full = w.feed }) ∷ timed_waiting rest

-- no line is passed faster than in its own time
abbrev pub AreOwn : List Line → Type 0
AreOwn [] = Unit {0}
AreOwn (line ∷ rest) = (line.most ≤ line.full) × AreOwn rest

-- of the items that waited the first are known as lines now, behind those that were known; the others wait; the motion
-- is the same
pub record Settles (old new : Motion) (waited waits : List Timed) : Type 0 where
  pub settled : List Line
  pub known : new.known ≡ old.known ++ settled
  pub order : timed_lines settled ++ waits ≡ waited
  pub own : AreOwn settled
  pub square : new.square ≡ old.square
  pub start : new.start ≡ old.start
  pub percent : new.percent ≡ old.percent
  pub capacity : new.capacity ≡ old.capacity

-- the line of an item at which everything stands still
abbrev pub still_line : Item → Line
still_line item = record { item = item; full = 0; most = 0; ramp = either_way 0; last = false }

-- such an item is known at once as a line, and nothing waits
pub record StandsLast (known : List Line) (waits : List Timed) (item : Item) : Type 0 where
  pub lines : List Line
  pub last : known ≡ lines ++ still_line item ∷ []
  pub none : waits ≡ []

-- everything stands still at a dwell and at a switch
abbrev pub StandsAt : List Line → List Timed → Item → Type 0
StandsAt known waits (Pulse pulse) = Unit {0}
StandsAt known waits (Dwell us) = StandsLast known waits (Dwell us)
StandsAt known waits (Switch outputs) = StandsLast known waits (Switch outputs)

-- all that is known fits, its limits can be met, a rest can be reached, and few items wait; where none
-- waits, everything stands still behind what is known
pub record IsHeld (motion : Motion) (waiting : List Waiting) (capacity start : ℕ) (limits : Limits) (chord : Chord) : Type 0 where
  pub fits : length motion.known + length waiting ≤ motion.capacity
  pub capacity_is : capacity ≡ motion.capacity
  pub start_is : start ≡ motion.start
  pub limits_are : AreLimits limits
  pub rests : CanRest motion.square motion.known
  pub few : WaitFew limits chord (length waiting)
  pub some : WaitSome chord (length waiting)
  pub stands : waiting ≡ [] → StandsBehind motion.known

-- limits of waiting items became final; so many items are known as before
pub record Keeps (old new : Motion) (waited waits : List Waiting) : Type 0 where
  pub settles : Settles old new (timed_waiting waited) (timed_waiting waits)
  pub count : length new.known + length waits ≡ length old.known + length waited

-- the same, where one more item came
pub record Adds (old new : Motion) (waited waits : List Waiting) (timed : Timed) : Type 0 where
  pub settles : Settles old new (timed_waiting waited ++ timed ∷ []) (timed_waiting waits)
  pub count : length new.known + length waits ≡ length old.known + length waited + 1
