-- Lines that are made of items that wait.
use Rattle.std.specs.Prelude.{ℕ, ◌+◌, ◌*◌, ◌/◌, ◌^◌, ◌<◌, ◌≤◌, ◌≡◌, min, List, [], ◌++◌, length, slice_index_or}
use Rattle.std.specs.Prelude.{All}
use Rattle.ng_pace.specs.declared.line.Line.{Line}
use Rattle.ng_pace.specs.declared.line.Ramp.{Ramp}
use Rattle.ng_pace.specs.Legs.{IsRampWithin, least_ramp}
use Rattle.ng_pace.specs.declared.chord.Waiting.{Waiting}
use Rattle.ng_pace.specs.declared.settling.Ending.{Ending}
use Rattle.ng_pace.specs.declared.settling.Ending.TheVariants.{GoesOn, Ends}
use Rattle.ng_pace.specs.Pacer.{Motion}
use Rattle.ng_pace.specs.Rest.{IsMarked}

-- a rate at which motors stop at once, in parts of 256 of the ramp; 0 where they go on
abbrev pub stop_of : Ending → ℕ
stop_of GoesOn = 0
stop_of (Ends stop) = stop

-- a line has no more than these; where everything stands still after it, its ramp down may be a rate at which motors
-- stop at once
pub record IsWithin (most : ℕ) (ramp : Ramp) (stop : ℕ) (line : Line) : Type 0 where
  pub most_is : line.most ≤ most
  pub ramp_is : IsRampWithin ramp stop line

-- a line has all of these, as far as its own rate goes
pub record HasAll (most : ℕ) (ramp : Ramp) (line : Line) : Type 0 where
  pub most_is : line.most ≡ min most line.full
  pub ramp_is : line.ramp ≡ least_ramp ramp

-- the ramp of a line behind which this comes
abbrev pub ramp_at : Ending → Ramp → Ramp
ramp_at GoesOn ramp = least_ramp ramp
ramp_at (Ends stop) ramp = record { up = min ramp.up (2 ^ 58); down = min (min ramp.down (2 ^ 58) / 256 * stop) (2 ^ 58) }

-- so many lines are made of the first items that wait, or of all
pub record Makes (old new : Motion) (waited waits : List Waiting) (most : ℕ) (ramp : Ramp) (stop count : ℕ) : Type 0 where
  pub made : List Line
  pub known : new.known ≡ old.known ++ made
  pub each : All (IsWithin most ramp stop) made
  -- all but the last of what waited
  pub full : (k : ℕ) (d : Line) → k < length made → k + 1 < length waited → HasAll most ramp (slice_index_or made k d)
  pub count_is : length made ≡ min count (length waited)
  pub rest : length waits + length made ≡ length waited

-- everything stands still then
abbrev pub IsEnd : Ending → Type 0
IsEnd GoesOn = ⊥
IsEnd (Ends stop) = Unit {0}

-- where everything stands still then, and lines were made of all that waited, the last one is marked
pub record Marks (ending : Ending) (known : List Line) (waited waits : List Waiting) : Type 0 where
  pub marked : IsEnd ending → 0 < length waited → waits ≡ [] → IsMarked known
