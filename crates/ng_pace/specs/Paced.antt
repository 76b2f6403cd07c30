-- What the pacer promises of each line.
use Rattle.std.specs.Prelude.{ℕ, ◌<◌, ◌≤◌, ◌≡◌, ◌==◌, ◌&&◌, ◌⊎◌, nat_le, [], ◌∷◌, if◌then◌else◌}
use Rattle.ng_pace.specs.declared.line.Line.{Line}
use Rattle.ng_pace.specs.declared.stepping.Given.{Given}
use Rattle.ng_pace.specs.Due.{least_ns}
use Rattle.ng_pace.specs.Pacer.{Motion}
use Rattle.ng_pace.specs.Rest.{CanRest}
use Rattle.ng_pace.specs.Stepping.{start_square, IsHasty}
use Rattle.ng_pace.specs.Interval.{IsTimeOf}

-- what is left of a square after a line: nothing, where a rest is wanted and motors can stop at once
abbrev pub rest_of : Line → ℕ → ℕ → ℕ → ℕ
rest_of line to start wanted = if (wanted == 0) && nat_le to (start_square line.ramp.down start) then 0 else to

-- a line is given out
pub record IsGiven (old new : Motion) (wanted : ℕ) (given : Given) : Type 0 where
  -- order: it is the first that was known, and the others are still known
  pub order : old.known ≡ given.line ∷ new.known
  -- from rest a line is given out only if some motion is wanted
  pub moves : (0 < old.square) ⊎ (0 < wanted)
  -- never sooner than its own time, and at the time of its squares
  pub least : least_ns old.percent given.line.item ≤ given.ns
  pub time : IsTimeOf old.percent given.line given.from given.to given.ns
  -- the square goes on from what was left of it, and is none that the line doesn't allow
  pub goes_on : 0 < old.square → given.from ≡ old.square
  pub within : given.from ≤ given.line.most
  -- the square after it is within the ramp, falls by all of it while less is wanted, and is as great as may be
  pub hasty : IsHasty given.line old.square old.start wanted given.from given.to new.known
  pub left : new.square ≡ rest_of given.line given.to old.start wanted
  -- a rest can be reached, whatever comes
  pub rests : CanRest new.square new.known
  pub start : new.start ≡ old.start
  pub percent : new.percent ≡ old.percent
  pub capacity : new.capacity ≡ old.capacity

-- nothing is to be given out: no line is known, or it is at rest and is to be
abbrev pub Waits : Motion → ℕ → Type 0
Waits motion wanted = (motion.known ≡ []) ⊎ ((motion.square ≡ 0) × (wanted ≡ 0))
