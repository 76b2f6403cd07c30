-- Lines that are being carried out.
use Rattle.std.specs.Prelude.{ℕ, ◌^◌, ◌<◌, ◌≤◌, List}
use Rattle.ng_pace.specs.declared.line.Line.{Line}
use Rattle.ng_pace.specs.declared.planning.Slot.{Slot}
use Rattle.ng_pace.specs.Planning.{IsPlan, ahead}
use Rattle.ng_pace.specs.Due.{IsPercent}
use Rattle.ng_pace.specs.Interval.{IsRoot}

pub record Motion : Type 0 where
  -- the lines that are known and not given out
  pub known : List Line
  -- the square at which the first of them will be passed; 0 at rest
  pub square : ℕ
  -- the distance over which motors start and stop at once, in parts of 256 of a step
  pub start : ℕ
  -- at how many percent of the controller's rates the own times are
  pub percent : ℕ
  -- most lines that may be known
  pub capacity : ℕ

-- so many lines are planned, the square is within the plan, and the root of the square that was reached is known
pub record IsSteady (slots : List Slot) (square percent planned reached root : ℕ) : Type 0 where
  pub plan : IsPlan planned slots
  pub within : square ≤ ahead slots
  pub is_percent : IsPercent percent
  pub is_root : IsRoot reached root
  pub size : root < 2 ^ 32
