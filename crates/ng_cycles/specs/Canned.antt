-- What is true of a valid canned cycle.
use Rattle.std.specs.Prelude.{◌≤◌, ◌<◌, pos, ◌≤ℤ◌, ◌+ℤ◌}
use Rattle.std.specs.Int.{int_max}
use Rattle.ng_num.specs.Range.{IsCount}
use Rattle.ng_cycles.specs.declared.drill.Drill.{Drill}
use Rattle.ng_cycles.specs.declared.drill.Work.{Work}
use Rattle.ng_cycles.specs.declared.drill.Work.TheVariants.{PeckDrilling}
use Rattle.ng_cycles.specs.Strokes.{coordinate}

-- a peck goes down
abbrev pub IsDeep : Work → Type 0
IsDeep (PeckDrilling peck) = 0 < peck
IsDeep _ = Unit {0}

-- it has a hole for each repeat, the last one in range, and R is above Z
pub record IsMade (d : Drill) : Type 0 where
  pub some : 1 ≤ d.repeats
  pub x : IsCount (coordinate d.x d.repeats)
  pub y : IsCount (coordinate d.y d.repeats)
  pub deep : IsDeep d.work
  pub above : d.z ≤ℤ d.r
  pub above_r : d.r ≤ℤ d.clear
  pub below_top : d.clear ≤ℤ int_max d.start.z d.r

-- and it fits a travel that a machine can have
pub record IsCanned (d : Drill) : Type 0 where
  pub made : IsMade d
  pub near : d.r ≤ℤ (d.z +ℤ pos 20_000_000_000)
