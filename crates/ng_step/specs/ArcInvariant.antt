-- The pulses of an arc as a model (own).
use Rattle.std.specs.Prelude.{◌≡◌, ◌-◌, ◌*◌, ◌^◌, ◌<◌, ◌≤◌, true, List}
use Rattle.ng_step.specs.declared.steps.AxisSteps.{AxisSteps}
use Rattle.ng_step.specs.declared.arc.ArcPulses.TheInside.{Inside}
use Rattle.ng_step.specs.Spread.{IsSpread}
use Rattle.ng_step.specs.Turned.{Walks, spot_of}
use Rattle.ng_step.specs.Arc.{pulses_from}

abbrev pub arc_left : Inside → List AxisSteps
arc_left a = pulses_from a.walk.frame a.total a.arc.count a.third.forward a.third.count a.walk.circle (spot_of a.walk) a.left

pub record IsArcLeft (a : Inside) : Type 0 where
  pub whole : a.whole ≡ 2 * a.total
  pub small : a.total < 2 ^ 61
  pub left : a.left ≤ a.total
  pub walks : Walks a.walk
  pub onward : a.arc.forward ≡ true
  pub arc : 0 < a.left → IsSpread a.total (a.total - a.left) a.arc
  pub third : 0 < a.left → IsSpread a.total (a.total - a.left) a.third
