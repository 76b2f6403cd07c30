use Rattle.std.proofs.Common.{arith}
use Rattle.ng_pace.proofs.CapsLemmas.{near_less, most-pulses}
use Rattle.ng_pace.proofs.corner.corner_pulses.Goals as goal

pub returns-clause-near : goal.returns-clause-near
returns-clause-near c = record {
  x = near_less c.args.limits.now 0 _ _ c.axis_pulses.result _ (omega arith) c.axis_pulses.ensures.near;
  y = near_less c.args.limits.now 1 _ _ c.axis_pulses-2.result _ (omega arith) c.axis_pulses-2.ensures.near;
  z = near_less c.args.limits.now 2 _ _ c.axis_pulses-3.result _ (omega arith) c.axis_pulses-3.ensures.near;
}

pub returns-clause-most : goal.returns-clause-most
returns-clause-most c =
    most-pulses c.args.limits.now c.args.bend.now c.args.before c.args.after c.saturating_mul.result c.axis_pulses.result c.axis_pulses-2.result
    c.axis_pulses-3.result c.min-5.result
    (cc (c.min-5.ensures, c.min-4.ensures, c.min-3.ensures, c.max.ensures, c.min-2.ensures, c.min.ensures)) c.saturating_mul.ensures
    c.axis_pulses.ensures.most c.axis_pulses-2.ensures.most c.axis_pulses-3.ensures.most
