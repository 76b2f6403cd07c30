use Rattle.std.proofs.Common.{arith}
use Rattle.ng_pace.proofs.CapsLemmas.{quarter-ramp, less-left}
use Rattle.ng_pace.proofs.corner.corner_ramp.Goals as goal

pub returns-clause-full : goal.returns-clause-full
returns-clause-full c =
    quarter-ramp c.args.limits.now c.args.slope.now c.axis_ramp-x.result c.axis_ramp-y.result c.axis_ramp-z.result c.min-2.result
    (cc (c.min-2.ensures, c.min.ensures))
    c.axis_ramp-x.ensures.full c.axis_ramp-y.ensures.full c.axis_ramp-z.ensures.full

pub returns-clause-left : goal.returns-clause-left
returns-clause-left c = record {
  x = less-left _ c.args.pulses c.axis_ramp-x.result c.min-2.result _ _ (omega arith) c.axis_ramp-x.ensures.left;
  y = less-left _ c.args.pulses c.axis_ramp-y.result c.min-2.result _ _ (omega arith) c.axis_ramp-y.ensures.left;
  z = less-left _ c.args.pulses c.axis_ramp-z.result c.min-2.result _ _ (omega arith) c.axis_ramp-z.ensures.left;
}
