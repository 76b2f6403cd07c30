use Rattle.std.proofs.Common.{arith}
use Rattle.ng_pace.proofs.CapsLemmas.{quarter_of, corner_of, full-corner, less-quarter}
use Rattle.ng_pace.proofs.corner.corner_caps.Goals as goal

pub corner_ramp-up-requires-clause-quarter : goal.corner_ramp-up-requires-clause-quarter
corner_ramp-up-requires-clause-quarter c = record {
  x = less-quarter _ _ c.max-most.result _ c.requires.up_less.x
      (quarter_of _ c.axis_most.result _ _ _ c.axis_most.ensures.quarter (omega arith) c.requires.bend.x c.requires.limits.accel.x c.requires.pulses);
  y = less-quarter _ _ c.max-most.result _ c.requires.up_less.y
      (quarter_of _ c.axis_most-2.result _ _ _ c.axis_most-2.ensures.quarter (omega arith) c.requires.bend.y c.requires.limits.accel.y c.requires.pulses);
  z = less-quarter _ _ c.max-most.result _ c.requires.up_less.z
      (quarter_of _ c.axis_most-3.result _ _ _ c.axis_most-3.ensures.quarter (omega arith) c.requires.bend.z c.requires.limits.accel.z c.requires.pulses);
}

pub corner_ramp-down-requires-clause-quarter : goal.corner_ramp-down-requires-clause-quarter
corner_ramp-down-requires-clause-quarter c = record {
  x = less-quarter _ _ c.max-most.result _ c.requires.down_less.x
      (quarter_of _ c.axis_most.result _ _ _ c.axis_most.ensures.quarter (omega arith) c.requires.bend.x c.requires.limits.accel.x c.requires.pulses);
  y = less-quarter _ _ c.max-most.result _ c.requires.down_less.y
      (quarter_of _ c.axis_most-2.result _ _ _ c.axis_most-2.ensures.quarter (omega arith) c.requires.bend.y c.requires.limits.accel.y c.requires.pulses);
  z = less-quarter _ _ c.max-most.result _ c.requires.down_less.z
      (quarter_of _ c.axis_most-3.result _ _ _ c.axis_most-3.ensures.quarter (omega arith) c.requires.bend.z c.requires.limits.accel.z c.requires.pulses);
}

pub returns-clause-up : goal.returns-clause-up
returns-clause-up c = record {
  x = corner_of c.args.limits.now 0 _ _ c.args.pulses c.max-most.result c.corner_ramp-up.result c.corner_ramp-up.result c.along.result.most c.corner_ramp-up.ensures.left.x (omega arith)
      c.along.ensures.allowed.x.rate (omega arith) c.requires.slope.x;
  y = corner_of c.args.limits.now 1 _ _ c.args.pulses c.max-most.result c.corner_ramp-up.result c.corner_ramp-up.result c.along.result.most c.corner_ramp-up.ensures.left.y (omega arith)
      c.along.ensures.allowed.y.rate (omega arith) c.requires.slope.y;
  z = corner_of c.args.limits.now 2 _ _ c.args.pulses c.max-most.result c.corner_ramp-up.result c.corner_ramp-up.result c.along.result.most c.corner_ramp-up.ensures.left.z (omega arith)
      c.along.ensures.allowed.z.rate (omega arith) c.requires.slope.z;
}

pub returns-clause-down : goal.returns-clause-down
returns-clause-down c = record {
  x = corner_of c.args.limits.now 0 _ _ c.args.pulses c.max-most.result c.corner_ramp-down.result c.corner_ramp-down.result c.along.result.most c.corner_ramp-down.ensures.left.x (omega arith)
      c.along.ensures.allowed.x.rate (omega arith) c.requires.slope.x;
  y = corner_of c.args.limits.now 1 _ _ c.args.pulses c.max-most.result c.corner_ramp-down.result c.corner_ramp-down.result c.along.result.most c.corner_ramp-down.ensures.left.y (omega arith)
      c.along.ensures.allowed.y.rate (omega arith) c.requires.slope.y;
  z = corner_of c.args.limits.now 2 _ _ c.args.pulses c.max-most.result c.corner_ramp-down.result c.corner_ramp-down.result c.along.result.most c.corner_ramp-down.ensures.left.z (omega arith)
      c.along.ensures.allowed.z.rate (omega arith) c.requires.slope.z;
}

pub returns-clause-most : goal.returns-clause-most
returns-clause-most c =
    full-corner c.args.limits.now c.args.bend.now.slope c.args.bend.now.bend c.args.pulses c.args.feed c.along.result.most c.axis_most.result
    c.axis_most-2.result c.axis_most-3.result c.max-most.result
    (cc (c.max-most.ensures, c.min-4.ensures, c.min-3.ensures, c.min-2.ensures, c.min.ensures)) c.along.ensures.rate c.axis_most.ensures.full
    c.axis_most-2.ensures.full c.axis_most-3.ensures.full
