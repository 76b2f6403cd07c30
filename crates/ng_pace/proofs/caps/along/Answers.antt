use Rattle.std.proofs.Common.{arith}
use Rattle.ng_pace.proofs.CapsLemmas.{along_less, full-rate}
use Rattle.ng_pace.proofs.caps.along.Goals as goal

pub returns-clause-allowed : goal.returns-clause-allowed
returns-clause-allowed c = record {
  x = along_less _ _ _ _ c.axis_along-x.result.most c.axis_along-x.result.ramp _ _ (omega arith) (omega arith) c.axis_along-x.ensures.allowed;
  y = along_less _ _ _ _ c.axis_along-y.result.most c.axis_along-y.result.ramp _ _ (omega arith) (omega arith) c.axis_along-y.ensures.allowed;
  z = along_less _ _ _ _ c.axis_along-z.result.most c.axis_along-z.result.ramp _ _ (omega arith) (omega arith) c.axis_along-z.ensures.allowed;
}

pub returns-clause-rate : goal.returns-clause-rate
returns-clause-rate c =
    full-rate c.args.limits.now c.args.slope.now c.axis_along-x.result.most c.axis_along-y.result.most c.axis_along-z.result.most c.both-2.result.most
    (cc (c.both.ensures.most, c.both-2.ensures.most)) c.axis_along-x.ensures.rate c.axis_along-y.ensures.rate c.axis_along-z.ensures.rate
