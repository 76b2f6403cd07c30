use Rattle.std.proofs.Common.{arith, refl, ◌/◌, slice_index}
use Rattle.std.proofs.Math.Nat.{mul-div-le, div-mul-le_self}
use Rattle.ng_pace.proofs.CapsLemmas.{near_of, far_of}
use Rattle.ng_pace.proofs.corner.axis_pulses.Goals as goal

pub returns-clause-near : goal.returns-clause-near
returns-clause-near c =
    let is = c.max.ensures in
    rw is (near_of c.args.limits.now c.args.axis c.args.bend _ _ (c.saturating_mul-2.result / slice_index c.args.limits.now.accel c.args.axis)
    (omega (arith, mul-div-le c.saturating_mul.result c.args.bend, c.saturating_mul.ensures))
    (omega (arith, mul-div-le c.saturating_mul-3.result c.args.bend, c.saturating_mul-3.ensures))
    (omega (arith, div-mul-le_self c.saturating_mul-2.result (slice_index c.args.limits.now.accel c.args.axis), c.saturating_mul-2.ensures)))

pub returns-clause-most : goal.returns-clause-most
returns-clause-most c =
    let is = c.max.ensures in
    rw is (far_of c.args.limits.now c.args.axis c.args.bend c.saturating_mul.result c.saturating_mul-2.result c.saturating_mul-3.result _ _ (omega arith)
    c.requires.bend (omega (arith, c.requires.accel)) c.requires.accel_at_most c.saturating_mul.ensures c.saturating_mul-2.ensures c.saturating_mul-3.ensures
    refl refl)
