use Rattle.std.proofs.Common.{arith, ◌*◌, ◌/◌, ◌≤◌, slice_index}
use Rattle.std.proofs.Math.Nat.{mul-div-le}
use Rattle.ng_pace.proofs.CapsLemmas.{three_quarters, most_full}
use Rattle.ng_pace.proofs.corner.axis_most.Goals as goal

pub returns-clause-quarter : goal.returns-clause-quarter
returns-clause-quarter c =
    let total : c.saturating_mul-2.result ≤ slice_index c.args.limits.now.accel c.args.axis * c.args.pulses * 1048576
    = omega (arith, c.saturating_mul-2.ensures, c.saturating_mul.ensures) in
    let respected : 4 * c.args.bend * c.saturating_mul-4.result ≤ 3 * (slice_index c.args.limits.now.accel c.args.axis * c.args.pulses * 1048576) * 65536
    = three_quarters c.args.bend (slice_index c.args.limits.now.accel c.args.axis * c.args.pulses * 1048576) (c.saturating_mul-2.result / c.args.bend)
    c.saturating_mul-4.result
    (omega (arith, mul-div-le c.saturating_mul-2.result c.args.bend)) (omega (arith, c.saturating_mul-3.ensures, c.saturating_mul-4.ensures)) in
    omega arith

pub returns-clause-full : goal.returns-clause-full
returns-clause-full c =
    most_full c.args.bend (slice_index c.args.limits.now.accel c.args.axis) c.args.pulses c.saturating_mul-2.result c.saturating_mul-3.result
    c.saturating_mul-4.result (omega arith) c.requires.bend
    (rw (← c.saturating_mul.ensures) c.saturating_mul-2.ensures) c.saturating_mul-3.ensures c.saturating_mul-4.ensures
