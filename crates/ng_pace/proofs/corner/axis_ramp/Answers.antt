use Rattle.std.proofs.Common.{arith, ◌+◌, ◌*◌, ◌/◌, ◌≤◌, slice_index}
use Rattle.std.proofs.Math.Nat.{mul-div-le}
use Rattle.std.proofs.lemmas.Grind.{div_ceil_times}
use Rattle.ng_pace.proofs.CapsLemmas.{bent, takes_up, left_of}
use Rattle.ng_pace.proofs.corner.axis_ramp.Goals as goal

pub returns-clause-left : goal.returns-clause-left
returns-clause-left c =
    let whole : (c.args.most / 65536 + 1) * c.args.bend ≤ c.div_ceil.result * 1048576
    = rw c.div_ceil.ensures (div_ceil_times ((c.args.most / 65536 + 1) * c.args.bend) 1048576 (omega arith)).0 in
    let share : c.div_ceil.result ≤ c.div_ceil-used.result * c.args.pulses
    = rw c.div_ceil-used.ensures (div_ceil_times c.div_ceil.result c.args.pulses c.requires.pulses).0 in
    let up : (c.args.most / 65536 + 1) * c.args.bend ≤ c.div_ceil-used.result * (c.args.pulses * 1048576) = omega (arith, whole, share) in
    bent c.args.slope c.saturating_mul-2.result c.args.pulses c.args.bend c.args.most (slice_index c.args.limits.now.accel c.args.axis)
    (c.saturating_mul.result / c.args.slope) c.div_ceil-used.result c.max-left.result
    (omega (arith, mul-div-le c.saturating_mul.result c.args.slope, c.saturating_mul.ensures))
    (omega (arith, c.saturating_mul-2.ensures))
    (takes_up (c.args.most / 65536) c.args.most c.args.bend (c.args.pulses * 1048576) c.div_ceil-used.result (c.args.pulses * 1048576) (omega arith) up
    (omega arith))
    (omega (arith, c.requires.quarter))
    (left_of (slice_index c.args.limits.now.accel c.args.axis) c.div_ceil-used.result c.max-left.result (rw (← c.saturating_sub.ensures) c.max-left.ensures))
