use Rattle.std.proofs.Common.{arith, ◌*◌, ◌/◌, ◌≤◌, slice_index, min, inl}
use Rattle.std.proofs.lemmas.Nat.{mul-le}
use Rattle.std.proofs.Math.Nat.{mul-div-le}
use Rattle.ng_pace.proofs.CapsLemmas.{by_quotient, by_square, root_of}
use Rattle.ng_pace.proofs.caps.axis_along.Goals as goal
use Rattle.ng_pace.proofs.caps.axis_along.Goals.{then-limits-axis-eq0, else-limits-axis-eq0}

pub returns-clause-allowed : goal.returns-clause-allowed
returns-clause-allowed c = record {
  accel =
      let respected : c.args.slope * c.saturating_mul-2.result ≤ slice_index c.args.limits.now.accel c.args.axis * 2097152 * 65536
      = by_quotient c.args.slope c.saturating_mul-accel.result (slice_index c.args.limits.now.accel c.args.axis * 2097152)
      (c.saturating_mul-accel.result / c.args.slope) c.saturating_mul-2.result
      (mul-div-le c.saturating_mul-accel.result c.args.slope) (omega (arith, c.saturating_mul-accel.ensures)) (omega (arith, c.saturating_mul-2.ensures)) in
      omega arith;
  rate = λ some. elim c.if-limits-axis-eq0.branch [
    | then-limits-axis-eq0 w ↦ absurd (omega arith)
    | else-limits-axis-eq0 w ↦
        let capped : min (w.saturating_mul.result / c.args.slope) 2097152 * min (w.saturating_mul.result / c.args.slope) 2097152 ≤ w.saturating_mul.result /
        c.args.slope * (w.saturating_mul.result / c.args.slope)
        = mul-le (min (w.saturating_mul.result / c.args.slope) 2097152) (min (w.saturating_mul.result / c.args.slope) 2097152)
        (w.saturating_mul.result / c.args.slope) (w.saturating_mul.result / c.args.slope) (omega arith) (omega arith) in
        let part : c.args.slope * (w.saturating_mul.result / c.args.slope) ≤ slice_index c.args.limits.now.rate c.args.axis * 1048576
        = omega (arith, mul-div-le w.saturating_mul.result c.args.slope, w.saturating_mul.ensures) in
        let respected : c.args.slope * c.args.slope * c.if-limits-axis-eq0.most ≤ slice_index c.args.limits.now.rate c.args.axis * 1048576 *
        (slice_index c.args.limits.now.rate c.args.axis * 1048576) * 65536
        = by_square c.args.slope (slice_index c.args.limits.now.rate c.args.axis * 1048576) (w.saturating_mul.result / c.args.slope) c.if-limits-axis-eq0.most
        part
        (omega (arith, w.square_of-most.ensures.square, w.most-is, capped)) in
        omega arith
  ];
}

pub returns-then-slope-eq0-clause-rate : goal.returns-then-slope-eq0-clause-rate
returns-then-slope-eq0-clause-rate c = record { rate = 2097152; square = omega arith; full = inl (omega arith) }

pub returns-clause-rate : goal.returns-clause-rate
returns-clause-rate c = elim c.if-limits-axis-eq0.branch [
  | then-limits-axis-eq0 w ↦ record { rate = 2097152; square = omega (arith, w.most-is); full = inl (omega arith) }
  | else-limits-axis-eq0 w ↦ record {
    rate = min (w.saturating_mul.result / c.args.slope) 2097152;
    square = omega (arith, w.most-is, w.square_of-most.ensures.square);
    full = root_of c.args.slope w.saturating_mul.result (slice_index c.args.limits.now.rate c.args.axis) (omega arith) (omega arith)
        (omega (arith, w.saturating_mul.ensures, c.requires.rate));
  }
]
