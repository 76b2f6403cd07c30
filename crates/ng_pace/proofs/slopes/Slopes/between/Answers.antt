use Rattle.std.proofs.Common.{arith, ◌≡◌, ◌+◌, ◌*◌}
use Rattle.std.proofs.Math.Nat.{div-mul-le_self, lt-div-mul-add}
use Rattle.std.proofs.lemmas.Grind.{div_ceil_times}
use Rattle.ng_pace.proofs.SlopeLemmas.{from_parts, up_to_parts, reached}
use Rattle.ng_pace.proofs.slopes.Slopes.between.Goals as goal

pub returns-clause-all : goal.returns-clause-all
returns-clause-all c = λ low high slope is from up_to.
    let least_over : c.max.result ≡ c.args.low.pulses = omega (arith, c.max.ensures) in
    let greatest_over : c.max-2.result ≡ c.args.high.pulses = omega (arith, c.max-2.ensures) in
    record {
      from = from_parts c.args.low.steps c.args.low.pulses _ slope.over slope.down (slope.up + slope.over) low
          (rw least_over (div-mul-le_self (c.args.low.steps * 1048576) c.args.low.pulses)) from;
      up_to = up_to_parts c.args.high.steps c.args.high.pulses _ slope.over slope.down (slope.up + slope.over) high
          (rw (c.div_ceil.ensures, greatest_over) (div_ceil_times (c.args.high.steps * 1048576) c.args.high.pulses high).0) up_to;
    }

pub returns-clause-reached : goal.returns-clause-reached
returns-clause-reached c = λ low high slope is from up_to.
    let least_over : c.max.result ≡ c.args.low.pulses = omega (arith, c.max.ensures) in
    let greatest_over : c.max-2.result ≡ c.args.high.pulses = omega (arith, c.max-2.ensures) in
    reached c.args.low c.args.high _ slope low high
    (rw least_over (div-mul-le_self (c.args.low.steps * 1048576) c.args.low.pulses))
    (rw least_over (lt-div-mul-add low))
    (rw (c.div_ceil.ensures, greatest_over) (div_ceil_times (c.args.high.steps * 1048576) c.args.high.pulses high).0)
    (rw (c.div_ceil.ensures, greatest_over) (div_ceil_times (c.args.high.steps * 1048576) c.args.high.pulses high).1) is from up_to
