use Rattle.std.proofs.Common.{arith, rules, ◌≡◌, ◌-◌, length, deque_len}
use Rattle.ng_pace.proofs.ExactLemmas.{allow-along}
use Rattle.ng_pace.proofs.path.pass_along.Goals as goal

pub returns-clause-passes : goal.returns-clause-passes
returns-clause-passes g c =
    let len : deque_len c.args.waiting.now ≡ length c.args.waiting.now.items = search rules in
    let count : c.saturating_sub-count.result ≡ length c.args.waiting.now.items - c.args.reserve
    = omega (arith, c.saturating_sub-count.ensures, c.len.ensures, len) in
    record {
      most = c.along-caps.result.most;
      ramp = c.along-caps.result.ramp;
      allowed = allow-along c.args.limits.now c.args.slopes.now c.sizes.result c.along-caps.result.most c.along-caps.result.ramp c.sizes.ensures.most
          c.along-caps.ensures.allowed;
      full = record {
        sizes = c.sizes.result;
        sizes_are = c.sizes.ensures.exact;
        rate = c.along-caps.ensures.rate;
        accel = c.along-caps.ensures.ramp;
      };
      makes = rw (count, c.of_lines.ensures.most, c.of_lines.ensures.ramp) at c.settle.ensures.makes;
    }
