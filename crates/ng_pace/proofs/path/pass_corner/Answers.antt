use Rattle.std.proofs.Common.{arith, rules, ◌≡◌, ◌-◌, ◌/◌, length, deque_len}
use Rattle.ng_pace.proofs.ExactLemmas.{allow-along, takes-corner}
use Rattle.ng_pace.proofs.FeedLemmas.{made-feeds}
use Rattle.ng_pace.proofs.FinalLimitLemmas.{marks_on}
use Rattle.ng_pace.proofs.path.pass_corner.Goals as goal

pub returns-clause-passes : goal.returns-clause-passes
returns-clause-passes g c =
    let len : deque_len c.args.waiting.now ≡ length c.args.waiting.now.items = search rules in
    let count : c.saturating_sub-count.result ≡ length c.args.waiting.now.items - c.args.chord.now.pulses - c.corner_pulses-pulses.result / 2
    = omega (arith, c.saturating_sub-count.ensures, c.saturating_sub.ensures, c.len.ensures, len) in
    record {
      mid = c.settle.new.pacer;
      left = c.settle.new.waiting.items;
      pulses = c.corner_pulses-pulses.result;
      some = c.corner_pulses-pulses.ensures.some;
      before_few = c.corner_pulses-pulses.ensures.before;
      after_few = c.corner_pulses-pulses.ensures.after;
      half = c.corner_pulses-pulses.ensures.half;
      before_most = c.along-before.result.most;
      before_ramp = c.along-before.result.ramp;
      before_allowed = allow-along c.args.limits.now c.args.chord.now.before c.sizes.result c.along-before.result.most c.along-before.result.ramp
          c.sizes.ensures.most c.along-before.ensures.allowed;
      before_full = record {
        sizes = c.sizes.result;
        sizes_are = c.sizes.ensures.exact;
        rate = c.along-before.ensures.rate;
        accel = c.along-before.ensures.ramp;
      };
      first = rw (count, c.of_lines.ensures.most, c.of_lines.ensures.ramp) at c.settle.ensures.makes;
      most = c.corner_caps-caps.result.most;
      ramp = c.corner_caps-caps.result.ramp;
      takes = takes-corner c.args.limits.now c.args.chord.now.before c.args.after.now c.between-bend.result.slope c.between-bend.result.bend c.between-bend.result.up
          c.between-bend.result.down
          c.corner_pulses-pulses.result c.corner_caps-caps.result.most c.corner_caps-caps.result.ramp
          c.between-bend.ensures.most c.corner_pulses-pulses.ensures.near c.between-bend.ensures.pulls_up c.between-bend.ensures.pulls_down
          c.corner_caps-caps.ensures.up c.corner_caps-caps.ensures.down;
      then = c.settle-2.ensures.makes;
      feed = c.greatest_feed-feed.result;
      feeds = λ k d short. made-feeds c.args.pacer.now c.settle.new.pacer c.settle-2.new.pacer c.args.waiting.now.items c.settle.new.waiting.items
          c.settle-2.new.waiting.items _ _ _ _ _ _ c.saturating_sub-count.result c.corner_pulses-pulses.result
          c.saturating_add.result c.greatest_feed-feed.result
          c.settle.ensures.keeps c.settle.ensures.makes c.settle-2.ensures.keeps c.settle-2.ensures.makes c.saturating_add.ensures
          (omega (arith, c.len.ensures, len)) c.greatest_feed-feed.ensures k d short;
      full = record {
        sizes = c.between-bend.result.slope;
        bends = c.between-bend.result.bend;
        sizes_are = c.between-bend.ensures.sizes;
        bends_are = c.between-bend.ensures.bends;
        longest = c.corner_pulses-pulses.ensures.most;
        square = c.corner_caps-caps.ensures.most;
        up = c.corner_caps-caps.ensures.quarter_up;
        down = c.corner_caps-caps.ensures.quarter_down;
      };
    }

pub returns-clause-marks : goal.returns-clause-marks
returns-clause-marks g c = marks_on c.settle.ensures.marks c.settle-2.ensures.keeps c.settle-2.ensures.marks
