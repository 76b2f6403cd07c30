use Rattle.std.proofs.Common.{arith, ◌∙◌}
use Rattle.ng_pace.specs.Making.{stop_of}
use Rattle.ng_pace.proofs.FinalLimitLemmas.{keeps_on, marks_on}
use Rattle.ng_pace.proofs.MakingLemmas.{makes-more}
use Rattle.ng_pace.proofs.settling.settle.Goals as goal

pub settle_one-requires : goal.settle_one-requires
settle_one-requires g c = omega (arith, c.requires, c.loop-k.invariant.keeps.count, c.loop-k.invariant.keeps.settles.capacity)

pub loop-k-preserved : goal.loop-k-preserved
loop-k-preserved g c = record {
  keeps = keeps_on c.loop-k.invariant.keeps c.settle_one.ensures.keeps;
  capacity = c.settle_one.ensures.capacity ∙ c.loop-k.invariant.capacity;
  marks = marks_on c.loop-k.invariant.marks c.settle_one.ensures.keeps c.settle_one.ensures.marks;
  makes = makes-more c.args.pacer.now c.loop-k.pacer c.settle_one.new.pacer c.args.waiting.now.items c.loop-k.waiting.items c.settle_one.new.waiting.items
      c.args.limits.most c.args.limits.ramp (stop_of c.args.ending) c.loop-k.k c.loop-k.invariant.makes (c.settle_one.ensures.makes c.if-not-settle_one.false);
}

pub returns-then-not-settle_one-clause-marks : goal.returns-then-not-settle_one-clause-marks
returns-then-not-settle_one-clause-marks g c = marks_on c.loop-k.invariant.marks c.settle_one.ensures.keeps c.settle_one.ensures.marks
