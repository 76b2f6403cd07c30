use Rattle.std.proofs.Common.{arith, length, inl, inr}
use Rattle.ng_pace.proofs.PathStepLemmas.{along-path, joined-corner}
use Rattle.ng_pace.proofs.path.go_along.Goals as goal

pub returns-then-not-chord-clause-advances : goal.returns-then-not-chord-clause-advances
returns-then-not-chord-clause-advances g c = λ leg rest path some. elim path [
  | inl going ↦ along-path c.args.limits.now 0 c.args.chord.now c.args.pacer.now c.pass_along.new.pacer c.args.waiting.now.items c.pass_along.new.waiting.items
      leg rest c.slopes_ahead-slopes.result c.min-reserve.result
      going some (c.slopes_ahead-slopes.ensures.all c.args.limits.now.slack leg.pulses going.opened.cones)
      (c.slopes_ahead-slopes.ensures.reached c.args.limits.now.slack leg.pulses going.opened.cones some going.opened.straight)
      (omega (arith, c.min-reserve.ensures, going.opened.count)) (omega (arith, c.min-reserve.ensures, going.opened.count, some, c.requires.limits.half))
      c.pass_along.ensures.passes
  | inr joined ↦ let pending = joined-corner c.args.limits.now 0 c.args.chord.now (length c.args.waiting.now.items) leg rest joined in
      absurd (cc (pending, c.if-not-chord.true))
]
