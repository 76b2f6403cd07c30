use Rattle.std.proofs.Common.{arith}
use Rattle.ng_pace.proofs.PathStepLemmas.{decide-path, path-stays}
use Rattle.ng_pace.proofs.path.decide.Goals as goal

pub returns-then-chord-saturating_mul-clause-advances : goal.returns-then-chord-saturating_mul-clause-advances
returns-then-chord-saturating_mul-clause-advances g c = λ leg rest path some.
    decide-path c.args.limits.now 0 c.args.chord.now _ c.args.pacer.now c.pass_corner.new.pacer c.args.waiting.now.items c.pass_corner.new.waiting.items leg
    rest c.slopes_ahead-slopes.result
    path c.if-chord.true some c.requires.limits.half (λ opened. c.slopes_ahead-slopes.ensures.all c.args.limits.now.slack leg.pulses opened.cones)
    (λ opened. c.slopes_ahead-slopes.ensures.reached c.args.limits.now.slack leg.pulses opened.cones some opened.straight)
    (λ opened. omega (arith, c.saturating_mul.ensures, c.if-chord-saturating_mul.true, opened.count, opened.few))
    c.pass_corner.ensures.passes c.pass_corner.ensures.chord

pub returns-else-chord-clause-advances : goal.returns-else-chord-clause-advances
returns-else-chord-clause-advances g c = λ leg rest path some. path-stays c.args.limits.now 0 c.args.chord.now c.args.pacer.now _ leg rest path some
