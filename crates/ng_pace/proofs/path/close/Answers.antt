use Rattle.std.proofs.Common.{arith, ap, ◌∙◌, ◌∷◌, length}
use Rattle.ng_pace.specs.Making.{stop_of}
use Rattle.ng_pace.specs.Legs.{pulses_of, lines_of}
use Rattle.ng_pace.proofs.PathStepLemmas.{along-reach, path-opened}
use Rattle.ng_pace.proofs.path.close.Goals as goal

pub returns-clause-closes : goal.returns-clause-closes
returns-clause-closes g c = λ leg rest path some small.
    let opened = path-opened c.args.limits.now (stop_of c.args.ending) c.args.chord.now (length c.args.waiting.now.items) leg rest path in
    let are = c.slopes-slopes.ensures.are c.args.limits.now.slack leg.pulses opened.cones opened.count some in
    let greatest = c.slopes-slopes.ensures.reached c.args.limits.now.slack leg.pulses opened.cones opened.count some opened.straight in
    let reached = c.decide_at_end.ensures.reaches leg rest path some are greatest in
    let both = along-reach c.args.limits.now (stop_of c.args.ending) c.args.pacer.now c.decide_at_end.new.pacer c.pass_along.new.pacer
    c.decide_at_end.new.waiting.items c.pass_along.new.waiting.items
    leg.pulses (pulses_of (leg ∷ rest)) (lines_of (leg ∷ rest)) c.slopes-slopes.result c.args.reserve reached.0 are
    greatest c.requires.limits.half some
    c.pass_along.ensures.passes
    (omega (arith, small, reached.1)) in (
      both.0,
      record {
        waits_are = both.1;
        before_is = c.close.ensures.slopes c.args.limits.now.slack leg.pulses (rw (ap (λ t. t.cones) c.decide_at_end.ensures.chord) opened.cones)
            (ap (λ t. t.pulses) c.decide_at_end.ensures.chord ∙ opened.count) some;
        before_reached = c.close.ensures.reached c.args.limits.now.slack leg.pulses (rw (ap (λ t. t.cones) c.decide_at_end.ensures.chord) opened.cones)
            (ap (λ t. t.pulses) c.decide_at_end.ensures.chord ∙ opened.count) some opened.straight;
        before_count = ap (λ t. t.before_pulses) c.close.ensures.same ∙ ap (λ t. t.pulses) c.decide_at_end.ensures.chord ∙ opened.count;
      },
    )
