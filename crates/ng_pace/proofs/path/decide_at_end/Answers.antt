use Rattle.ng_pace.specs.Making.{stop_of}
use Rattle.ng_pace.proofs.PathStepLemmas.{reach-path, reached-path}
use Rattle.ng_pace.proofs.path.decide_at_end.Goals as goal

pub returns-then-chord-clause-reaches : goal.returns-then-chord-clause-reaches
returns-then-chord-clause-reaches g c = λ leg rest path some are reached.
    reach-path c.args.limits.now (stop_of c.args.ending) c.args.chord.now c.args.pacer.now c.pass_corner.new.pacer c.args.waiting.now.items
    c.pass_corner.new.waiting.items leg rest c.args.slopes.now
    path c.if-chord.true some c.requires.limits.half are reached c.pass_corner.ensures.passes

pub returns-else-chord-clause-reaches : goal.returns-else-chord-clause-reaches
returns-else-chord-clause-reaches g c = λ leg rest path some are reached.
    reached-path c.args.limits.now (stop_of c.args.ending) c.args.chord.now c.args.pacer.now c.args.waiting.now.items leg rest path c.if-chord.false
