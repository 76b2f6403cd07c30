use Rattle.std.proofs.Common.{length}
use Rattle.ng_pace.specs.Making.{stop_of}
use Rattle.ng_pace.proofs.PathStepLemmas.{closes-path, closed-path}
use Rattle.ng_pace.proofs.path.close_last.Goals as goal

pub returns-then-chord-clause-finishes : goal.returns-then-chord-clause-finishes
returns-then-chord-clause-finishes g c = λ legs path begun.
    closes-path c.args.limits.now (stop_of c.args.ending) c.args.chord.now c.close.new.chord c.args.pacer.now c.close.new.pacer
    (length c.args.waiting.now.items) (length c.close.new.waiting.items) legs path begun c.if-chord.true c.close.ensures.closes

pub returns-else-chord-clause-finishes : goal.returns-else-chord-clause-finishes
returns-else-chord-clause-finishes g c = λ legs path begun.
    closed-path c.args.limits.now (stop_of c.args.ending) c.args.chord.now c.args.pacer.now (length c.args.waiting.now.items) legs path c.if-chord.false
