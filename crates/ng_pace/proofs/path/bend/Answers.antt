use Rattle.std.proofs.Common.{length}
use Rattle.ng_pace.proofs.PathStepLemmas.{fresh-path, bent-path, going-path}
use Rattle.ng_pace.proofs.path.bend.Goals as goal

pub returns-then-not-chord-clause-bends : goal.returns-then-not-chord-clause-bends
returns-then-not-chord-clause-bends g c = λ legs path begun.
    fresh-path c.args.limits.now c.args.chord.now c.open.new.self c.args.pacer.now (length c.args.waiting.now.items) c.args.pulse.now legs path
    c.if-not-chord.true c.open.ensures.same (c.open.ensures.cones c.args.limits.now.slack)

pub returns-then-is_left-clause-bends : goal.returns-then-is_left-clause-bends
returns-then-is_left-clause-bends g c = λ legs path begun.
    bent-path c.args.limits.now c.args.chord.now c.close.new.chord c.open-then-is_left.new.self c.args.pacer.now c.close.new.pacer
    (length c.args.waiting.now.items) (length c.close.new.waiting.items) c.reserve_of-reserve.result c.args.pulse.now legs
    path begun c.if-not-chord.false c.reserve_of-reserve.ensures
    (λ pulses cones count. c.is_left.ensures.leaves c.args.limits.now.slack pulses cones count c.if-is_left.true)
    c.close.ensures.closes c.open-then-is_left.ensures.same
    (c.open-then-is_left.ensures.cones c.args.limits.now.slack)

pub returns-else-is_left-clause-bends : goal.returns-else-is_left-clause-bends
returns-else-is_left-clause-bends g c = λ legs path begun.
    going-path c.args.limits.now c.args.chord.now c.args.pacer.now (length c.args.waiting.now.items) c.args.pulse.now legs path begun c.if-not-chord.false
    (λ pulses cones count. c.is_left.ensures.stays c.args.limits.now.slack pulses cones count c.if-is_left.false)
