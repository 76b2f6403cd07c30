use Rattle.std.proofs.Common.{◌≡◌, ◌+◌, ◌∷◌, [], length, arith}
use Rattle.std.proofs.lemmas.List.{length-append}
use Rattle.ng_pace.specs.declared.chord.Waiting.{Waiting}
use Rattle.ng_pace.specs.Legs.{pulses_of, lines_of}
use Rattle.ng_pace.proofs.FinalLimitLemmas.{pulse_adds}
use Rattle.ng_pace.proofs.PathStepLemmas.{bends-on}
use Rattle.ng_pace.proofs.stream.push_pulse.Goals as goal

pub returns-clause-adds : goal.returns-clause-adds
returns-clause-adds g c = rw (← c.own_square-own.ensures, ← c.min-feed.ensures)
    (pulse_adds c.args.pacer.now c.bend.new.pacer c.extend.new.pacer c.args.waiting.now.items c.bend.new.waiting.items c.push_back_reserved.new.self.items
    c.extend.new.waiting.items (record { item = c.args.item; feed = c.min-feed.result }) c.bend.ensures.keeps c.push_back_reserved.ensures.items
    c.extend.ensures.keeps)

pub returns-clause-advances : goal.returns-clause-advances
returns-clause-advances g c = λ legs path begun.
    let bent = c.bend.ensures.bends legs path begun in
    let pushed : Waiting = record { item = c.args.item; feed = c.min-feed.result } in
    let one : length c.push_back_reserved.new.self.items ≡ length c.bend.new.waiting.items + 1 = rw c.push_back_reserved.ensures.items
    (length-append c.bend.new.waiting.items (pushed ∷ [])) in
    bends-on c.args.limits.now c.args.pacer.now c.bend.new.pacer c.extend.new.pacer c.bend.new.chord c.extend.new.chord (length c.bend.new.waiting.items)
    (length c.extend.new.waiting.items) c.args.pulse.now (pulses_of legs) (lines_of legs) bent
    (c.extend.ensures.advances (length c.bend.new.waiting.items) bent.leg bent.rest bent.path one bent.straight bent.few bent.farthest)

pub returns-clause-some : goal.returns-clause-some
returns-clause-some g c = λ some.
    let pushed : Waiting = record { item = c.args.item; feed = c.min-feed.result } in
    let one : length c.push_back_reserved.new.self.items ≡ length c.bend.new.waiting.items + 1 = rw c.push_back_reserved.ensures.items
    (length-append c.bend.new.waiting.items (pushed ∷ [])) in
    c.extend.ensures.some (length c.bend.new.waiting.items) (c.bend.ensures.some some) c.bend.ensures.open c.bend.ensures.short one

pub own_square-own-requires : goal.own_square-own-requires
own_square-own-requires g c = omega arith

pub min-feed-requires : goal.min-feed-requires
min-feed-requires g c = omega arith

pub bend-requires-clause-fits : goal.bend-requires-clause-fits
bend-requires-clause-fits g c = omega arith

pub bend-requires-clause-limits : goal.bend-requires-clause-limits
bend-requires-clause-limits g c = omega arith

pub push_back_reserved-requires : goal.push_back_reserved-requires
push_back_reserved-requires g c = omega arith

pub extend-requires-clause-fits : goal.extend-requires-clause-fits
extend-requires-clause-fits g c = omega arith

pub extend-requires-clause-limits : goal.extend-requires-clause-limits
extend-requires-clause-limits g c = omega arith

pub returns-clause-capacity : goal.returns-clause-capacity
returns-clause-capacity g c = omega arith

pub returns-clause-few : goal.returns-clause-few
returns-clause-few g c = grind arith

pub returns-clause-start : goal.returns-clause-start
returns-clause-start g c = omega arith

pub returns-clause-before : goal.returns-clause-before
returns-clause-before g c = omega arith
