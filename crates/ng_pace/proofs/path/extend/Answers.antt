use Rattle.std.proofs.Common.{arith, ap, ◌∙◌, ◌+◌, ◌++◌, ◌∷◌, [], length}
use Rattle.std.proofs.lemmas.List.{length-append}
use Rattle.ng_pace.specs.Legs.{Leg, lines_of}
use Rattle.ng_pace.specs.Path.{IsPath}
use Rattle.ng_pace.specs.WaitingPulses.{WaitSome}
use Rattle.ng_pace.proofs.WaitingPulseLemmas.{some-more, some-left}
use Rattle.ng_pace.proofs.PathStepLemmas.{take-path, path-opened, path-stays, advances-on, advances-pulses}
use Rattle.ng_pace.proofs.path.extend.Goals as goal

pub returns-then-chord-eq0-clause-advances : goal.returns-then-chord-eq0-clause-advances
returns-then-chord-eq0-clause-advances g c = λ waits leg rest path one straight few farthest.
    let opened = path-opened c.args.limits.now 0 c.args.chord.now waits leg rest path in
    let takes = c.take.ensures.takes leg.pulses opened.cones opened.count few in
    let leg' : Leg = record { pulses = leg.pulses ++ c.args.pulse.now ∷ []; lines = leg.lines } in
    let taken : IsPath c.args.limits.now 0 c.take.new.self (length c.args.waiting.now.items) (leg' ∷ rest)
    = rw one (take-path c.args.limits.now 0 c.args.chord.now c.take.new.self waits leg rest c.args.pulse.now path c.take.ensures.same takes.0 takes.1 straight
    few farthest) in
    let decided = c.decide.ensures.advances leg' rest taken (omega (arith, length-append leg.pulses (c.args.pulse.now ∷ []))) in
    let gone = c.go_along.ensures.advances decided.leg decided.rest decided.path decided.some in
    advances-pulses c.args.limits.now 0 c.args.pacer.now c.go_along.new.pacer c.decide.new.chord (length c.go_along.new.waiting.items) leg rest
    c.args.pulse.now (lines_of (leg ∷ rest))
    (advances-on c.args.limits.now 0 c.args.pacer.now c.decide.new.pacer c.go_along.new.pacer c.decide.new.chord c.decide.new.chord
    (length c.decide.new.waiting.items) (length c.go_along.new.waiting.items) _ _ decided gone)

pub returns-else-chord-eq0-clause-advances : goal.returns-else-chord-eq0-clause-advances
returns-else-chord-eq0-clause-advances g c = λ waits leg rest path one straight few farthest.
    let opened = path-opened c.args.limits.now 0 c.args.chord.now waits leg rest path in
    let takes = c.take.ensures.takes leg.pulses opened.cones opened.count few in
    let leg' : Leg = record { pulses = leg.pulses ++ c.args.pulse.now ∷ []; lines = leg.lines } in
    let taken : IsPath c.args.limits.now 0 c.take.new.self (length c.args.waiting.now.items) (leg' ∷ rest)
    = rw one (take-path c.args.limits.now 0 c.args.chord.now c.take.new.self waits leg rest c.args.pulse.now path c.take.ensures.same takes.0 takes.1 straight
    few farthest) in
    advances-pulses c.args.limits.now 0 c.args.pacer.now c.args.pacer.now c.take.new.self (length c.args.waiting.now.items) leg rest c.args.pulse.now
    (lines_of (leg ∷ rest))
    (path-stays c.args.limits.now 0 c.take.new.self c.args.pacer.now (length c.args.waiting.now.items) leg' rest taken
    (omega (arith, length-append leg.pulses (c.args.pulse.now ∷ []))))

pub returns-then-chord-eq0-clause-some : goal.returns-then-chord-eq0-clause-some
returns-then-chord-eq0-clause-some g c = λ waits some is short one.
    let taken : WaitSome c.take.new.self (waits + 1) = some-more c.args.chord.now c.take.new.self waits c.take.ensures.same (c.take.ensures.one short) some in
    some-left c.take.new.self c.decide.new.chord (length c.args.waiting.now.items) (length c.decide.new.waiting.items) (length c.go_along.new.waiting.items)
    c.decide.ensures.chord (ap (λ t. t.is_open) c.take.ensures.same ∙ is) (omega (arith, c.take.ensures.one short)) (rw one taken) c.decide.ensures.last
    c.decide.ensures.same (λ has. (c.decide.ensures.corner has, (c.decide.ensures.few has).0)) c.go_along.ensures.last c.go_along.ensures.stays

pub returns-else-chord-eq0-clause-some : goal.returns-else-chord-eq0-clause-some
returns-else-chord-eq0-clause-some g c = λ waits some is short one.
    let taken : WaitSome c.take.new.self (waits + 1) = some-more c.args.chord.now c.take.new.self waits c.take.ensures.same (c.take.ensures.one short) some in
    (rw one taken, omega (arith, one))
