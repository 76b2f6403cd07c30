use Rattle.std.proofs.Common.{ap}
use Rattle.ng_pace.proofs.FinalLimitLemmas.{still_adds, still_last, stands-last}
use Rattle.ng_pace.proofs.stream.push_still.Goals as goal

pub returns-clause-adds : goal.returns-clause-adds
returns-clause-adds g c = rw (c.push.ensures, c.still.ensures) (still_adds c.args.item c.args.pacer.now c.finish.new.pacer c.args.waiting.now.items
    c.finish.new.waiting.items c.finish.ensures.keeps c.finish.ensures.none)

pub returns-clause-stands : goal.returns-clause-stands
returns-clause-stands g c = still_last c.finish.new.pacer c.push.new.self c.finish.new.waiting.items c.still.result c.args.item c.push.ensures
    c.still.ensures c.finish.ensures.none

pub returns-clause-behind : goal.returns-clause-behind
returns-clause-behind g c = stands-last c.finish.new.pacer.known c.push.new.self.known c.still.result (ap (λ t. t.known) c.push.ensures)
    (ap (λ t. t.most) c.still.ensures, (ap (λ t. t.ramp.up) c.still.ensures, ap (λ t. t.ramp.down) c.still.ensures))
