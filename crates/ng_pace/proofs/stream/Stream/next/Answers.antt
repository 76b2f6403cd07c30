use Rattle.std.specs.VecDeque.{deque_capacity}
use Rattle.ng_pace.proofs.FinalLimitLemmas.{held-next}
use Rattle.ng_pace.proofs.stream.Stream.next.Goals as goal

pub invariant_of-self : goal.invariant_of-self
invariant_of-self g c = held-next c.self.inside.pacer c.next.new.self c.self.inside.waiting.items (deque_capacity c.self.inside.waiting)
    c.self.inside.shape.start c.self.inside.limits c.self.inside.shape.chord c.args.wanted c.next.result c.next.ensures.given c.next.ensures.same
    c.self.invariant
