use Rattle.std.proofs.Common.{◌≡◌}
use Rattle.std.specs.VecDeque.{deque_capacity}
use Rattle.ng_pace.specs.Stream.{Keeps}
use Rattle.ng_pace.specs.Making.{Makes, Marks, stop_of}
use Rattle.ng_pace.proofs.settling.settle.Given as goal

abbrev pub invariant-loop-k : goal.invariant-loop-k
invariant-loop-k g l = record {
  keeps : Keeps l.initial.pacer l.pacer l.initial.waiting.items l.waiting.items;
  capacity : deque_capacity l.waiting ≡ deque_capacity l.initial.waiting;
  marks : Marks l.ending l.pacer.known l.initial.waiting.items l.waiting.items;
  makes : Makes l.initial.pacer l.pacer l.initial.waiting.items l.waiting.items l.limits.most l.limits.ramp (stop_of l.ending) l.k;
}
