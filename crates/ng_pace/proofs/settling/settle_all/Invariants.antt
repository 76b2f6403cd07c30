use Rattle.std.proofs.Common.{◌≡◌, [], length}
use Rattle.std.specs.VecDeque.{deque_capacity}
use Rattle.ng_pace.specs.Stream.{Keeps}
use Rattle.ng_pace.specs.Making.{Marks}
use Rattle.ng_pace.proofs.settling.settle_all.Given as goal

abbrev pub invariant-loop-limits : goal.invariant-loop-limits
invariant-loop-limits g l = record {
  keeps : Keeps l.initial.pacer l.pacer l.initial.waiting.items l.waiting.items;
  capacity : deque_capacity l.waiting ≡ deque_capacity l.initial.waiting;
  marks : Marks l.ending l.pacer.known l.initial.waiting.items l.waiting.items;
  stays : l.initial.waiting.items ≡ [] → (l.waiting.items ≡ []) × (l.pacer.known ≡ l.initial.pacer.known);
}

abbrev pub decreases-loop-limits : goal.decreases-loop-limits
decreases-loop-limits g l = length l.waiting.items
