use Rattle.std.proofs.Common.{◌≡◌, ◌≤◌, length, drop}
use Rattle.std.specs.VecDeque.{deque_capacity}
use Rattle.ng_pace.specs.Planning.{ahead}
use Rattle.ng_pace.proofs.PlanLemmas.{IsReplanned}
use Rattle.ng_pace.proofs.planning.plan.Given as goal

abbrev pub invariant-loop-k : goal.invariant-loop-k
invariant-loop-k g l = record {
  anew : IsReplanned l.k l.initial.slots.items l.slots.items;
  next : l.after ≡ ahead (drop l.k l.slots.items);
  within : l.k ≤ length l.slots.items;
  capacity : deque_capacity l.slots ≡ deque_capacity l.initial.slots;
}

abbrev pub decreases-loop-k : goal.decreases-loop-k
decreases-loop-k g l = l.k
