use Rattle.std.proofs.Common.{◌+◌, length}
use Rattle.ng_desk.specs.Calls.{RiseFrom, AreApart}
use Rattle.ng_desk.proofs.comparing.are_apart.Given as goal

abbrev pub invariant-loop-here : goal.invariant-loop-here
invariant-loop-here g l = record {
  left : RiseFrom 0 l.left;
  right : RiseFrom 0 l.right;
  all : AreApart l.left l.right → AreApart l.one l.other;
  back : AreApart l.one l.other → AreApart l.left l.right;
}

abbrev pub decreases-loop-here : goal.decreases-loop-here
decreases-loop-here g l = length l.left + length l.right
