use Rattle.std.proofs.Common.{length}
use Rattle.std.specs.Prelude.{All}
use Rattle.ng_desk.specs.Calls.{Seated, RiseFrom, AllApart, lists_of}
use Rattle.ng_desk.proofs.comparing.all_apart.Given as goal

abbrev pub invariant-loop-first : goal.invariant-loop-first
invariant-loop-first g l = record {
  rise : All (λ (s : Seated _). RiseFrom 0 s.calls) l.left;
  all : AllApart (lists_of l.left) → AllApart (lists_of l.seats);
  back : AllApart (lists_of l.seats) → AllApart (lists_of l.left);
}

abbrev pub decreases-loop-first : goal.decreases-loop-first
decreases-loop-first g l = length l.left
