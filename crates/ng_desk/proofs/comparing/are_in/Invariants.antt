use Rattle.std.proofs.Common.{take, drop}
use Rattle.std.specs.Prelude.{All}
use Rattle.ng_desk.specs.Calls.{StandsIn, RiseFrom}
use Rattle.ng_desk.proofs.comparing.are_in.Given as goal

abbrev pub invariant-loop-call : goal.invariant-loop-call
invariant-loop-call g l = record {
  stand : All (StandsIn l.history) (take l.call-index l.calls);
  rise : RiseFrom l.least (drop l.call-index l.calls) → RiseFrom 0 l.calls;
  back : RiseFrom 0 l.calls → RiseFrom l.least (drop l.call-index l.calls);
}
