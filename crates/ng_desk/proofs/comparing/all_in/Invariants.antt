use Rattle.std.proofs.Common.{take}
use Rattle.std.specs.Prelude.{All}
use Rattle.ng_desk.specs.Calls.{Seated, StandsIn, RiseFrom}
use Rattle.ng_desk.proofs.comparing.all_in.Given as goal

abbrev pub invariant-loop-seat : goal.invariant-loop-seat
invariant-loop-seat g l = All (λ (s : Seated _). All (StandsIn l.history) s.calls × RiseFrom 0 s.calls) (take l.seat-index l.seats)
