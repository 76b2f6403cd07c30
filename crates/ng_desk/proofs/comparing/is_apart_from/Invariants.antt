use Rattle.std.proofs.Common.{take}
use Rattle.std.specs.Prelude.{All}
use Rattle.ng_desk.specs.Calls.{Seated, AreApart}
use Rattle.ng_desk.proofs.comparing.is_apart_from.Given as goal

abbrev pub invariant-loop-seat : goal.invariant-loop-seat
invariant-loop-seat g l = All (λ (s : Seated _). AreApart l.calls s.calls) (take l.seat-index l.seats)
