use Rattle.std.proofs.Common.{◌≡◌, ◌≤◌, ◌+◌, [], length}
use Rattle.std.specs.Prelude.{All}
use Rattle.std.specs.Vec.{vec_capacity}
use Rattle.ng_desk.specs.Calls.{Seated}
use Rattle.ng_desk.proofs.desk.Desk.new.Given as goal

abbrev pub invariant-loop-seat : goal.invariant-loop-seat
invariant-loop-seat g l = record {
  parts : l.all.parts + l._seat ≡ l.fn.seats;
  amount : l.all.amount ≡ 0;
  fits : l.fn.seats ≤ vec_capacity l.places;
  count : length l.places.items ≡ l._seat;
  fresh : All (λ (s : Seated _). s ≡ record { calls = []; parts = 1 }) l.places.items;
}
