use Rattle.std.proofs.Common.{◌≡◌, ◌≤◌, ℕ, length, take, get_or}
use Rattle.std.specs.Prelude.{sum_by}
use Rattle.ng_desk.specs.Calls.{Seated, lists_of}
use Rattle.ng_desk.proofs.desk.gather.Given as goal

abbrev pub invariant-loop-seat : goal.invariant-loop-seat
invariant-loop-seat g l = record {
  parts : l.all.parts ≡ l.seat-index;
  amount : l.all.amount ≡ sum_by (λ (s : Seated _). length s.calls) (take l.seat-index l.fn.seats);
  same : (k : ℕ) → l.seat-index ≤ k → (d : Seated _) → get_or l.seats k d ≡ get_or l.fn.seats k d;
  lists : lists_of l.seats ≡ lists_of l.fn.seats;
}
