-- What the time of a line says of its two rates.
use Rattle.std.proofs.Common.{arith, ℕ, ◌+◌, ◌-◌, ◌*◌, ◌/◌, ◌<◌, ◌≤◌, ◌≡◌, ◌⊎◌, inl, inr, refl, Bool, true, false}
use Rattle.std.proofs.Math.Nat.{lt-mul-div-succ}
use Rattle.std.proofs.lemmas.Bool.Decides.{nat_tests}
use Rattle.ng_pace.specs.declared.line.Line.{Line}
use Rattle.ng_pace.specs.Due.{least_ns}
use Rattle.ng_pace.specs.Interval.{time_at, is_at_own_rate, IsTimeOf, KeepsOwnRate, IsNoSooner}

-- two seconds over a sum of rates, rounded up
rounded_up : (n both : ℕ) → 0 < both → n ≤ (n + both - 1) / both * both
rounded_up n both some = grind (arith, lt-mul-div-succ (n + both - 1) some)

pub mean_time : (least both ns : ℕ) → ns ≡ time_at least both → 0 < both → 512000000000 ≤ ns * both
mean_time least both ns is some = grind (arith, nat_tests, rounded_up 512000000000 both some, is)

pub own_or_no_sooner : (percent : ℕ) (line : Line) (from to ns : ℕ) → IsTimeOf percent line from to ns
    → KeepsOwnRate percent line from to ⊎ IsNoSooner from to ns
own_or_no_sooner percent line from to ns t = chosen (is_at_own_rate percent line from to) refl where
  chosen : (b : Bool) → is_at_own_rate percent line from to ≡ b → KeepsOwnRate percent line from to ⊎ IsNoSooner from to ns
  chosen true is = inl (grind (arith, nat_tests, is), grind (arith, nat_tests, is))
  chosen false is = inr (record {
    root_from = t.root_from;
    root_to = t.root_to;
    is_root_from = t.is_root_from;
    is_root_to = t.is_root_to;
    mean = λ some. mean_time (least_ns percent line.item) (t.root_from + t.root_to) ns (rw is at t.time) some;
  })
