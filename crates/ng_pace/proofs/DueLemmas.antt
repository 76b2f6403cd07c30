-- The own time of a pulse, found in parts that don't overflow.
use Rattle.std.proofs.Common.{arith, ℕ, ◌+◌, ◌-◌, ◌*◌, ◌/◌, ◌<◌, ◌≤◌, ◌≡◌, min}
use Rattle.std.specs.Prelude.{◌%◌}
use Rattle.std.proofs.Math.Nat.{div-eq_of_lt-le}
use Rattle.std.proofs.lemmas.Nat.{div-add-mod'}
use Rattle.std.proofs.lemmas.Grind.{div_ceil_times}

pub due-parts : (us percent : ℕ) → 0 < percent
    → (us * 100000 + (percent - 1)) / percent ≡ us / percent * 100000 + (us % percent * 100000 / percent + min 1 (us % percent * 100000 % percent))
due-parts us percent some = exact (us / percent) (us % percent) (us % percent * 100000 / percent + min 1 (us % percent * 100000 % percent))
    (div-add-mod' us percent) (div_ceil_times (us % percent * 100000) percent some).0 (div_ceil_times (us % percent * 100000) percent some).1
  where
    exact : (whole rest up : ℕ) → whole * percent + rest ≡ us → rest * 100000 ≤ up * percent → up * percent < rest * 100000 + percent
        → (us * 100000 + (percent - 1)) / percent ≡ whole * 100000 + up
    exact whole rest up parts more less = div-eq_of_lt-le percent (omega (arith, parts, more, less, some)) (omega (arith, parts, more, less, some))
