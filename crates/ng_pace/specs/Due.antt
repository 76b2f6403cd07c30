-- The own time of an item.
use Rattle.std.specs.Prelude.{ℕ, ◌+◌, ◌-◌, ◌*◌, ◌/◌, ◌^◌, ◌<◌, ◌≤◌, ◌⊎◌, min, max}
use Rattle.ng_canon.specs.declared.item.Item.{Item}
use Rattle.ng_canon.specs.declared.item.Item.TheVariants.{Pulse, Dwell, Switch}

-- the rates that are taken, in percent of those that the controller says: from them to twice as much
abbrev pub IsPercent : ℕ → Type 0
IsPercent percent = (100 ≤ percent) × (percent ≤ 200)

abbrev pub IsNoPercent : ℕ → Type 0
IsNoPercent percent = (percent < 100) ⊎ (200 < percent)

-- in nanoseconds: a pulse at so many percent of its rate, rounded up; a dwell as long as the controller says
abbrev pub due_ns : ℕ → Item → ℕ
due_ns percent (Pulse pulse) = (pulse.period_us * 100000 + (percent - 1)) / percent
due_ns percent (Dwell us) = us * 1000
due_ns percent (Switch outputs) = 0

-- 584 years, if it is longer
abbrev pub least_ns : ℕ → Item → ℕ
least_ns percent item = min (due_ns percent item) (2 ^ 64 - 1)

-- the rate of pulses of so many microseconds, at so many percent, in pulses a second times 2^8: rounded down, but not to
-- 0; pulses of none come as those of 1
abbrev pub own_rate : ℕ → ℕ → ℕ
own_rate percent us = max (2560000 * percent / max us 1) 1

-- its square
abbrev pub own_square : ℕ → ℕ → ℕ
own_square percent us = own_rate percent us * own_rate percent us

-- the square at which an item comes in its own time: a pulse's; 0 where everything stands still
abbrev pub own_square_of : ℕ → Item → ℕ
own_square_of percent (Pulse pulse) = own_square percent pulse.period_us
own_square_of percent (Dwell us) = 0
own_square_of percent (Switch outputs) = 0
