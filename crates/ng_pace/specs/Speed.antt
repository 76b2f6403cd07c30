-- How the rate changes from pulse to pulse, said of their times alone (own). A line's rate is one pulse over its time.
use Rattle.std.specs.Prelude.{ℕ, ◌+◌, ◌-◌, ◌*◌, ◌^◌, ◌<◌, ◌≤◌, ◌≡◌, List, [], ◌∷◌}
use Rattle.ng_canon.specs.declared.item.Item.{Item}
use Rattle.ng_canon.specs.declared.item.Item.TheVariants.{Pulse, Dwell, Switch}
use Rattle.ng_pace.specs.declared.stepping.Given.{Given}

-- in nanoseconds, times 2^8: over a time it is the rate, in pulses a second times 2^8
abbrev pub one_second : ℕ
one_second = 10 ^ 9 * 2 ^ 8

-- one pulse in `fast` nanoseconds is faster than one in `slow` by no more than `change` over four seconds, and 2. A time
-- is rounded up, so a nanosecond of the slower one doesn't count
abbrev pub IsFasterWithin : ℕ → ℕ → ℕ → Type 0
IsFasterWithin fast slow change
    = 4 * one_second * one_second * (slow - 1 - fast) ≤ fast * (slow - 1) * (change + 8 * one_second)

abbrev pub IsPulse : Item → Type 0
IsPulse (Pulse pulse) = Unit {0}
IsPulse (Dwell us) = ⊥
IsPulse (Switch outputs) = ⊥

-- two pulses, of which the second goes on in motion at the square of the first; OUT's periods are above 0, and so are times
pub record GoesOnFrom (given next : Given) : Type 0 where
  pub pulse : IsPulse given.line.item
  pub next_pulse : IsPulse next.line.item
  pub moves : 0 < given.to
  pub goes_on : next.from ≡ given.to
  pub lasts : 0 < given.ns
  pub next_lasts : 0 < next.ns

-- a ramp is 2^9 times what the rate may gain or lose in a second. So between the middles of two lines the rate changes
-- by no more than both ramps, up where it gains and down where it loses, each times half of its line's time: four of `one_second` are 2^10 seconds
pub record KeepsAcceleration (given next : Given) : Type 0 where
  pub gains : IsFasterWithin next.ns given.ns (given.line.ramp.up * given.ns + next.line.ramp.up * next.ns)
  pub loses : IsFasterWithin given.ns next.ns (given.line.ramp.down * given.ns + next.line.ramp.down * next.ns)

-- each pulse that goes on from the one before it does
abbrev pub KeepAcceleration : List Given → Type 0
KeepAcceleration [] = Unit {0}
KeepAcceleration (given ∷ []) = Unit {0}
KeepAcceleration (given ∷ next ∷ rest) = (GoesOnFrom given next → KeepsAcceleration given next) × KeepAcceleration (next ∷ rest)
