-- How many pulses wait.
use Rattle.std.specs.Prelude.{ℕ, ◌+◌, ◌*◌, ◌/◌, ◌%◌, ◌<◌, ◌≤◌, ◌≡◌, IsTrue, IsFalse}
use Rattle.ng_pace.specs.declared.limits.Limits.{Limits}
use Rattle.ng_pace.specs.declared.chord.Chord.{Chord}

-- no more pulses wait than a corner may take, and those of a chord that is too short to decide the corner at which it
-- begins; lines are made at each 16th pulse of a chord
pub record WaitFew (limits : Limits) (chord : Chord) (waits : ℕ) : Type 0 where
  pub closed : IsFalse chord.is_open → waits ≡ 0
  pub pending : IsTrue chord.is_open → IsTrue chord.has_corner → (waits ≤ limits.half + chord.pulses) × (16 * (chord.pulses / 16) < 4 * limits.half)
  pub going : IsTrue chord.is_open → IsFalse chord.has_corner → waits ≤ limits.half + chord.pulses % 16

-- of an open chord the last pulse waits, and behind a corner that isn't decided all of them do
pub record WaitSome (chord : Chord) (waits : ℕ) : Type 0 where
  pub last : IsTrue chord.is_open → 0 < chord.pulses → 0 < waits
  pub all : IsTrue chord.is_open → IsTrue chord.has_corner → chord.pulses ≤ waits
