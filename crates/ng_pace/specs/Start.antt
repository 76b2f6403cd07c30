-- How motors start and stop at once.
use Rattle.std.specs.Prelude.{ℕ, ◌-◌, ◌*◌, ◌/◌, ◌^◌, min, max, slice_index}
use Rattle.ng_pace.specs.declared.limits.Limits.{Limits}

-- how far an axis goes while it stops from a rate, in parts of 256 of a step
abbrev pub stopping_distance : ℕ → ℕ → ℕ
stopping_distance rate accel = min (rate * rate * 256) (2 ^ 64 - 1) / 2 / accel

-- over this distance motors start and stop at once, in parts of 256 of a step: the least of what each axis needs from
-- its start rate, and half a step at least, since at rest a motor is half a step beyond its pulse
abbrev pub start_of : Limits → ℕ
start_of limits = max (min
    (min (stopping_distance (slice_index limits.start 0) (slice_index limits.accel 0))
    (stopping_distance (slice_index limits.start 1) (slice_index limits.accel 1)))
    (stopping_distance (slice_index limits.start 2) (slice_index limits.accel 2))) 128
