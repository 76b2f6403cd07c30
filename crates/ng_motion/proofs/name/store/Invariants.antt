use Rattle.std.proofs.Common.{◌≡◌, ◌-◌, ◌≤◌, length, map, take}
use Rattle.ng_motion.specs.Name.{shown_byte}
use Rattle.ng_motion.proofs.name.store.Given as goal

abbrev pub invariant-loop-length : goal.invariant-loop-length
invariant-loop-length l =
    (take l.length l.buffer ≡ map shown_byte (take l.length l.name))
    × (l.length ≤ length l.buffer)
    × (l.length ≤ length l.name)
    × (length l.buffer ≡ length l.fn.buffer)

abbrev pub decreases-loop-length : goal.decreases-loop-length
decreases-loop-length l = length l.buffer - l.length
