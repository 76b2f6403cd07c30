use Rattle.std.proofs.Common.{◌≡◌, ◌+◌}
use Rattle.ng_cycles.specs.Left.{ahead_of}
use Rattle.ng_cycles.specs.Segments.{later}
use Rattle.ng_cycles.proofs.left.CycleLeft.advance.Given as goal

abbrev pub invariant-loop-left : goal.invariant-loop-left
invariant-loop-left l =
    (later l.left (ahead_of l.self) ≡ later l.fn.n (ahead_of l.fn.self))
    × (l.self.canned ≡ l.fn.self.canned)
    × (l.self.begun + l.self.repeats_left ≡ l.fn.self.canned.repeats)

abbrev pub decreases-loop-left : goal.decreases-loop-left
decreases-loop-left l = l.left
