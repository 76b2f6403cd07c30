use Rattle.std.proofs.Common.{◌≡◌, List, [], ℕ, Option, true, length}
use Rattle.ng_pace.specs.Stream.{all_items}
use Rattle.ng_pace.specs.declared.limits.Limits.{Limits}
use Rattle.ng_schedule.specs.Private.Parts.{IsAt, IsUnderWay}
use Rattle.ng_schedule.proofs.giving.Schedule.give_all.Given as goal

abbrev pub invariant-loop-halt : goal.invariant-loop-halt
invariant-loop-halt g l =
    ((limits : Limits) (start : Option (List ℕ)) (bytes partial : List ℕ)
    → IsUnderWay limits start (g.W.Write.contents l.fn.writer) bytes partial l.fn.self
    → IsAt true limits start (g.W.Write.contents l.writer) bytes partial l.self)
    × (l.self.stream.waiting ≡ [])
    × (l.self.shown ≡ l.fn.self.shown)

abbrev pub decreases-loop-halt : goal.decreases-loop-halt
decreases-loop-halt g l = length (all_items l.self.stream)
