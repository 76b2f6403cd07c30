use Rattle.std.proofs.Common.{◌≡◌, List, ℕ, Option, length}
use Rattle.ng_pace.specs.Stream.{all_items}
use Rattle.ng_pace.specs.declared.limits.Limits.{Limits}
use Rattle.ng_schedule.specs.Private.Parts.{IsUnderWay}
use Rattle.ng_schedule.proofs.giving.Schedule.give_while_full.Given as goal

abbrev pub invariant-loop-self : goal.invariant-loop-self
invariant-loop-self g l =
    ((limits : Limits) (start : Option (List ℕ)) (bytes partial : List ℕ)
    → IsUnderWay limits start (g.W.Write.contents l.fn.writer) bytes partial l.fn.self
    → IsUnderWay limits start (g.W.Write.contents l.writer) bytes partial l.self)
    × (l.self.shown ≡ l.fn.self.shown)

abbrev pub decreases-loop-self : goal.decreases-loop-self
decreases-loop-self g l = length (all_items l.self.stream)
