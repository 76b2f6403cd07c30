use Rattle.std.proofs.Common.{◌≡◌, ◌++◌, List, ℕ, Option, length}
use Rattle.ng_pace.specs.declared.limits.Limits.{Limits}
use Rattle.ng_text.specs.Split.{HasNoNewline}
use Rattle.ng_schedule.specs.Private.Parts.{IsUnderWay}
use Rattle.ng_schedule.proofs.splitting.LineSplitter.take.Given as goal

abbrev pub invariant-loop-left : goal.invariant-loop-left
invariant-loop-left g l =
    ((taken : List ℕ) × (l.fn.bytes ≡ taken ++ l.left)
    × ((limits : Limits) (start : Option (List ℕ)) (before : List ℕ)
    → IsUnderWay limits start (g.W.Write.contents l.fn.writer) before l.fn.self.partial.items l.fn.self.schedule
    → IsUnderWay limits start (g.W.Write.contents l.writer) (before ++ taken) l.self.partial.items
    l.self.schedule))
    × HasNoNewline l.self.partial.items
    × (l.self.schedule.shown ≡ l.fn.self.schedule.shown)

abbrev pub decreases-loop-left : goal.decreases-loop-left
decreases-loop-left g l = length l.left
