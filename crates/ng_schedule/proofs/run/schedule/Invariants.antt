use Rattle.std.proofs.Common.{◌≡◌, List, ℕ}
use Rattle.std.specs.Io.KnownBytes.{Consumes}
use Rattle.ng_text.specs.Split.{HasNoNewline}
use Rattle.ng_schedule.specs.Private.Parts.{IsUnderWay}
use Rattle.ng_schedule.proofs.run.schedule.Given as goal

abbrev pub invariant-loop-pass : goal.invariant-loop-pass
invariant-loop-pass g l =
    ((before : List ℕ) × Consumes (g.R.Read.remaining l.fn.reader) (g.R.Read.remaining l.reader) before
    × IsUnderWay l.fn.limits (g.W.Write.contents l.fn.writer) (g.W.Write.contents l.writer) before l.splitter.partial.items l.splitter.schedule)
    × HasNoNewline l.splitter.partial.items
    × (l.splitter.schedule.shown ≡ l.fn.shown)
