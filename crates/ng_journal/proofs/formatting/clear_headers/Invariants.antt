use Rattle.ng_journal.specs.Formatting.{IsEmpty}
use Rattle.ng_journal.proofs.OverwriteLemmas.{HasWritten}
use Rattle.ng_journal.proofs.formatting.clear_headers.Given as goal

abbrev pub invariant-loop-k : goal.invariant-loop-k
invariant-loop-k g l = HasWritten l.k 0 2 IsEmpty (g.R.Rig.seen l.initial.rig) (g.R.Rig.seen l.rig)
