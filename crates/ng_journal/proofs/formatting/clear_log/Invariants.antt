use Rattle.ng_journal.specs.Formatting.{IsEmpty}
use Rattle.ng_layout.specs.Areas.{shortest_log, log_first}
use Rattle.ng_journal.proofs.OverwriteLemmas.{HasWritten}
use Rattle.ng_journal.proofs.formatting.clear_log.Given as goal

abbrev pub invariant-loop-n : goal.invariant-loop-n
invariant-loop-n g l = HasWritten l.n log_first shortest_log IsEmpty (g.R.Rig.seen l.initial.rig) (g.R.Rig.seen l.rig)
