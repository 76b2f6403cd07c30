use Rattle.ng_journal.specs.Formatting.{IsEmpty}
use Rattle.ng_layout.specs.Areas.{tools_size}
use Rattle.ng_journal.proofs.OverwriteLemmas.{HasWritten}
use Rattle.ng_journal.proofs.formatting.clear_tools.Given as goal

abbrev pub invariant-loop-n : goal.invariant-loop-n
invariant-loop-n g l = HasWritten l.n l.first tools_size IsEmpty (g.R.Rig.seen l.initial.rig) (g.R.Rig.seen l.rig)
