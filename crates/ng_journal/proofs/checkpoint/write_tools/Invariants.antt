use Rattle.ng_layout.specs.Areas.{tools_size}
use Rattle.ng_layout.specs.Snapshot.{HoldsToolPart}
use Rattle.ng_journal.proofs.OverwriteLemmas.{HasWritten}
use Rattle.ng_journal.proofs.checkpoint.write_tools.Given as goal

abbrev pub invariant-loop-part : goal.invariant-loop-part
invariant-loop-part g l = HasWritten l.part l.first tools_size (HoldsToolPart l.stored) (g.R.Rig.seen l.initial.rig) (g.R.Rig.seen l.rig)
