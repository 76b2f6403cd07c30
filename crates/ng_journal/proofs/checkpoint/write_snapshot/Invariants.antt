use Rattle.ng_layout.specs.Areas.{snapshot_size}
use Rattle.ng_layout.specs.Snapshot.{HoldsPart}
use Rattle.ng_journal.proofs.OverwriteLemmas.{HasWritten}
use Rattle.ng_journal.proofs.checkpoint.write_snapshot.Given as goal

abbrev pub invariant-loop-part : goal.invariant-loop-part
invariant-loop-part g l = HasWritten l.part l.first snapshot_size (HoldsPart l.stored) (g.R.Rig.seen l.initial.rig) (g.R.Rig.seen l.rig)
