use Rattle.std.proofs.Common.{◌≡◌, length}
use Rattle.ng_rig.specs.Trace.{reads}
use Rattle.ng_rig.specs.Calls.{IfHonest}
use Rattle.ng_layout.proofs.TableLemmas.{TableTo}
use Rattle.ng_layout.specs.Areas.{snapshot_size}
use Rattle.ng_layout.specs.Stands.{stretch}
use Rattle.ng_journal.proofs.reading.read_table.Given as goal

abbrev pub invariant-loop-n : goal.invariant-loop-n
invariant-loop-n g l = record {
  read : IfHonest (g.R.Rig.seen l.initial.rig) (g.R.Rig.seen l.rig)
      (((g.R.Rig.seen l.rig).trace ≡ (g.R.Rig.seen l.initial.rig).trace)
      × TableTo l.table l.n (stretch l.first snapshot_size (reads (g.R.Rig.seen l.initial.rig).trace)));
  long : length l.table ≡ 5399;
  size : (g.R.Rig.seen l.rig).sectors ≡ (g.R.Rig.seen l.initial.rig).sectors;
  failures : (g.R.Rig.seen l.rig).failed ≡ (g.R.Rig.seen l.initial.rig).failed;
}
