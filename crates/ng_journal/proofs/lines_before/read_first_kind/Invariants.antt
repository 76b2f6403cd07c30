use Rattle.std.proofs.Common.{◌≡◌, ◌*◌, take}
use Rattle.ng_rig.specs.Trace.{reads}
use Rattle.ng_rig.specs.Calls.{IfHonest}
use Rattle.ng_layout.specs.Sectors.{program_text}
use Rattle.ng_layout.specs.Areas.{program_size, program_first}
use Rattle.ng_layout.specs.Stands.{stretch}
use Rattle.ng_text.specs.FirstLine.{DecidesFirstLine}
use Rattle.ng_journal.proofs.lines_before.read_first_kind.Given as goal

abbrev pub invariant-loop-n : goal.invariant-loop-n
invariant-loop-n g l = record {
  read : IfHonest (g.R.Rig.seen l.initial.rig) (g.R.Rig.seen l.rig)
      (((g.R.Rig.seen l.rig).trace ≡ (g.R.Rig.seen l.initial.rig).trace)
      × DecidesFirstLine (take (512 * l.n)
      (program_text l.place
      (stretch (program_first l.area) (program_size l.area) (reads (g.R.Rig.seen l.initial.rig).trace)))) l.seen);
  size : (g.R.Rig.seen l.rig).sectors ≡ (g.R.Rig.seen l.initial.rig).sectors;
  failures : (g.R.Rig.seen l.rig).failed ≡ (g.R.Rig.seen l.initial.rig).failed;
}
