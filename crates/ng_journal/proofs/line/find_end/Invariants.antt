use Rattle.std.proofs.Common.{◌≡◌, ◌*◌, ◌-◌, drop}
use Rattle.ng_rig.specs.Trace.{reads}
use Rattle.ng_rig.specs.Calls.{IfHonest}
use Rattle.ng_layout.specs.Sectors.{program_text}
use Rattle.ng_layout.specs.Areas.{program_size, program_first}
use Rattle.ng_layout.specs.Stands.{stretch}
use Rattle.ng_journal.specs.Private.LineParts.{KeepsLineFront}
use Rattle.ng_journal.proofs.line.find_end.Given as goal

abbrev pub invariant-loop-n : goal.invariant-loop-n
invariant-loop-n g l = record {
  read : IfHonest (g.R.Rig.seen l.initial.rig) (g.R.Rig.seen l.rig)
      (((g.R.Rig.seen l.rig).trace ≡ (g.R.Rig.seen l.initial.rig).trace)
      × KeepsLineFront (drop l.place
      (program_text l.program_end
      (stretch (program_first l.area) (program_size l.area) (reads (g.R.Rig.seen l.initial.rig).trace))))
      (512 * l.n - l.place) l.text.items);
  size : (g.R.Rig.seen l.rig).sectors ≡ (g.R.Rig.seen l.initial.rig).sectors;
  failures : (g.R.Rig.seen l.rig).failed ≡ (g.R.Rig.seen l.initial.rig).failed;
}
