use Rattle.std.proofs.Common.{◌≡◌}
use Rattle.ng_rig.specs.Calls.{IfHonest}
use Rattle.ng_rig.specs.Trace.{reads}
use Rattle.ng_layout.specs.Part.{label_of}
use Rattle.ng_log.proofs.LogScanLemmas.{StandTo}
use Rattle.ng_log.proofs.scanning.later_parts_stand.Given as goal

abbrev pub invariant-loop-part : goal.invariant-loop-part
invariant-loop-part g l = record {
  read : IfHonest (g.R.Rig.seen l.initial.rig) (g.R.Rig.seen l.rig)
      (((g.R.Rig.seen l.rig).trace ≡ (g.R.Rig.seen l.initial.rig).trace)
      × StandTo l.part l.at (label_of l.first) (reads (g.R.Rig.seen l.initial.rig).trace));
  size : (g.R.Rig.seen l.rig).sectors ≡ (g.R.Rig.seen l.initial.rig).sectors;
  failures : (g.R.Rig.seen l.rig).failed ≡ (g.R.Rig.seen l.initial.rig).failed;
}
