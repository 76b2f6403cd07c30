use Rattle.std.proofs.Common.{◌≡◌, ◌*◌, min, length}
use Rattle.ng_rig.specs.Calls.{IfHonest}
use Rattle.ng_rig.specs.Trace.{reads}
use Rattle.ng_log.specs.Private.ReadSteps.{from_log, MakesAll}
use Rattle.ng_log.proofs.scanning.take_all_changes.Given as goal

abbrev pub invariant-loop-i : goal.invariant-loop-i
invariant-loop-i g l = record {
  read : IfHonest (g.R.Rig.seen l.initial.rig) (g.R.Rig.seen l.rig)
      (((g.R.Rig.seen l.rig).trace ≡ (g.R.Rig.seen l.initial.rig).trace)
      × MakesAll (from_log (reads (g.R.Rig.seen l.initial.rig).trace)) l.at (min (48 * l.i) l.changes)
      l.initial.table l.table);
  long : length l.table ≡ 5399;
  size : (g.R.Rig.seen l.rig).sectors ≡ (g.R.Rig.seen l.initial.rig).sectors;
  failures : (g.R.Rig.seen l.rig).failed ≡ (g.R.Rig.seen l.initial.rig).failed;
}
