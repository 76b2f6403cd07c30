use Rattle.std.proofs.Common.{◌≡◌, ◌-◌, ◌*◌, drop}
use Rattle.ng_rig.specs.Calls.{IfHonest}
use Rattle.ng_log.specs.Records.{record_at}
use Rattle.ng_log.proofs.RecordWriteLemmas.{RecordTo}
use Rattle.ng_log.proofs.writing.write_parts.Given as goal

abbrev pub invariant-loop-part : goal.invariant-loop-part
invariant-loop-part g l = record {
  parts : IfHonest (g.R.Rig.seen l.fn.rig) (g.R.Rig.seen l.rig)
      (RecordTo l.part (record_at l.epoch l.end l.stored l.fn.changes l.fn.slot) (g.R.Rig.seen l.fn.rig).trace
      (g.R.Rig.seen l.rig).trace);
  left : l.left ≡ drop (48 * (l.part - 1)) l.fn.changes;
  size : (g.R.Rig.seen l.rig).sectors ≡ (g.R.Rig.seen l.fn.rig).sectors;
  failures : (g.R.Rig.seen l.rig).failed ≡ (g.R.Rig.seen l.fn.rig).failed;
}
