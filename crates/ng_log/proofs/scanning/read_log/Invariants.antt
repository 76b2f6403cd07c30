use Rattle.std.proofs.Common.{◌≡◌, ◌≤◌}
use Rattle.ng_rig.specs.Calls.{IfHonest}
use Rattle.ng_rig.specs.Trace.{reads}
use Rattle.ng_layout.specs.Areas.{log_size_of}
use Rattle.ng_layout.specs.declared.header.Format.TheVariants.{One}
use Rattle.ng_layout.specs.Storable.{IsStorable}
use Rattle.ng_log.specs.AtEnd.{no_records, position_of}
use Rattle.ng_log.specs.Runs.{log_of}
use Rattle.ng_log.proofs.RecordRunLemmas.{RunsTo}
use Rattle.ng_log.proofs.scanning.read_log.Given as goal

abbrev pub invariant-records : goal.invariant-records
invariant-records g l = record {
  room : l.reached.sector ≤ log_size_of l.header;
  on : l.counter ≤ l.reached.sector;
  number : l.reached.number ≤ l.reached.sector;
  storable : IsStorable l.stored;
  count : l.stored.entries ≤ 1_000_000_000_000;
  long : l.stored.length ≡ l.header.length;
  program_limit : l.stored.program_limit ≡ l.fn.stored.program_limit;
  none : l.header.format ≡ One → l.stored.tools ≡ l.fn.stored.tools;
  run : IfHonest (g.R.Rig.seen l.fn.rig) (g.R.Rig.seen l.rig)
      (((g.R.Rig.seen l.rig).trace ≡ (g.R.Rig.seen l.fn.rig).trace)
      × RunsTo l.header.format l.header.length (log_of l.header (reads (g.R.Rig.seen l.fn.rig).trace))
      l.header.epoch (position_of no_records l.fn.stored) (position_of l.reached l.stored));
  size : (g.R.Rig.seen l.rig).sectors ≡ (g.R.Rig.seen l.fn.rig).sectors;
  failures : (g.R.Rig.seen l.rig).failed ≡ (g.R.Rig.seen l.fn.rig).failed;
}
