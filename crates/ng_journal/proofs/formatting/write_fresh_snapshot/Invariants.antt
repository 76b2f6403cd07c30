use Rattle.ng_layout.specs.Areas.{snapshot_size}
use Rattle.ng_layout.specs.Snapshot.{HoldsPart}
use Rattle.ng_layout.specs.Stored.{fresh_stored}
use Rattle.std.proofs.Common.{ℕ}
use Rattle.ng_journal.proofs.OverwriteLemmas.{HasWritten}
use Rattle.ng_journal.proofs.formatting.write_fresh_snapshot.Given as goal

abbrev pub invariant-loop-part : goal.invariant-loop-part
invariant-loop-part g l = HasWritten l.part l.first snapshot_size
    (λ part sector. (most : ℕ) → HoldsPart (fresh_stored most) part sector) (g.R.Rig.seen l.initial.rig) (g.R.Rig.seen l.rig)
