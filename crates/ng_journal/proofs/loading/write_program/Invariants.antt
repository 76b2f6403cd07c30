use Rattle.ng_layout.specs.Areas.{program_first, program_size}
use Rattle.ng_layout.specs.Limits.{sector_size}
use Rattle.ng_layout.specs.Sectors.{HoldsText}
use Rattle.std.proofs.Common.{◌*◌}
use Rattle.ng_journal.proofs.OverwriteLemmas.{HasWritten}
use Rattle.ng_journal.proofs.loading.write_program.Given as goal

abbrev pub invariant-loop-n : goal.invariant-loop-n
invariant-loop-n g l = HasWritten l.n (program_first l.area) (program_size l.area)
    (λ j part. HoldsText l.text (sector_size * j) part) (g.R.Rig.seen l.initial.rig) (g.R.Rig.seen l.rig)
