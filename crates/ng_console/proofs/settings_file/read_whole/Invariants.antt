use Rattle.std.proofs.Common.{◌≤◌, ◌-◌, length}
use Rattle.std.specs.Io.KnownBytes.{Consumes}
use Rattle.ng_console.proofs.settings_file.read_whole.Given as goal

abbrev pub invariant-loop-buffer : goal.invariant-loop-buffer
invariant-loop-buffer g l =
    Consumes (g.R.Read.remaining l.fn.file) (g.R.Read.remaining l.file) l.bytes.items × (length l.bytes.items ≤ 1_048_577)

abbrev pub decreases-loop-buffer : goal.decreases-loop-buffer
decreases-loop-buffer g l = 1_048_577 - length l.bytes.items
