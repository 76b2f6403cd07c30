use Rattle.std.proofs.Common.{◌≡◌, length}
use Rattle.std.specs.Io.KnownBytes.{Keeps}
use Rattle.ng_console.proofs.settings_file.read_front.Given as goal

abbrev pub invariant-loop-try : goal.invariant-loop-try
invariant-loop-try g l = Keeps (g.R.Read.remaining l.fn.file) (g.R.Read.remaining l.file) × (length l.buffer ≡ length l.fn.buffer)
