use Rattle.std.proofs.Common.{◌*◌, replicate}
use Rattle.std.specs.Io.KnownBytes.{Appends}
use Rattle.ng_file.proofs.device.write_zeros.Given as goal

abbrev pub invariant-loop : goal.invariant-loop
invariant-loop g l = Appends (g.W.Write.contents l.fn.file) (g.W.Write.contents l.file) (replicate (512 * l.counter) 0)
