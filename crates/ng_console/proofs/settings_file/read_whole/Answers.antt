use Rattle.std.proofs.Common.{arith, ◌++◌, take}
use Rattle.std.proofs.lemmas.Grind.{common_steps}
use Rattle.ng_streams.proofs.KnownBytesLemmas.{Consumes-trans}
use Rattle.ng_console.proofs.settings_file.read_whole.Goals as goal

pub returns-then-is_err-clause-read : goal.returns-then-is_err-clause-read
returns-then-is_err-clause-read g c = (
  c.loop-buffer.bytes.items ++ take c.in-Ok.n c.read_front.new.buffer,
  Consumes-trans _ _ _ _ _ c.loop-buffer.invariant.0 c.in-Ok.ensures.bytes.0,
  grind (arith, common_steps),
)
