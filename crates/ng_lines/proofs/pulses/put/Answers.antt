use Rattle.std.proofs.lemmas.Grind.{common_steps}
use Rattle.std.proofs.Common.{arith}
use Rattle.ng_lines.proofs.pulses.put.Goals as goal

pub bounds-buffer-at : goal.bounds-buffer-at
bounds-buffer-at c = omega arith

pub returns : goal.returns
returns c = grind (arith, common_steps)
