use Rattle.std.proofs.Common.{take}
use Rattle.ng_commands.specs.Commands.{HasNo}
use Rattle.ng_commands.proofs.lengths.parted.Given as goal

abbrev pub invariant-loop-n : goal.invariant-loop-n
invariant-loop-n l = HasNo 32 (take l.n l.words)
