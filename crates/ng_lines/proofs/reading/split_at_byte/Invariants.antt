use Rattle.std.proofs.Common.{take}
use Rattle.ng_lines.specs.Parts.{HasNone}
use Rattle.ng_lines.proofs.reading.split_at_byte.Given as goal

abbrev pub invariant-loop-at : goal.invariant-loop-at
invariant-loop-at l = HasNone l.byte (take l.at l.text)
