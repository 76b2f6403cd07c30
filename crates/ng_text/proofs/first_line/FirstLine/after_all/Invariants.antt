use Rattle.std.proofs.Common.{◌++◌, take}
use Rattle.ng_text.specs.FirstLine.{shortest, DecidesFirstLine}
use Rattle.ng_text.proofs.first_line.FirstLine.after_all.Given as goal

abbrev pub invariant-loop-byte : goal.invariant-loop-byte
invariant-loop-byte l = DecidesFirstLine (shortest l.fn.self ++ take l.byte-index l.bytes) l.seen
