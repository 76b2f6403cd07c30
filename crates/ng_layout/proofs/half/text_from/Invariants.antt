use Rattle.std.proofs.Common.{◌≡◌, take}
use Rattle.ng_layout.proofs.half.text_from.Given as goal

abbrev pub invariant-loop-byte : goal.invariant-loop-byte
invariant-loop-byte l = l.text.items ≡ take l.byte-index l.bytes
