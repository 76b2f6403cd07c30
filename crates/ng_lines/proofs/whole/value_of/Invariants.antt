use Rattle.std.proofs.Common.{◌≡◌, ◌<◌, ◌^◌, drop}
use Rattle.std.specs.Str.{all_ascii_digits}
use Rattle.ng_lines.specs.Whole.{read_on}
use Rattle.ng_lines.proofs.whole.value_of.Given as goal

abbrev pub invariant-loop-byte : goal.invariant-loop-byte
invariant-loop-byte l =
    (read_on l.number (drop l.byte-index l.digits) ≡ read_on 0 l.digits)
    × (all_ascii_digits (drop l.byte-index l.digits) ≡ all_ascii_digits l.digits)
    × (l.number < 2 ^ 64)
