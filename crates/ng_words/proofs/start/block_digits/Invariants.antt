use Rattle.std.proofs.Common.{◌≡◌, ◌+◌, ◌≤◌, length}
use Rattle.ng_words.specs.Scan.{front_digits, after_digits, whole_after}
use Rattle.ng_words.proofs.start.block_digits.Given as goal

abbrev pub invariant-loop-digit : goal.invariant-loop-digit
invariant-loop-digit l =
    (after_digits l.digits ≡ after_digits l.fn.cursor)
    × (whole_after l.number (front_digits l.digits) ≡ whole_after 0 (front_digits l.fn.cursor))
    × (l.number ≤ 10000000)
    × (l.count ≤ 5)
    × (l.count + length (front_digits l.digits) ≡ length (front_digits l.fn.cursor))

abbrev pub decreases-loop-digit : goal.decreases-loop-digit
decreases-loop-digit l = length l.digits
