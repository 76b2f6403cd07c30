use Rattle.std.proofs.Common.{◌≡◌, ◌≤◌, length, false, cond}
use Rattle.ng_words.specs.Scan.{front_digits, after_digits, whole_after, is_empty}
use Rattle.ng_words.proofs.number.whole.Given as goal

abbrev pub invariant-loop-digit : goal.invariant-loop-digit
invariant-loop-digit l =
    (after_digits l.digits ≡ after_digits l.fn.cursor)
    × (whole_after l.whole (front_digits l.digits) ≡ whole_after 0 (front_digits l.fn.cursor))
    × (l.whole ≤ 10000000)
    × (cond l.none (is_empty (front_digits l.digits)) false ≡ is_empty (front_digits l.fn.cursor))

abbrev pub decreases-loop-digit : goal.decreases-loop-digit
decreases-loop-digit l = length l.digits
