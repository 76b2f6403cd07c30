use Rattle.std.proofs.Common.{◌≡◌, ◌+◌, ◌*◌, ◌≤◌, length, false, cond}
use Rattle.ng_words.specs.Scan.{fraction_from, front_digits, after_digits, is_empty}
use Rattle.ng_words.proofs.number.fraction.Given as goal

abbrev pub invariant-loop-digit : goal.invariant-loop-digit
invariant-loop-digit l =
    (after_digits l.digits ≡ after_digits l.fn.cursor)
    × (l.sum + fraction_from l.unit (front_digits l.digits) ≡ fraction_from 1000000 (front_digits l.fn.cursor))
    × (l.sum + 10 * l.unit ≤ 10000000)
    × (cond l.none (is_empty (front_digits l.digits)) false ≡ is_empty (front_digits l.fn.cursor))

abbrev pub decreases-loop-digit : goal.decreases-loop-digit
decreases-loop-digit l = length l.digits
