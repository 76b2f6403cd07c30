use Rattle.std.proofs.Common.{◌≡◌, ◌≤◌, false, cond}
use Rattle.ng_words.specs.Scan.{front_digits, after_digits, whole_after, is_empty}
use Rattle.ng_words.proofs.plain_number.plain_whole.Given as goal

abbrev pub invariant-loop : goal.invariant-loop
invariant-loop l =
    (after_digits l.digits ≡ after_digits l.fn.digits)
    × (whole_after l.whole (front_digits l.digits) ≡ whole_after 0 (front_digits l.fn.digits))
    × (l.whole ≤ 10000000)
    × (cond l.none (is_empty (front_digits l.digits)) false ≡ is_empty (front_digits l.fn.digits))
