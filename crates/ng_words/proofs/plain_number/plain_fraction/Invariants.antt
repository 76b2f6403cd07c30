use Rattle.std.proofs.Common.{◌≡◌, ◌+◌, ◌-◌, ◌*◌, ◌/◌, ◌^◌, ◌≤◌, false, cond}
use Rattle.ng_words.specs.Scan.{fraction_from, front_digits, after_digits, is_empty}
use Rattle.ng_words.proofs.plain_number.plain_fraction.Given as goal

-- the next digit is worth 10 ^ (6 - counter) ten-millionths
abbrev pub invariant-loop : goal.invariant-loop
invariant-loop l = record {
  rest : after_digits l.digits ≡ after_digits l.fn.digits;
  value : l.sum * 10 + fraction_from (10 ^ (6 - l.counter)) (front_digits l.digits) ≡ fraction_from 1000000 (front_digits l.fn.digits);
  unit : l.unit ≡ 10 ^ (6 - l.counter) / 10;
  bound : l.sum + 10 ^ (6 - l.counter) ≤ 1000000;
  none : cond l.none (is_empty (front_digits l.digits)) false ≡ is_empty (front_digits l.fn.digits);
}
