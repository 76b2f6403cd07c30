use Rattle.std.proofs.Common.{arith}
use Rattle.ng_lines.proofs.DigitLemmas.{beyond, finished}
use Rattle.ng_lines.proofs.whole.value_of.Goals as goal

pub returns-in_default-with_digit : goal.returns-in_default-with_digit
returns-in_default-with_digit c (digits, fits) =
    let digit_is = c.in-Some.ensures.1 in
    let large = c.in_default-with_digit.ensures in
    omega (
      arith,
      fits,
      beyond c.loop-byte.number c.loop-byte.byte-index c.args.digits.now (omega arith)
          c.loop-byte.invariant.0 (omega (arith, digit_is, large)),
    )

pub returns : goal.returns
returns c = finished c.loop-byte.number c.loop-byte.byte-index c.args.digits.now (omega arith)
    c.loop-byte.invariant.2 c.loop-byte.invariant.0 c.loop-byte.invariant.1
