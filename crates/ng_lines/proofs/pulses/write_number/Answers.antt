use Rattle.std.proofs.Common.{arith}
use Rattle.std.proofs.lemmas.Fmt.{length-decimal-le}
use Rattle.ng_lines.proofs.pulses.write_number.Goals as goal

pub write_digits-requires : goal.write_digits-requires
write_digits-requires c =
    let short = length-decimal-le 20 c.args.n (omega arith) (omega arith) (omega arith) in
    (omega arith, c.requires.1)

pub returns-clause-within : goal.returns-clause-within
returns-clause-within c =
    let short = length-decimal-le 20 c.args.n (omega arith) (omega arith) (omega arith) in
    (omega arith, omega arith)
