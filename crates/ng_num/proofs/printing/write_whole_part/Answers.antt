use Rattle.std.proofs.Common.{arith, ◌/◌}
use Rattle.std.proofs.lemmas.Fmt.{length-decimal-le, decimal_nonempty}
use Rattle.ng_num.proofs.printing.write_whole_part.Goals as goal

pub write_digits-requires : goal.write_digits-requires
write_digits-requires c =
    let short = length-decimal-le 7 (c.args.size / 1_000_000) (omega arith) (omega arith) (omega arith) in
    (omega arith, c.requires.fits.1)

pub returns-clause-within : goal.returns-clause-within
returns-clause-within c =
    let short = length-decimal-le 7 (c.args.size / 1_000_000) (omega arith) (omega arith) (omega arith) in
    let some = decimal_nonempty (c.args.size / 1_000_000) (omega arith) in
    (omega arith, omega arith)
