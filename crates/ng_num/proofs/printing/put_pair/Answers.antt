use Rattle.std.proofs.Common.{◌≡◌, ◌+◌, arith}
use Rattle.ng_num.proofs.DigitPairLemmas.{has_pair}
use Rattle.ng_num.proofs.printing.put_pair.Goals as goal

pub returns : goal.returns
returns c =
    let digits = has_pair c.args.pair c.requires.small in
    let next : c.args.at + 1 + 1 ≡ c.args.at + 2 = omega arith in
    rw (c.put-2.ensures, c.put.ensures, digits.0, digits.1, next)
