use Rattle.ng_lines.proofs.SignedNumberLemmas.{read_signed, read_unsigned}
use Rattle.ng_lines.proofs.number.number_in.Goals as goal

pub returns-in-Some-clause-only : goal.returns-in-Some-clause-only
returns-in-Some-clause-only c z small written = read_signed z c.args.text.now _ c.below_zero.result small written
    c.in-Some.ensures.found c.below_zero.ensures.only

pub returns-in-None-clause-only : goal.returns-in-None-clause-only
returns-in-None-clause-only c z small written = read_unsigned z c.args.text.now c.from_zero.result small written c.in-None.ensures.none c.from_zero.ensures.only
