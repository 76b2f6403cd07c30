use Rattle.ng_lines.proofs.MillionthLemmas.{six_found, six_read}
use Rattle.ng_lines.proofs.number.decimals_in.Goals as goal

pub returns-clause-found : goal.returns-clause-found
returns-clause-found c = six_found c.args.digits.now c.value_of.result c.if-digits-ne6.false c.value_of.ensures

pub returns-clause-only : goal.returns-clause-only
returns-clause-only c n written = six_read c.args.digits.now c.value_of.result c.value_of.ensures n written
