use Rattle.std.proofs.Common.{refl}
use Rattle.ng_lines.proofs.DigitLemmas.{begins_badly, is_read, is_written}
use Rattle.ng_lines.proofs.whole.whole_in.Goals as goal

pub returns-then-begins_well-clause-only : goal.returns-then-begins_well-clause-only
returns-then-begins_well-clause-only c = is_read c.args.text.now c.value_of.result c.value_of.ensures

pub returns-then-begins_well-clause-found : goal.returns-then-begins_well-clause-found
returns-then-begins_well-clause-found c =
    let well = c.if-begins_well.ensures.yes refl in
    is_written c.args.text.now c.value_of.result c.value_of.ensures well.0 well.1

pub returns-else-begins_well-clause-only : goal.returns-else-begins_well-clause-only
returns-else-begins_well-clause-only c n fits is = absurd (begins_badly n c.args.text.now fits is (c.if-begins_well.ensures.no refl))
