use Rattle.std.proofs.Common.{◌∙◌, sym}
use Rattle.ng_num.specs.Printing.{number_text}
use Rattle.ng_lines.proofs.ByteLemmas.{no_part, one_first}
use Rattle.ng_lines.proofs.SignedNumberLemmas.{number_no_blank, same_number}
use Rattle.ng_lines.proofs.reading.take_number.Goals as goal

pub returns-in_default-clause-only : goal.returns-in_default-clause-only
returns-in_default-clause-only c number more small is = no_part 32 (number_text number) more c.args.text.now c.in_default.ensures is

pub returns-in-Some-number_in-clause-only : goal.returns-in-Some-number_in-clause-only
returns-in-Some-number_in-clause-only c number more small is =
    let same = one_first 32 c.in-Some.front.now c.in-Some.after.now (number_text number) more c.in-Some.ensures.0
    (number_no_blank number small) (sym c.in-Some.ensures.1 ∙ is) in
    (same_number _ number (c.in-Some-number_in.ensures.only number small (sym same.0)), same.1)

pub returns-in-None-clause-only : goal.returns-in-None-clause-only
returns-in-None-clause-only c number more small is =
    let same = one_first 32 c.in-Some.front.now c.in-Some.after.now (number_text number) more c.in-Some.ensures.0
    (number_no_blank number small) (sym c.in-Some.ensures.1 ∙ is) in
    let no = c.in-None.ensures.only number small (sym same.0) in
    cc
