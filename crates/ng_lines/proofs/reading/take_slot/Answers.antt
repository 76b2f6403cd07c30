use Rattle.std.proofs.Common.{◌<◌, ◌^◌, ◌∙◌, arith, sym}
use Rattle.std.specs.Fmt.{decimal}
use Rattle.ng_lines.proofs.ByteLemmas.{no_part, one_first}
use Rattle.ng_lines.proofs.SignedNumberLemmas.{decimal_has_none, same_size}
use Rattle.ng_lines.proofs.reading.take_slot.Goals as goal

pub returns-in_default-clause-only : goal.returns-in_default-clause-only
returns-in_default-clause-only c slot more fits is = no_part 32 (decimal slot) more c.args.text.now c.in_default.ensures is

pub returns-in-Some-slot_in-clause-only : goal.returns-in-Some-slot_in-clause-only
returns-in-Some-slot_in-clause-only c slot more fits is =
    let wide : slot < 2 ^ 64 = omega (arith, fits) in
    let same = one_first 32 c.in-Some.front.now c.in-Some.after.now (decimal slot) more c.in-Some.ensures.0
    (decimal_has_none 32 slot (omega arith) wide) (sym c.in-Some.ensures.1 ∙ is) in
    (same_size _ slot (c.in-Some-slot_in.ensures.only slot fits (sym same.0)), same.1)

pub returns-in-None-clause-only : goal.returns-in-None-clause-only
returns-in-None-clause-only c slot more fits is =
    let wide : slot < 2 ^ 64 = omega (arith, fits) in
    let same = one_first 32 c.in-Some.front.now c.in-Some.after.now (decimal slot) more c.in-Some.ensures.0
    (decimal_has_none 32 slot (omega arith) wide) (sym c.in-Some.ensures.1 ∙ is) in
    let no = c.in-None.ensures.only slot fits (sym same.0) in
    cc
