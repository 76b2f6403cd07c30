use Rattle.std.proofs.lemmas.Grind.{common_steps}
use Rattle.std.proofs.Common.{◌<◌, ◌/◌, ◌^◌, ◌-◌, ◌∙◌, arith, length, sym}
use Rattle.ng_lines.proofs.MillionthLemmas.{size_found, size_parts, size_read}
use Rattle.ng_lines.proofs.number.size_in.Goals as goal

pub returns-clause-found : goal.returns-clause-found
returns-clause-found c =
    size_found c.in-Some.whole c.in-Some-millionths_in.millionths (length c.args.text.now - 7) _ _ c.args.text.now
    c.in_millionths.result c.in_millionths.ensures c.in-Some-millionths_in.ensures.found.0
    c.in-Some.ensures.found
    c.in-Some-millionths_in.ensures.found.1 c.split_at.ensures.front c.split_at.ensures.back

pub returns-clause-only : goal.returns-clause-only
returns-clause-only c n fits is =
    let parts = size_parts n c.args.text.now is in
    let small : n < 2 ^ 64 = omega (arith, fits) in
    let whole = c.in-Some.ensures.only (n / 1_000_000) (omega (arith, small)) (sym (c.split_at.ensures.front ∙ parts.0)) in
    let six = c.in-Some-millionths_in.ensures.only n (sym (c.split_at.ensures.back ∙ parts.1)) in
    size_read n c.in-Some.whole c.in-Some-millionths_in.millionths c.in_millionths.result c.in_millionths.ensures small whole six

pub returns-then-text-lt7-clause-found : goal.returns-then-text-lt7-clause-found
returns-then-text-lt7-clause-found c = omega arith

pub returns-then-text-lt7-clause-only : goal.returns-then-text-lt7-clause-only
returns-then-text-lt7-clause-only c = grind (arith, common_steps)

pub overflow_sub-text : goal.overflow_sub-text
overflow_sub-text c = omega arith

pub split_at-requires : goal.split_at-requires
split_at-requires c = omega arith

pub whole_in-requires : goal.whole_in-requires
whole_in-requires c = omega arith

pub returns-in_default-clause-found : goal.returns-in_default-clause-found
returns-in_default-clause-found c = omega arith

pub returns-in_default-clause-only : goal.returns-in_default-clause-only
returns-in_default-clause-only c = grind (arith, common_steps)

pub millionths_in-requires : goal.millionths_in-requires
millionths_in-requires c = omega arith

pub in_millionths-requires : goal.in_millionths-requires
in_millionths-requires c = grind arith
