use Rattle.std.proofs.Common.{arith, refl, length, ◌<◌}
use Rattle.ng_words.proofs.WalkPlaceLemmas.{begin_opens, begin_number, begins_so, no_opening, number_shorter}
use Rattle.ng_words.proofs.value.begin.Goals as goal

pub returns-then-begins_number-clause-steps : goal.returns-then-begins_number-clause-steps
returns-then-begins_number-clause-steps c =
    begin_number _ _ _ _ _ _ _ _ _ (no_opening _ (begins_so _ _ c.begins_number.ensures c.if-begins_number.true))
    refl c.in_ok-value.ensures c.push.ensures.items c.settle.ensures.settles

pub returns-then-begins_number-clause-fits : goal.returns-then-begins_number-clause-fits
returns-then-begins_number-clause-fits c =
    let shorter : length c.number.new.cursor < length c.args.cursor.now = number_shorter _ _ _ _ refl c.in_ok-value.ensures in
    omega (arith, c.push.ensures.len, c.settle.ensures.fits)

pub returns-in-Some-clause-steps : goal.returns-in-Some-clause-steps
returns-in-Some-clause-steps c = begin_opens _ _ _ _ _ _ c.in-Some.ensures.opening c.push-in-Some.ensures.items
