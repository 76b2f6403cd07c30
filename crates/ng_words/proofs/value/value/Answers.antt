use Rattle.std.proofs.Common.{arith, refl, length, ◌<◌}
use Rattle.ng_words.proofs.WalkPlaceLemmas.{begins_so, number_taken, number_shorter, value_shorter}
use Rattle.ng_words.proofs.value.value.Goals as goal

pub returns-then-not-begins_number-clause-shorter : goal.returns-then-not-begins_number-clause-shorter
returns-then-not-begins_number-clause-shorter c = value_shorter _ _ _ _ _ c.walk.ensures.value

pub returns-clause-value : goal.returns-clause-value
returns-clause-value c =
    number_taken _ _ _ _ _ (begins_so _ _ c.begins_number.ensures c.if-not-begins_number.false) c.in_ok-value.ensures c.push.ensures.items

pub returns-clause-fits : goal.returns-clause-fits
returns-clause-fits c =
    let shorter : length c.number.new.cursor < length c.args.cursor.now = number_shorter _ _ _ _ refl c.in_ok-value.ensures in omega (arith, c.push.ensures.len)

pub returns-clause-shorter : goal.returns-clause-shorter
returns-clause-shorter c = number_shorter _ _ _ _ refl c.in_ok-value.ensures
