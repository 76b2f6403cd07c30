use Rattle.std.proofs.Common.{arith, refl, length, ◌<◌}
use Rattle.ng_words.proofs.WalkPlaceLemmas.{begins_so, begins_otherwise, number_shorter}
use Rattle.ng_words.proofs.AddedPieceLemmas.{number_word, walked_word}
use Rattle.ng_words.proofs.reading.word.Goals as goal

pub returns-in-Some-clause-word : goal.returns-in-Some-clause-word
returns-in-Some-clause-word c =
    number_word _ _ _ _ _ _ _ (begins_so _ _ c.begins_number.ensures c.if-begins_number.true) c.in-Some.ensures c.push.ensures.items

pub returns-in-Some-clause-fits : goal.returns-in-Some-clause-fits
returns-in-Some-clause-fits c =
    let shorter : length c.number.new.cursor < length c.args.cursor.now = number_shorter _ _ _ _ refl c.in-Some.ensures in λ t. omega arith

pub returns-in-Some-walk-clause-word : goal.returns-in-Some-walk-clause-word
returns-in-Some-walk-clause-word c =
    walked_word _ _ _ _ _ _ _ _ (begins_otherwise _ _ c.begins_number.ensures c.if-begins_number.false)
    c.in-Some-walk.ensures.value c.push-in-Some-walk.ensures.items
