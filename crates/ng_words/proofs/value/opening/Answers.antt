use Rattle.ng_words.proofs.WalkPlaceLemmas.{opening_function}
use Rattle.ng_words.proofs.value.opening.Goals as goal

pub returns-in-Some-clause-opening : goal.returns-in-Some-clause-opening
returns-in-Some-clause-opening c = opening_function c.args.cursor.now _ _ c.in-Some.ensures.value
