use Rattle.ng_words.proofs.WalkPlaceLemmas.{go_on_operation}
use Rattle.ng_words.proofs.value.go_on.Goals as goal

pub returns-in-Some-clause-steps : goal.returns-in-Some-clause-steps
returns-in-Some-clause-steps c = go_on_operation c.args.cursor.now _ _ _ _ _ _ _ _ c.in-Some.ensures.value
    c.level.ensures c.gather-in-Some.ensures.gathers c.push.ensures.items
