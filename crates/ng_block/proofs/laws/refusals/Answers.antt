use Rattle.ng_block.proofs.CauseLemmas.{none_of, first_of}
use Rattle.ng_block.proofs.laws.refusals.Goals as goal

pub returns-clause-accepted : goal.returns-clause-accepted
returns-clause-accepted c = none_of

pub returns-clause-refused : goal.returns-clause-refused
returns-clause-refused c = first_of
