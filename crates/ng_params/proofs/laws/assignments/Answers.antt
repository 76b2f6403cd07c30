use Rattle.ng_params.proofs.AssignmentLemmas.{last_counts, at-others}
use Rattle.ng_params.proofs.laws.assignments.Goals as goal

pub returns-clause-last : goal.returns-clause-last
returns-clause-last c = last_counts

pub returns-clause-others : goal.returns-clause-others
returns-clause-others c = at-others
