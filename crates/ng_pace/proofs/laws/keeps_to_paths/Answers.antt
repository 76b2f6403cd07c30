use Rattle.ng_pace.proofs.PathsLemmas.{keeps-to-paths}
use Rattle.ng_pace.proofs.laws.keeps_to_paths.Goals as goal

pub returns : goal.returns
returns c = keeps-to-paths
