use Rattle.ng_pace.proofs.PathStepLemmas.{keep-so-far}
use Rattle.ng_pace.proofs.laws.lines_keep.Goals as goal

pub returns : goal.returns
returns c = λ flow legs underway. keep-so-far flow.limits flow.chord _ legs underway.path
