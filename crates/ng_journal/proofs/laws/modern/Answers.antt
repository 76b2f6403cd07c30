use Rattle.ng_layout.proofs.ImageLemmas.{modern-beside}
use Rattle.ng_journal.proofs.laws.modern.Goals as goal

pub returns : goal.returns
returns c = λ tools image m. modern-beside tools image m
