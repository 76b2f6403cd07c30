use Rattle.ng_pace.proofs.SpeedRunLemmas.{keeps-acceleration}
use Rattle.ng_pace.proofs.laws.keeps_acceleration.Goals as goal

pub returns : goal.returns
returns c = keeps-acceleration
