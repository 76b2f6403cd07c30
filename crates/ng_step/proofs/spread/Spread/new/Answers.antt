use Rattle.std.proofs.Common.{arith, refl}
use Rattle.std.proofs.lemmas.Int.{ints}
use Rattle.ng_step.proofs.LineStepLemmas.{axis_none}
use Rattle.ng_step.proofs.spread.Spread.new.Goals as goal

pub returns-clause-axis : goal.returns-clause-axis
returns-clause-axis c = λ some. axis_none c.args.total _ some (omega (arith, ints)) (omega arith) refl
