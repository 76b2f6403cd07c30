use Rattle.std.proofs.Common.{arith}
use Rattle.ng_pace.proofs.CapsLemmas.{square_fits}
use Rattle.ng_pace.proofs.caps.square_of.Goals as goal

pub overflow_mul-result-2 : goal.overflow_mul-result-2
overflow_mul-result-2 c = omega (arith, square_fits c.min-rate.result (omega (arith, c.min-rate.ensures)))

pub returns-clause-size : goal.returns-clause-size
returns-clause-size c = square_fits c.min-rate.result (omega (arith, c.min-rate.ensures))
