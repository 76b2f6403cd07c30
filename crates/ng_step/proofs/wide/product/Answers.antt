use Rattle.std.proofs.lemmas.Grind.{common_steps}
use Rattle.std.proofs.Common.{arith}
use Rattle.ng_step.proofs.wide.product.Goals as goal

pub overflow_cast-result : goal.overflow_cast-result
overflow_cast-result c = omega arith

pub overflow_cast-result-2 : goal.overflow_cast-result-2
overflow_cast-result-2 c = grind arith

pub overflow_mul-result : goal.overflow_mul-result
overflow_mul-result c = grind (arith, common_steps)

pub returns : goal.returns
returns c = grind (arith, common_steps)
