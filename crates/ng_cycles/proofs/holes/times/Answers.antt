use Rattle.std.proofs.Common.{arith}
use Rattle.ng_cycles.proofs.MachineIntegerLemmas.{product_stored}
use Rattle.ng_cycles.proofs.holes.times.Goals as goal

pub overflow_mul-result : goal.overflow_mul-result
overflow_mul-result c = (product_stored c.args.count c.args.length c.nm.result (omega arith) c.nm.ensures.range c.nm.ensures.value).fits

pub returns-clause-value : goal.returns-clause-value
returns-clause-value c = (product_stored c.args.count c.args.length c.nm.result (omega arith) c.nm.ensures.range c.nm.ensures.value).value

pub returns-clause-small : goal.returns-clause-small
returns-clause-small c = (product_stored c.args.count c.args.length c.nm.result (omega arith) c.nm.ensures.range c.nm.ensures.value).small
