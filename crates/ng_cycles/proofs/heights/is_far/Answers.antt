use Rattle.std.proofs.Common.{arith, ◌∙◌, ap, pos, ◌+ℤ◌, ◌*ℤ◌, unsigned_abs}
use Rattle.std.proofs.lemmas.Int.{ints}
use Rattle.ng_cycles.proofs.RangeSumLemmas.{beyond_is_far}
use Rattle.ng_cycles.proofs.MachineIntegerLemmas.{sum_stored}
use Rattle.ng_cycles.proofs.heights.is_far.Goals as goal

pub overflow_add-nm : goal.overflow_add-nm
overflow_add-nm c = omega (arith, ints)

pub returns : goal.returns
returns c =
    let stored = sum_stored c.nm.result c.args.coordinate c.times-added.result c.nm.ensures.value c.nm.ensures.range c.times-added.ensures.small in
    beyond_is_far (c.args.coordinate +ℤ pos c.args.repeats *ℤ c.args.length) c.unsigned_abs.result
    (c.unsigned_abs.ensures.value ∙ ap unsigned_abs (stored ∙ ap (λ t. c.args.coordinate +ℤ t) c.times-added.ensures.value))
