use Rattle.std.proofs.Common.{arith, ◌∙◌, ap, ◌+ℤ◌}
use Rattle.std.proofs.lemmas.Int.{ints}
use Rattle.ng_cycles.proofs.CoordinateBetweenLemmas.{between}
use Rattle.ng_cycles.proofs.MachineIntegerLemmas.{sum_stored}
use Rattle.ng_cycles.proofs.drill.HoleAxis.coordinate.Goals as goal

pub overflow_add-nm : goal.overflow_add-nm
overflow_add-nm c = omega (arith, ints)

pub length_of-requires : goal.length_of-requires
length_of-requires c =
    let axis = c.args.self.now in
    let stored = sum_stored c.nm.result axis.from c.times.result c.nm.ensures.value c.nm.ensures.range c.times.ensures.small in
    rw (stored, c.times.ensures.value) (between axis.from axis.step c.args.repeat c.args.repeats c.requires.before c.nm.ensures.range c.requires.last)

pub returns : goal.returns
returns c =
    let axis = c.args.self.now in
    let stored = sum_stored c.nm.result axis.from c.times.result c.nm.ensures.value c.nm.ensures.range c.times.ensures.small in
    c.length_of.ensures ∙ (stored ∙ ap (λ t. axis.from +ℤ t) c.times.ensures.value)
