use Rattle.std.proofs.Common.{arith, ◌≡◌, ◌+◌, ◌-◌, ◌-ℤ◌, unsigned_abs}
use Rattle.std.proofs.lemmas.Int.{ints}
use Rattle.ng_cycles.proofs.MachineIntegerLemmas.{few_parts}
use Rattle.ng_cycles.proofs.drill.Drill.pecks.Goals as goal

pub overflow_sub-nm : goal.overflow_sub-nm
overflow_sub-nm c = omega (arith, ints)

pub overflow_add-depth : goal.overflow_add-depth
overflow_add-depth c = omega (arith, ints)

pub returns-clause-value : goal.returns-clause-value
returns-clause-value c =
    let d = c.args.self.now in
    let depth : c.unsigned_abs-depth.result ≡ unsigned_abs (d.r -ℤ d.z) = omega (arith, ints) in
    grind arith

pub returns-clause-few : goal.returns-clause-few
returns-clause-few c =
    let few = few_parts (c.unsigned_abs-depth.result + (c.nm-3.result - 1)) c.nm-4.result (omega arith) (omega (arith, ints)) in
    omega (arith, few)
