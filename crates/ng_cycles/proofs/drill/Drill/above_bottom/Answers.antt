use Rattle.std.proofs.Common.{arith}
use Rattle.std.proofs.lemmas.Int.{ints, clamps}
use Rattle.ng_cycles.proofs.drill.Drill.above_bottom.Goals as goal

pub overflow_add-above : goal.overflow_add-above
overflow_add-above c = omega (arith, ints)

pub length_of-requires : goal.length_of-requires
length_of-requires c = omega (arith, ints, clamps)

pub returns : goal.returns
returns c = omega (arith, ints, clamps)
