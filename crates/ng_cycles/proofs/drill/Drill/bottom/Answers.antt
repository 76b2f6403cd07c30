use Rattle.std.proofs.Common.{arith}
use Rattle.std.proofs.lemmas.Int.{ints, clamps}
use Rattle.ng_cycles.proofs.drill.Drill.bottom.Goals as goal

pub overflow_sub-below : goal.overflow_sub-below
overflow_sub-below c = omega (arith, ints)

pub length_of-requires : goal.length_of-requires
length_of-requires c = omega (arith, ints, clamps)

pub returns : goal.returns
returns c = omega (arith, ints, clamps)
