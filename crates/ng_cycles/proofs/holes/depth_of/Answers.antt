use Rattle.std.proofs.Common.{arith, ◌*◌, ◌<◌, ◌^◌}
use Rattle.std.proofs.lemmas.Nat.{mul-lt}
use Rattle.ng_cycles.proofs.holes.depth_of.Goals as goal

pub overflow_mul-result : goal.overflow_mul-result
overflow_mul-result c = let h : c.args.count * c.nm.result < 2 ^ 64 * 2 ^ 44 =
    mul-lt c.args.count c.nm.result (2 ^ 64) (2 ^ 44) (omega arith) (omega arith) in omega (arith, h)

pub overflow_cast-result-3 : goal.overflow_cast-result-3
overflow_cast-result-3 c = let h : c.args.count * c.nm.result < 2 ^ 64 * 2 ^ 44 =
    mul-lt c.args.count c.nm.result (2 ^ 64) (2 ^ 44) (omega arith) (omega arith) in omega (arith, h)
