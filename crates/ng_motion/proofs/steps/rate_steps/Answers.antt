use Rattle.std.proofs.Common.{arith, ◌*◌}
use Rattle.std.proofs.Math.Nat.{div-le_of_le-mul}
use Rattle.ng_motion.proofs.steps.rate_steps.Goals as goal

pub returns-clause-most : goal.returns-clause-most
returns-clause-most c = div-le_of_le-mul (60 * c.args.axis.now.step_nm) (omega (arith, c.args.axis.now.step_in_limits))
