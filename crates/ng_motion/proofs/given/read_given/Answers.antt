use Rattle.std.proofs.Common.{rules}
use Rattle.ng_motion.proofs.given.read_given.Goals as goal

pub returns-in-Err-axes_or_zeros : goal.returns-in-Err-axes_or_zeros
returns-in-Err-axes_or_zeros c = rw c.in-Err-axes_or_zeros.ensures.0 (search rules)

pub returns-in-Err-axes_or_zeros-2 : goal.returns-in-Err-axes_or_zeros-2
returns-in-Err-axes_or_zeros-2 c = rw c.in-Err-axes_or_zeros-2.ensures.0 (search rules)

pub returns-in-Err-whole_or : goal.returns-in-Err-whole_or
returns-in-Err-whole_or c = rw c.in-Err-whole_or.ensures.0 (search rules)

pub returns-in-Err-whole_or-2 : goal.returns-in-Err-whole_or-2
returns-in-Err-whole_or-2 c = rw c.in-Err-whole_or-2.ensures.0 (search rules)
