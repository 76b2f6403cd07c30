use Rattle.std.proofs.Common.{arith}
use Rattle.ng_block.proofs.remark.Remark.command.Goals as goal

pub as_slice-requires : goal.as_slice-requires
as_slice-requires c = omega arith

pub as_slice-requires-in-Some-Message : goal.as_slice-requires-in-Some-Message
as_slice-requires-in-Some-Message c = omega arith

pub returns-in-None : goal.returns-in-None
returns-in-None c = grind arith

pub returns-in-Some-Comment : goal.returns-in-Some-Comment
returns-in-Some-Comment c = grind arith

pub returns-in-Some-Message : goal.returns-in-Some-Message
returns-in-Some-Message c = grind arith
