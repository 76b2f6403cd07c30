use Rattle.std.proofs.Common.{arith}
use Rattle.ng_modal.proofs.slots.put.Goals as goal

pub is_some-was-requires : goal.is_some-was-requires
is_some-was-requires g c κs = grind arith

pub returns-clause-value : goal.returns-clause-value
returns-clause-value g c = grind arith

pub returns-clause-was : goal.returns-clause-was
returns-clause-was g c = grind arith
