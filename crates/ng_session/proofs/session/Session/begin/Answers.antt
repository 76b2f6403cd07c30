use Rattle.std.proofs.Common.{arith}
use Rattle.ng_session.proofs.session.Session.begin.Goals as goal

pub execute_after_lines-requires : goal.execute_after_lines-requires
execute_after_lines-requires g c κs = grind arith

pub invariant_of-self : goal.invariant_of-self
invariant_of-self g c = grind arith

pub returns-in-Err-clause-stored : goal.returns-in-Err-clause-stored
returns-in-Err-clause-stored g c = grind arith

pub returns-in-Err-clause-reply : goal.returns-in-Err-clause-reply
returns-in-Err-clause-reply g c = grind arith

pub returns-in-Err-clause-next : goal.returns-in-Err-clause-next
returns-in-Err-clause-next g c = grind arith

pub begun-begun-requires-clause-storable : goal.begun-begun-requires-clause-storable
begun-begun-requires-clause-storable g c = grind arith

pub begun-begun-requires-clause-within : goal.begun-begun-requires-clause-within
begun-begun-requires-clause-within g c = grind arith

pub begun-begun-requires-clause-stands : goal.begun-begun-requires-clause-stands
begun-begun-requires-clause-stands g c = grind arith

pub begun-begun-requires-clause-short : goal.begun-begun-requires-clause-short
begun-begun-requires-clause-short g c = grind arith

pub invariant_of-self-2 : goal.invariant_of-self-2
invariant_of-self-2 g c = grind arith

pub returns-clause-stored : goal.returns-clause-stored
returns-clause-stored g c = grind arith

pub returns-clause-reply : goal.returns-clause-reply
returns-clause-reply g c = grind arith

pub returns-clause-next : goal.returns-clause-next
returns-clause-next g c = grind arith
