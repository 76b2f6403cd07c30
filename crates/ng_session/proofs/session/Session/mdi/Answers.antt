use Rattle.std.proofs.Common.{arith}
use Rattle.ng_session.proofs.session.Session.mdi.Goals as goal

pub refuses_mdi-requires : goal.refuses_mdi-requires
refuses_mdi-requires g c κs = grind arith

pub returns-then-refuses_mdi-clause-reply : goal.returns-then-refuses_mdi-clause-reply
returns-then-refuses_mdi-clause-reply g c = grind arith

pub returns-then-refuses_mdi-clause-next : goal.returns-then-refuses_mdi-clause-next
returns-then-refuses_mdi-clause-next g c = grind arith

pub is_place_known-requires : goal.is_place_known-requires
is_place_known-requires g c κs = grind arith

pub returns-then-not-is_place_known-clause-next : goal.returns-then-not-is_place_known-clause-next
returns-then-not-is_place_known-clause-next g c = grind arith

pub place-place-requires : goal.place-place-requires
place-place-requires g c κs = grind arith

pub execute_alone-requires : goal.execute_alone-requires
execute_alone-requires g c κs = grind arith

pub invariant_of-self : goal.invariant_of-self
invariant_of-self g c = grind arith

pub returns-in-Err-clause-reply : goal.returns-in-Err-clause-reply
returns-in-Err-clause-reply g c = grind arith

pub returns-in-Err-clause-next : goal.returns-in-Err-clause-next
returns-in-Err-clause-next g c = grind arith

pub begun-current-requires-clause-storable : goal.begun-current-requires-clause-storable
begun-current-requires-clause-storable g c = grind arith

pub begun-current-requires-clause-within : goal.begun-current-requires-clause-within
begun-current-requires-clause-within g c = grind arith

pub begun-current-requires-clause-stands : goal.begun-current-requires-clause-stands
begun-current-requires-clause-stands g c = grind arith

pub begun-current-requires-clause-short : goal.begun-current-requires-clause-short
begun-current-requires-clause-short g c = grind arith

pub laid_by-self-inside-requires : goal.laid_by-self-inside-requires
laid_by-self-inside-requires g c = omega arith

pub invariant_of-self-2 : goal.invariant_of-self-2
invariant_of-self-2 g c = grind arith

pub returns-clause-reply : goal.returns-clause-reply
returns-clause-reply g c = grind arith

pub returns-clause-next : goal.returns-clause-next
returns-clause-next g c = grind arith
