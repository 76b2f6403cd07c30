use Rattle.std.proofs.Common.{arith, rules}
use Rattle.ng_session.proofs.session.Session.resume_refusal.Goals as goal

pub is_at_rest-requires : goal.is_at_rest-requires
is_at_rest-requires g c κs = grind arith

pub returns-then-not-is_at_rest-clause-refusal : goal.returns-then-not-is_at_rest-clause-refusal
returns-then-not-is_at_rest-clause-refusal g c = grind arith

pub returns-then-not-is_at_rest-clause-same : goal.returns-then-not-is_at_rest-clause-same
returns-then-not-is_at_rest-clause-same g c = grind arith

pub waiting-requires : goal.waiting-requires
waiting-requires g c κs = grind arith

pub returns-in_default-clause-refusal : goal.returns-in_default-clause-refusal
returns-in_default-clause-refusal g c = grind arith

pub returns-in_default-clause-same : goal.returns-in_default-clause-same
returns-in_default-clause-same g c = grind arith

pub is_none-requires : goal.is_none-requires
is_none-requires g c κs = search rules

pub returns-then-is_none-clause-refusal : goal.returns-then-is_none-clause-refusal
returns-then-is_none-clause-refusal g c = grind arith

pub returns-then-is_none-clause-same : goal.returns-then-is_none-clause-same
returns-then-is_none-clause-same g c = grind arith

pub execute_again-requires : goal.execute_again-requires
execute_again-requires g c κs = grind arith

pub invariant_of-self : goal.invariant_of-self
invariant_of-self g c = grind arith

pub returns-clause-refusal : goal.returns-clause-refusal
returns-clause-refusal g c = grind arith

pub returns-clause-same : goal.returns-clause-same
returns-clause-same g c = grind arith
