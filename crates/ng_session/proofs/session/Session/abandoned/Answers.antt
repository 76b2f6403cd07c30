use Rattle.std.proofs.Common.{ap, subst, rules, arith}
use Rattle.ng_layout.specs.Storable.{IsStorable}
use Rattle.ng_layout.specs.Update.{UpdateModel}
use Rattle.ng_session.specs.Session.{SessionModel}
use Rattle.ng_session.proofs.NextEntryLemmas.{abandon_next}
use Rattle.ng_session.proofs.session.Session.abandoned.Goals as goal

pub returns-in-Some-clause-next : goal.returns-in-Some-clause-next
returns-in-Some-clause-next g c =
    abandon_next c.args.self.now.stored c.of_state_field.result c.in-Some.half
    (subst (λ (s : SessionModel). IsStorable s.stored) c.self.view_is c.self.invariant.storable)
    (search rules) (ap (λ (u : UpdateModel). u.changes) c.of_state_field.ensures) (ap (λ (u : UpdateModel). u.slot) c.of_state_field.ensures) (search rules)

pub overflow_add-self-inside-inside-inside : goal.overflow_add-self-inside-inside-inside
overflow_add-self-inside-inside-inside g c = grind arith

pub given_up-requires : goal.given_up-requires
given_up-requires g c = omega arith

pub of_state_field-requires : goal.of_state_field-requires
of_state_field-requires g c = omega arith

pub returns-in-Some-clause-value : goal.returns-in-Some-clause-value
returns-in-Some-clause-value g c = grind arith

pub returns-in-None-clause-value : goal.returns-in-None-clause-value
returns-in-None-clause-value g c = grind arith

pub returns-in-None-clause-next : goal.returns-in-None-clause-next
returns-in-None-clause-next g c = omega arith
