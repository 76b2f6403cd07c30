use Rattle.std.proofs.Common.{refl, subst, rules, arith}
use Rattle.ng_layout.specs.Storable.{IsStorable}
use Rattle.ng_session.specs.Session.{SessionModel}
use Rattle.ng_session.proofs.NextEntryLemmas.{tool_next}
use Rattle.ng_session.proofs.session.Session.tooled.Goals as goal

pub returns-clause-next : goal.returns-clause-next
returns-clause-next g c =
    tool_next c.args.self.now.stored _ c.args.slot c.args.tool_length
    (subst (λ (s : SessionModel). IsStorable s.stored) c.self.view_is c.self.invariant.storable)
    c.requires.slot c.requires.tool refl refl (search rules)

pub overflow_add-result : goal.overflow_add-result
overflow_add-result g c = grind arith

pub waiting-requires : goal.waiting-requires
waiting-requires g c κs = grind arith

pub slice_bounds-result-end : goal.slice_bounds-result-end
slice_bounds-result-end g c = omega arith

pub overflow_cast-result : goal.overflow_cast-result
overflow_cast-result g c = grind arith

pub returns-clause-value : goal.returns-clause-value
returns-clause-value g c = grind arith
