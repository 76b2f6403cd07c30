use Rattle.std.proofs.Common.{◌∙◌, ap, sym, subst}
use Rattle.ng_layout.specs.Storable.{IsStorable}
use Rattle.ng_layout.specs.Update.{UpdateModel, updated}
use Rattle.ng_session.proofs.NextEntryLemmas.{holds_next}
use Rattle.ng_session.proofs.session.Session.referenced.Goals as goal

pub returns-clause-next : goal.returns-clause-next
returns-clause-next g c =
    let x = c.args.self.now.stored in
    let is = c.of_state_field.ensures in
    holds_next x c.of_state_field.result (ap (λ (u : UpdateModel). u.changes) is) (ap (λ (u : UpdateModel). u.slot) is)
    (ap (λ (u : UpdateModel). u.decoded.entries) is ∙ c.referenced_state.ensures.count)
    (subst (λ (u : UpdateModel). IsStorable (updated x u)) (sym is) c.referenced_state.ensures.storable)
