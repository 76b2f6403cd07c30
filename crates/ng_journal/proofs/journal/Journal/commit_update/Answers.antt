use Rattle.std.proofs.Common.{◌≤◌, ◌∙◌, List, length, refl, sym, ap, subst, arith}
use Rattle.ng_rig.proofs.GuaranteeLemmas.{meaning}
use Rattle.ng_params.specs.declared.change.Change.{Change}
use Rattle.ng_layout.specs.Update.{UpdateModel, updated}
use Rattle.ng_journal.proofs.ProgramHeldLemmas.{area_few}
use Rattle.ng_journal.proofs.RecordStoreLemmas.{changes_few}
use Rattle.ng_journal.proofs.StoredChangeLemmas.{entry_stored, entry_not_stored}
use Rattle.ng_journal.proofs.journal.Journal.commit_update.Goals as goal
use Rattle.ng_journal.proofs.journal.Journal.commit_update.Goals.{in-Ok, in-Err}

pub is_used_up_by-requires : goal.is_used_up_by-requires
is_used_up_by-requires g c =
    let was = c.args.self.now.saved in
    let few = subst (λ (made : List Change). length made ≤ 5399) (sym c.requires.settled.changes) (changes_few was (updated was c.args.update.now)) in
    let made_is = ap (λ u. u.changes.now) c.update-inside.view_is ∙ ap (λ (u : UpdateModel). u.changes) c.update.view_is in
    subst (λ (made : List Change). length made ≤ 5399) (sym made_is) few

pub store_update-requires-clause-few : goal.store_update-requires-clause-few
store_update-requires-clause-few g c =
    let was = c.args.self.now.saved in
    subst (λ (made : List Change). length made ≤ 5399) (sym c.requires.settled.changes) (changes_few was (updated was c.args.update.now))

pub returns-clause-stores : goal.returns-clause-stores
returns-clause-stores g c =
    let was = c.self.inside.stored in
    let next = updated was c.args.update.now in
    elim c.match-store_update.branch [
      | in-Ok w ↦ rw w.result-is (rw w.self-inside-is (rw (← c.self.view_is) (meaning w.in-Ok.ensures.stores
          (λ s. entry_stored _ _ _ next w.in-Ok.tip _ _ (area_few _ _ c.self.invariant.valid.area) (changes_few was next)
          (record { tip_is = refl; saved_is = w.in-Ok.ensures.saved }) w.in-Ok.ensures.tip s))))
      | in-Err w ↦ rw w.result-is (rw w.self-inside-is (rw (← c.self.view_is) (meaning c.store_update.ensures.stores
          (λ s. entry_not_stored _ c.store_update.result _ _ next _ _ s))))
    ]

pub store_update-requires-clause-sectors : goal.store_update-requires-clause-sectors
store_update-requires-clause-sectors g c = omega arith

pub store_update-requires-clause-tip : goal.store_update-requires-clause-tip
store_update-requires-clause-tip g c = grind arith

pub store_update-requires-clause-settled : goal.store_update-requires-clause-settled
store_update-requires-clause-settled g c = grind arith

pub store_update-requires-clause-epoch : goal.store_update-requires-clause-epoch
store_update-requires-clause-epoch g c = grind arith

pub store_update-requires-clause-old : goal.store_update-requires-clause-old
store_update-requires-clause-old g c = grind arith

pub store_update-requires-clause-new : goal.store_update-requires-clause-new
store_update-requires-clause-new g c = grind arith

pub invariant_of-self : goal.invariant_of-self
invariant_of-self g c = grind arith

pub returns-clause-keeps : goal.returns-clause-keeps
returns-clause-keeps g c = grind arith

pub returns-clause-call : goal.returns-clause-call
returns-clause-call g c = grind arith
