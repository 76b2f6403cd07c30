use Rattle.std.proofs.Common.{◌≡◌, ℕ, List, Some, Ok, Err, refl, sym, ◌∙◌, ap, subst}
use Rattle.std.proofs.lemmas.Result.{err_from_is_err_and}
use Rattle.ng_num.specs.declared.fault.Fault.{Fault}
use Rattle.ng_num.specs.declared.fault.Fault.TheVariants.{CountersUsed}
use Rattle.ng_layout.specs.Stored.{StoredModel}
use Rattle.ng_layout.specs.Update.{UpdateModel, updated}
use Rattle.ng_journal.specs.Storing.{Storing, Commit, ledger_of}
use Rattle.ng_rig.proofs.GuaranteeLemmas.{meaning}
use Rattle.ng_canon.specs.declared.geometry.Geometry.{Geometry}
use Rattle.ng_session.proofs.PlannedLineLemmas.{plan_none}
use Rattle.ng_session.specs.Session.{SessionModel, Transition, commits}
use Rattle.ng_session.specs.SessionInvariant.{IsNextEntry}
use Rattle.ng_session.specs.declared.reply.Reply.TheVariants as reply
use Rattle.ng_core.specs.Model.{ControllerModel}
use Rattle.ng_core.proofs.AnyDeviceLemmas.{comes_by}
use Rattle.ng_core.proofs.CarriesOutLemmas.{carried_as, carried_failed}
use Rattle.ng_core.proofs.ProgramInForceLemmas.{reads_answered}
use Rattle.ng_core.proofs.HonestCallLemmas.{calls_made, makes_entry, ledger_entry}
use Rattle.ng_core.proofs.EventCauseLemmas.{hindered_storing}
use Rattle.ng_core.proofs.ReportEntryLemmas.{keeps, keeps_none}
use Rattle.ng_core.proofs.StoredJournalLemmas.{settled_next, storable_next}
use Rattle.ng_core.proofs.controller.Controller.keep.Goals as goal

pub commit_update-requires-clause-storable : goal.commit_update-requires-clause-storable
commit_update-requires-clause-storable g c =
    let whole = ap (λ (x : ControllerModel g.row.R.Denot). x.journal.broken) c.self.view_is ∙ c.requires.whole in
    let next = subst (λ (x : ControllerModel g.row.R.Denot). IsNextEntry x.session.stored c.args.update.now) (sym c.self.view_is) c.requires.next in
    storable_next _ _ c.args.update.now (c.self.invariant.saved whole) next

pub commit_update-requires-clause-settled : goal.commit_update-requires-clause-settled
commit_update-requires-clause-settled g c =
    let whole = ap (λ (x : ControllerModel g.row.R.Denot). x.journal.broken) c.self.view_is ∙ c.requires.whole in
    let next = subst (λ (x : ControllerModel g.row.R.Denot). IsNextEntry x.session.stored c.args.update.now) (sym c.self.view_is) c.requires.next in
    settled_next _ _ c.args.update.now (c.self.invariant.saved whole) next

pub invariant_of-self-2 : goal.invariant_of-self-2
invariant_of-self-2 g c =
    let update : UpdateModel = c.args.update.now in
    let whole = ap (λ (x : ControllerModel g.row.R.Denot). x.journal.broken) c.self.view_is ∙ c.requires.whole in
    let alone = ap (λ (x : ControllerModel g.row.R.Denot). x.lines.ahead) c.self.view_is ∙ c.requires.alone in
    record {
      saved = λ _. ap (λ (s : SessionModel). s.stored) c.take.ensures.next
          ∙ ap (λ (x : StoredModel). updated x update) (c.self.invariant.saved whole)
          ∙ sym c.in_ok-commit_update.ensures.keeps.saved_is;
      plan = plan_none _ _ c.self.inside.lines.ahead _ alone;
    }

pub returns-in_err-commit_update : goal.returns-in_err-commit_update
returns-in_err-commit_update g c = λ entry committed.
    let p = err_from_is_err_and c.from_residual.result c.from_residual.ensures.1 in
    let e = c.in_err-commit_update.field-0.0 in
    let update : UpdateModel = c.args.update.now in
    let geometry : Geometry = c.self.inside.geometry in
    let old : ControllerModel g.row.R.Denot =
    record {
      journal = c.self.inside.journal;
      session = c.self.inside.session;
      lines = c.self.inside.lines;
      geometry = geometry;
    } in
    let new : ControllerModel g.row.R.Denot = record {
      journal = c.commit_update.new.self;
      session = c.self.inside.session;
      lines = c.self.inside.lines;
      geometry = geometry;
    } in
    let whole = ap (λ (x : ControllerModel g.row.R.Denot). x.journal.broken) c.self.view_is ∙ c.requires.whole in
    let next : SessionModel = record old.session { stored = updated old.session.stored update } in
    let saved : StoredModel = updated old.journal.saved update in
    let is : saved ≡ next.stored = ap (λ (x : StoredModel). updated x update) (sym (c.self.invariant.saved whole)) in
    let own : List ℕ → Transition = λ program. commits program entry next in
    let failed = c.in_err-commit_update.ensures.fails in
    let unchanged : e ≡ CountersUsed → new.journal ≡ old.journal = λ used. failed.unchanged (ap (λ (f : Fault). Err f) used) in
    rw (p.1) (carried_as g.R.Rig.seen (λ (x : ControllerModel g.row.R.Denot). ⊥)
    (λ (x : ControllerModel g.row.R.Denot). Unit {0}) (λ (x : ControllerModel g.row.R.Denot). ⊥)
    (λ (x : ControllerModel g.row.R.Denot) (program : List ℕ).
    commits program entry (record x.session { stored = updated x.session.stored c.args.update.now }))
    (Err p.0) c.args.self.now old new c.self.view_is
    (carried_failed g.R.Rig.seen ⊥ (Unit {0}) ⊥ p.0 e own old new p.2
    (keeps_none g.R.Rig.seen e saved entry next old new is refl failed.causes unchanged
    (meaning c.in_err-commit_update.ensures.stores (λ s. s.stops)) refl)
    (makes_entry {T = Unit {0}} g.R.Rig.seen (Err e) reply.Idle saved next.stored own old new is
    (λ program. ap (λ (x : Storing). Some x) (committed next.stored)) (meaning c.in_err-commit_update.ensures.stores (λ s. s.writes)))
    failed.causes unchanged refl refl refl
    (hindered_storing (Unit {0}) e (ledger_of old.journal) own (Commit saved) failed.causes failed.used_up
    (λ program. ap (λ (x : Storing). Some x) (committed next.stored) ∙ ap (λ (x : StoredModel). Some (Commit x)) (sym is)))
    c.in_err-commit_update.ensures.call))

pub returns : goal.returns
returns g c = λ entry committed.
    let update : UpdateModel = c.args.update.now in
    let geometry : Geometry = c.self.inside.geometry in
    let old : ControllerModel g.row.R.Denot =
    record {
      journal = c.self.inside.journal;
      session = c.self.inside.session;
      lines = c.self.inside.lines;
      geometry = geometry;
    } in
    let new : ControllerModel g.row.R.Denot = record {
      journal = c.commit_update.new.self;
      session = c.take.new.self;
      lines = c.self.inside.lines;
      geometry = geometry;
    } in
    let whole = ap (λ (x : ControllerModel g.row.R.Denot). x.journal.broken) c.self.view_is ∙ c.requires.whole in
    let next : SessionModel = record old.session { stored = updated old.session.stored update } in
    let saved : StoredModel = updated old.journal.saved update in
    let is : saved ≡ next.stored = ap (λ (x : StoredModel). updated x update) (sym (c.self.invariant.saved whole)) in
    let own : List ℕ → Transition = λ program. commits program entry next in
    let done = c.in_ok-commit_update.ensures in
    carried_as g.R.Rig.seen (λ (x : ControllerModel g.row.R.Denot). ⊥) (λ (x : ControllerModel g.row.R.Denot).
    Unit {0}) (λ (x : ControllerModel g.row.R.Denot). ⊥)
    (λ (x : ControllerModel g.row.R.Denot) (program : List ℕ).
    commits program entry (record x.session { stored = updated x.session.stored c.args.update.now }))
    (Ok c.take.result) c.args.self.now old new c.self.view_is (record {
      does = keeps g.R.Rig.seen c.in_ok-commit_update.field-0 c.take.result saved entry next old new is
          c.take.ensures.reply c.take.ensures.next (meaning done.stores (λ s. s.stops)) refl;
      calls = calls_made g.R.Rig.seen c.take.result own old new
          (makes_entry g.R.Rig.seen (Ok c.in_ok-commit_update.field-0) c.take.result saved next.stored own old new is
          (λ program. ap (λ (x : Storing). Some x) (committed next.stored)) (meaning done.stores (λ s. s.writes)));
      reads = reads_answered g.R.Rig.seen c.take.result own old new (λ h. (done.stores.holds h).holds)
          (λ program. refl) (λ program known. known) (λ program. c.take.ensures.reply) (λ program. c.take.ensures.next);
      comes = comes_by ⊥ c.take.result own old new (λ program. c.take.ensures.reply) (λ program. c.take.ensures.next);
      line = λ none. absurd none;
      ledger = ledger_entry g.R.Rig.seen saved next.stored own old new is
          (λ program. ap (λ (x : Storing). Some x) (committed next.stored)) done.keeps.ledger;
      hindered = tt;
      broken = done.call.broken;
      geometry = refl;
      size = done.call.size;
      failures = done.call.failures;
    })
