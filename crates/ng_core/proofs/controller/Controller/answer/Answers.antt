use Rattle.std.proofs.Common.{◌≡◌, ℕ, List, [], Ok, refl, ◌∙◌, ap, subst}
use Rattle.ng_canon.specs.declared.geometry.Geometry.{Geometry}
use Rattle.ng_session.proofs.PlannedLineLemmas.{plan_answered}
use Rattle.ng_session.specs.Session.{SessionModel}
use Rattle.ng_session.specs.Step.{step, TakesMemory, AsksDevice, NeedsProgramLine}
use Rattle.ng_core.specs.Model.{ControllerModel}
use Rattle.ng_core.specs.Events.{CarriesOutEvent}
use Rattle.ng_core.proofs.QuietEventLemmas.{still_step, quiet_unread}
use Rattle.ng_core.proofs.CarriesOutLemmas.{carried_still}
use Rattle.ng_core.proofs.controller.Controller.answer.Goals as goal

pub invariant_of-self : goal.invariant_of-self
invariant_of-self g c =
    let geometry : Geometry = c.self.inside.geometry in
    let same : c.answer.new.self.stored ≡ c.self.inside.session.stored =
    ap (λ (s : SessionModel). s.stored) (c.answer.ensures.next [])
    ∙ (still_step geometry [] c.self.inside.session c.args.event.now c.requires.quiet).stored_is in
    record {
      saved = λ whole. same ∙ c.self.invariant.saved whole;
      plan = plan_answered geometry [] c.self.inside.session c.answer.new.self c.args.event.now c.self.inside.lines.ahead _ c.requires.quiet
          (λ drops. ap (λ (x : ControllerModel g.row.R.Denot). x.lines.ahead) c.self.view_is
          ∙ c.requires.alone drops) (c.answer.ensures.next []) c.self.invariant.plan;
    }

pub returns : goal.returns
returns g c =
    let geometry : Geometry = c.self.inside.geometry in
    let old : ControllerModel g.row.R.Denot =
    record {
      journal = c.self.inside.journal;
      session = c.self.inside.session;
      lines = c.self.inside.lines;
      geometry = geometry;
    } in
    let new : ControllerModel g.row.R.Denot = record {
      journal = c.self.inside.journal;
      session = c.answer.new.self;
      lines = c.self.inside.lines;
      geometry = geometry;
    } in
    let whole = ap (λ (x : ControllerModel g.row.R.Denot). x.journal.broken) c.self.view_is ∙ c.requires.whole in
    subst (λ (x : ControllerModel g.row.R.Denot). CarriesOutEvent g.R.Rig.seen c.args.event.now (Ok c.answer.result) x new) c.self.view_is
    (carried_still g.R.Rig.seen (TakesMemory geometry old.session c.args.event.now)
    (AsksDevice geometry old.session c.args.event.now) (NeedsProgramLine geometry old.session c.args.event.now)
    c.answer.result (λ (program : List ℕ). step geometry program old.session c.args.event.now) old new whole
    (quiet_unread geometry old.session c.args.event.now c.requires.quiet)
    (λ program. still_step geometry program old.session c.args.event.now c.requires.quiet) refl refl refl
    c.answer.ensures.reply c.answer.ensures.next)
