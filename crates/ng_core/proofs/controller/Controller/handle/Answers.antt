use Rattle.std.proofs.Common.{◌∙◌, ap, subst}
use Rattle.ng_canon.specs.declared.geometry.Geometry.{Geometry}
use Rattle.ng_session.specs.Planned.{KnownModel}
use Rattle.ng_core.specs.Events.{CarriesOutEvent}
use Rattle.ng_core.specs.Model.{ControllerModel}
use Rattle.ng_core.proofs.ReadAheadLemmas.{carried_forgotten, forgotten_none}
use Rattle.ng_core.proofs.controller.Controller.handle.Goals as goal

pub carry_out-requires-clause-alone : goal.carry_out-requires-clause-alone
carry_out-requires-clause-alone g c = λ drops. ap (λ (k : KnownModel). k.ahead) c.forget_for.ensures ∙ forgotten_none c.args.event.now c.self.inside.lines drops

pub returns-clause-carried : goal.returns-clause-carried
returns-clause-carried g c = λ whole.
    let geometry : Geometry = c.self.inside.geometry in
    let old : ControllerModel g.row.R.Denot =
    record {
      journal = c.self.inside.journal;
      session = c.self.inside.session;
      lines = c.self.inside.lines;
      geometry = geometry;
    } in
    subst (λ (x : ControllerModel g.row.R.Denot). CarriesOutEvent g.R.Rig.seen c.args.event.now c.carry_out.result x c.carry_out.new.self) c.self.view_is
    (carried_forgotten g.R.Rig.seen c.args.event.now c.carry_out.result old c.carry_out.new.self c.forget_for.new.self c.forget_for.ensures c.carry_out.ensures)
