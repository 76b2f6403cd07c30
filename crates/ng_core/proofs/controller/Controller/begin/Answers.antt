use Rattle.std.proofs.Common.{◌≡◌, ℕ, List, Ok, refl, ◌∙◌, ap}
use Rattle.ng_text.specs.Programs.{program_line_at}
use Rattle.ng_canon.specs.declared.geometry.Geometry.{Geometry}
use Rattle.ng_session.specs.Planned.{IsBegunAhead}
use Rattle.ng_session.specs.Session.{is_running}
use Rattle.ng_session.specs.Ticking.{begin}
use Rattle.ng_core.specs.Model.{ControllerModel}
use Rattle.ng_core.proofs.ReadAheadLemmas.{carried_ahead, stored_ahead}
use Rattle.ng_core.proofs.CarriesOutLemmas.{carried_as}
use Rattle.ng_core.proofs.controller.Controller.begin.Goals as goal

pub invariant_of-self : goal.invariant_of-self
invariant_of-self g c =
    let geometry : Geometry = c.self.inside.geometry in
    let begun = c.in-Some.ensures.begun geometry c.self.invariant.plan in
    record {
      saved = λ whole. stored_ahead geometry c.in-Some.reply c.self.inside.session c.begin_ahead.new.self
          c.self.inside.lines c.begin_ahead.new.lines begun ∙ c.self.invariant.saved whole;
      plan = begun.plan;
    }

pub returns-in-Some : goal.returns-in-Some
returns-in-Some g c =
    let geometry : Geometry = c.self.inside.geometry in
    let old : ControllerModel g.row.R.Denot =
    record {
      journal = c.self.inside.journal;
      session = c.self.inside.session;
      lines = c.self.inside.lines;
      geometry = geometry;
    } in
    let new : ControllerModel g.row.R.Denot =
    record {
      journal = c.self.inside.journal;
      session = c.begin_ahead.new.self;
      lines = c.begin_ahead.new.lines;
      geometry = geometry;
    } in
    let whole = ap (λ (x : ControllerModel g.row.R.Denot). x.journal.broken) c.self.view_is ∙ c.requires.whole in
    let runs = ap (λ (x : ControllerModel g.row.R.Denot). is_running x.session.activity) c.self.view_is ∙ c.requires.runs in
    let begun : IsBegunAhead geometry c.in-Some.reply old.session new.session old.lines new.lines = c.in-Some.ensures.begun geometry c.self.invariant.plan in
    carried_as g.R.Rig.seen (λ (x : ControllerModel g.row.R.Denot). ⊥)
    (λ (x : ControllerModel g.row.R.Denot). Unit {0}) (λ (x : ControllerModel g.row.R.Denot). Unit {0})
    (λ (x : ControllerModel g.row.R.Denot) (program : List ℕ). begin x.geometry program x.session
    (program_line_at program x.session.stored.place)) (Ok c.in-Some.reply) c.args.self.now old new
    c.self.view_is
    (carried_ahead g.R.Rig.seen c.in-Some.reply old new whole runs refl refl begun)

pub returns-in-None : goal.returns-in-None
returns-in-None g c =
    let geometry : Geometry = c.self.inside.geometry in
    let none = c.in-None.ensures.none refl in
    let mid : ControllerModel g.row.R.Denot =
    record {
      journal = c.self.inside.journal;
      session = c.begin_ahead.new.self;
      lines = c.begin_ahead.new.lines;
      geometry = geometry;
    } in
    let same : mid ≡ c.args.self.now =
    (λ i. record { journal = c.self.inside.journal; session = none.0 i; lines = none.1 i; geometry = geometry })
    ∙ c.self.view_is in
    carried_as g.R.Rig.seen (λ (x : ControllerModel g.row.R.Denot). ⊥)
    (λ (x : ControllerModel g.row.R.Denot). Unit {0}) (λ (x : ControllerModel g.row.R.Denot). Unit {0})
    (λ (x : ControllerModel g.row.R.Denot) (program : List ℕ). begin x.geometry program x.session
    (program_line_at program x.session.stored.place)) c.begin_read.result c.args.self.now mid
    c.begin_read.new.self same c.begin_read.ensures
