use Rattle.std.proofs.Common.{◌≡◌, ℕ, true, false, List, sym, ◌∙◌, ap}
use Rattle.ng_canon.specs.declared.geometry.Geometry.{Geometry}
use Rattle.ng_session.specs.Ticking.{tick}
use Rattle.ng_session.specs.Step.{has_work, IsBetweenLines}
use Rattle.ng_core.specs.Model.{ControllerModel}
use Rattle.ng_core.proofs.CarriesOutLemmas.{carried_as, carried_held, carried_item, carried_further}
use Rattle.ng_core.proofs.controller.Controller.tick.Goals as goal

pub returns-then-is_held : goal.returns-then-is_held
returns-then-is_held g c =
    let old : ControllerModel g.row.R.Denot = c.args.self.now in
    let held : old.session.held ≡ true = sym (ap (λ (x : ControllerModel g.row.R.Denot). x.session.held) c.self.view_is) ∙ sym c.if-is_held.ensures.held in
    carried_held g.R.Rig.seen ⊥ ((old.session.held ≡ false)
    × (has_work old.session ≡ true)) ((old.session.held ≡ false) × IsBetweenLines old.session) old c.requires
    (λ read. absurd (let z : false ≡ true = sym read.0 ∙ held in cc)) held

pub returns-in-Some : goal.returns-in-Some
returns-in-Some g c =
    let geometry : Geometry = c.self.inside.geometry in
    let old : ControllerModel g.row.R.Denot =
    record {
      journal = c.self.inside.journal;
      session = c.self.inside.session;
      lines = c.self.inside.lines;
      geometry = geometry;
    } in
    carried_as g.R.Rig.seen (λ (x : ControllerModel g.row.R.Denot). ⊥) (λ (x : ControllerModel g.row.R.Denot). (x.session.held ≡ false)
    × (has_work x.session ≡ true)) (λ (x : ControllerModel g.row.R.Denot). (x.session.held ≡ false)
    × IsBetweenLines x.session) (λ (x : ControllerModel g.row.R.Denot) (program : List ℕ).
    tick x.geometry program x.session) c.hand_out.result c.args.self.now old c.hand_out.new.self c.self.view_is
    (carried_item g.R.Rig.seen c.hand_out.result c.in-Some.item old c.hand_out.new.self c.next_item.new.self
    (sym c.if-is_held.ensures.held) c.in-Some.ensures.item c.in-Some.ensures.next c.hand_out.ensures)

pub returns-in-None : goal.returns-in-None
returns-in-None g c =
    let geometry : Geometry = c.self.inside.geometry in
    let old : ControllerModel g.row.R.Denot =
    record {
      journal = c.self.inside.journal;
      session = c.self.inside.session;
      lines = c.self.inside.lines;
      geometry = geometry;
    } in
    carried_as g.R.Rig.seen (λ (x : ControllerModel g.row.R.Denot). ⊥) (λ (x : ControllerModel g.row.R.Denot). (x.session.held ≡ false)
    × (has_work x.session ≡ true)) (λ (x : ControllerModel g.row.R.Denot). (x.session.held ≡ false)
    × IsBetweenLines x.session) (λ (x : ControllerModel g.row.R.Denot) (program : List ℕ).
    tick x.geometry program x.session) c.go_further.result c.args.self.now old c.go_further.new.self
    c.self.view_is
    (carried_further g.R.Rig.seen c.go_further.result old c.go_further.new.self c.next_item.new.self
    (sym c.if-is_held.ensures.held) c.in-None.ensures.item c.in-None.ensures.none c.go_further.ensures)
