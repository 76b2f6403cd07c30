use Rattle.std.proofs.Common.{◌≡◌, ℕ, true, List, Option, Some, None, sym, ◌∙◌, ap}
use Rattle.ng_layout.specs.Stored.{HalfModel}
use Rattle.ng_session.specs.Session.{is_running}
use Rattle.ng_session.specs.Ticking.{open_next, end, opening_of}
use Rattle.ng_session.specs.Step.{has_work, IsBetweenLines}
use Rattle.ng_core.specs.Model.{ControllerModel}
use Rattle.ng_core.proofs.CarriesOutLemmas.{carried_to}
use Rattle.ng_core.proofs.TickChoiceLemmas.{segment_opens}
use Rattle.ng_core.proofs.EventCauseLemmas.{busy_block, busy_unread, some_half}
use Rattle.ng_core.proofs.TickLemmas.{opening}
use Rattle.ng_core.proofs.controller.Controller.go_further.Goals as goal

pub open-requires-clause-is_open : goal.open-requires-clause-is_open
open-requires-clause-is_open g c = segment_opens c.self.inside.session.current c.in-Some.half c.in-Some.ensures.half

pub returns-in-Some : goal.returns-in-Some
returns-in-Some g c =
    let old : ControllerModel g.row.R.Denot = c.args.self.now in
    let is : Some c.in-Some.half ≡ opening_of old.session.current = c.in-Some.ensures.half
    ∙ ap (λ (x : ControllerModel g.row.R.Denot). opening_of x.session.current) c.self.view_is in
    carried_to g.R.Rig.seen ⊥ ⊥ (Unit {0}) (has_work old.session ≡ true) ⊥
    (IsBetweenLines old.session) (λ (program : List ℕ). opening c.in-Some.half program old.geometry old.session)
    (λ (program : List ℕ). open_next old.geometry program old.session (opening_of old.session.current))
    c.open.result old c.open.new.self
    (λ m. m) (λ u. busy_block (is_running old.session.activity) old.session.current
    (some_half old.session.current c.in-Some.half (sym is))) (λ none. absurd none)
    (busy_unread old.session (some_half old.session.current c.in-Some.half (sym is)))
    (λ program. ap (λ (o : Option HalfModel). open_next old.geometry program old.session o) is) c.open.ensures

pub returns-in-None : goal.returns-in-None
returns-in-None g c =
    let old : ControllerModel g.row.R.Denot = c.args.self.now in
    let is : None ≡ opening_of old.session.current = c.in-None.ensures.half
    ∙ ap (λ (x : ControllerModel g.row.R.Denot). opening_of x.session.current) c.self.view_is in
    carried_to g.R.Rig.seen ⊥ ⊥ (has_work old.session ≡ true)
    (has_work old.session ≡ true) (IsBetweenLines old.session) (IsBetweenLines old.session)
    (λ (program : List ℕ). end old.geometry program old.session old.session.current)
    (λ (program : List ℕ). open_next old.geometry program old.session (opening_of old.session.current))
    c.end.result old c.end.new.self
    (λ m. m) (λ d. d) (λ e. e) (λ e. e) (λ program. ap (λ (o : Option HalfModel). open_next old.geometry program old.session o) is) c.end.ensures
