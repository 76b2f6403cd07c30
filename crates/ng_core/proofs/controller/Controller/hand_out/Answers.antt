use Rattle.std.proofs.Common.{ℕ, List, Ok, Err, refl}
use Rattle.std.proofs.lemmas.Result.{err_from_is_err_and}
use Rattle.ng_canon.specs.declared.geometry.Geometry.{Geometry}
use Rattle.ng_session.specs.declared.reply.Reply.TheVariants as reply
use Rattle.ng_core.specs.Events.{handing}
use Rattle.ng_core.specs.Model.{ControllerModel}
use Rattle.ng_core.proofs.AnyDeviceLemmas.{comes_by}
use Rattle.ng_core.proofs.CarriesOutLemmas.{carried_as, carried_lost}
use Rattle.ng_core.proofs.ProgramInForceLemmas.{keeps_handed, reads_answered}
use Rattle.ng_core.proofs.TickLemmas.{hands_item, hands_none}
use Rattle.ng_core.proofs.controller.Controller.hand_out.Goals as goal

pub returns-in_err-hand_out : goal.returns-in_err-hand_out
returns-in_err-hand_out g c =
    let p = err_from_is_err_and c.from_residual.result c.from_residual.ensures.1 in
    let e = c.in_err-hand_out.field-0.0 in
    let geometry : Geometry = c.self.inside.geometry in
    let old : ControllerModel g.row.R.Denot =
    record {
      journal = c.self.inside.journal;
      session = c.self.inside.session;
      lines = c.self.inside.lines;
      geometry = geometry;
    } in
    let new : ControllerModel g.row.R.Denot =
    record {
      journal = c.hand_out.new.self;
      session = c.self.inside.session;
      lines = c.self.inside.lines;
      geometry = geometry;
    } in
    rw (p.1) (carried_as g.R.Rig.seen (λ (x : ControllerModel g.row.R.Denot). ⊥)
    (λ (x : ControllerModel g.row.R.Denot). Unit {0}) (λ (x : ControllerModel g.row.R.Denot). ⊥)
    (λ (x : ControllerModel g.row.R.Denot) (program : List ℕ). handing c.args.item program x.session) (Err p.0)
    c.args.self.now old new c.self.view_is
    (carried_lost g.R.Rig.seen ⊥ (Unit {0}) ⊥ p.0 e (λ (program : List ℕ). handing c.args.item program old.session) old new p.2
    (hands_none g.R.Rig.seen e e c.args.item old new refl c.in_err-hand_out.ensures.errors c.in_err-hand_out.ensures.stops)
    (λ h program. record { calls = c.in_err-hand_out.ensures.hands.holds h; unchanged = λ other. absurd (other c.in_err-hand_out.ensures.errors) })
    c.in_err-hand_out.ensures.errors tt (λ program used. used) refl refl c.in_err-hand_out.ensures.call))

pub returns : goal.returns
returns g c =
    let geometry : Geometry = c.self.inside.geometry in
    let old : ControllerModel g.row.R.Denot =
    record {
      journal = c.self.inside.journal;
      session = c.self.inside.session;
      lines = c.self.inside.lines;
      geometry = geometry;
    } in
    let new : ControllerModel g.row.R.Denot =
    record {
      journal = c.hand_out.new.self;
      session = c.self.inside.session;
      lines = c.self.inside.lines;
      geometry = geometry;
    } in
    carried_as g.R.Rig.seen (λ (x : ControllerModel g.row.R.Denot). ⊥) (λ (x : ControllerModel g.row.R.Denot).
    Unit {0}) (λ (x : ControllerModel g.row.R.Denot). ⊥)
    (λ (x : ControllerModel g.row.R.Denot) (program : List ℕ). handing c.args.item program x.session)
    (Ok reply.Moved) c.args.self.now old new c.self.view_is (record {
      does = hands_item g.R.Rig.seen c.in_ok-hand_out.field-0 c.args.item old new refl c.in_ok-hand_out.ensures.stops refl;
      calls = λ h program. record { calls = c.in_ok-hand_out.ensures.hands.holds h; unchanged = tt };
      reads = reads_answered g.R.Rig.seen reply.Moved
          (λ (program : List ℕ). handing c.args.item program old.session) old new
          (keeps_handed g.R.Rig.seen c.args.item old.journal new.journal
          c.in_ok-hand_out.ensures.hands.holds c.in_ok-hand_out.ensures.ledger)
          (λ program. refl) (λ program known. known) (λ program. refl) (λ program. refl);
      comes = comes_by ⊥ reply.Moved (λ program. handing c.args.item program old.session) old new (λ program. refl) (λ program. refl);
      line = λ none. absurd none;
      ledger = λ program. c.in_ok-hand_out.ensures.ledger;
      hindered = tt;
      broken = c.in_ok-hand_out.ensures.call.broken;
      geometry = refl;
      size = c.in_ok-hand_out.ensures.call.size;
      failures = c.in_ok-hand_out.ensures.call.failures;
    })
