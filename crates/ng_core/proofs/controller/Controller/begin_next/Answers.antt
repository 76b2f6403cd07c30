use Rattle.std.proofs.Common.{ℕ, List, Ok, Err, sym, subst}
use Rattle.std.proofs.lemmas.Result.{err_from_is_err_and}
use Rattle.ng_num.specs.declared.fault.Fault.{Fault}
use Rattle.ng_text.specs.Programs.{program_line_at}
use Rattle.ng_session.specs.Session.{Transition}
use Rattle.ng_session.specs.Ticking.{begin}
use Rattle.ng_session.specs.declared.reply.Reply.{Reply}
use Rattle.ng_session.specs.declared.reply.Reply.TheVariants as reply
use Rattle.ng_core.specs.Needs.{needs_line}
use Rattle.ng_core.specs.Events.{CarriesOut}
use Rattle.ng_core.specs.Model.{ControllerModel}
use Rattle.ng_core.proofs.ReadAheadLemmas.{carried_planned, carried_unplanned}
use Rattle.ng_core.proofs.controller.Controller.begin_next.Goals as goal

pub returns-in_err-reply : goal.returns-in_err-reply
returns-in_err-reply g c =
    let p = err_from_is_err_and c.from_residual.result c.from_residual.ensures.1 in
    let old : ControllerModel g.row.R.Denot = c.args.self.now in
    let begins : List ℕ → Transition = λ program. begin old.geometry program old.session (program_line_at program old.session.stored.place) in
    rw (p.1) (subst (λ (f : Fault). CarriesOut g.R.Rig.seen needs_line begins (Err f) old c.begin.new.self) (sym p.2) c.in_err-reply.ensures)

pub returns-in_err-plan-in-Begun : goal.returns-in_err-plan-in-Begun
returns-in_err-plan-in-Begun g c =
    let p = err_from_is_err_and c.from_residual-in_err-plan-in-Begun.result c.from_residual-in_err-plan-in-Begun.ensures.1 in
    let old : ControllerModel g.row.R.Denot = c.args.self.now in
    let begun = subst (λ (r : Reply). CarriesOut g.R.Rig.seen needs_line
    (λ (program : List ℕ). begin old.geometry program old.session
    (program_line_at program old.session.stored.place)) (Ok r) old c.begin.new.self) c.in-Begun.is
    c.in_ok-reply.ensures in
    rw (p.1) (carried_unplanned g.R.Rig.seen p.0 c.in_err-plan-in-Begun.field-0.0 old c.begin.new.self
    c.plan.new.self p.2 c.requires.runs begun c.in_err-plan-in-Begun.ensures)

pub returns-in_err-plan-in-Begun-2 : goal.returns-in_err-plan-in-Begun-2
returns-in_err-plan-in-Begun-2 g c =
    let p = err_from_is_err_and c.from_residual-in_err-plan-in-Begun-2.result c.from_residual-in_err-plan-in-Begun-2.ensures.1 in
    let old : ControllerModel g.row.R.Denot = c.args.self.now in
    let begins : List ℕ → Transition = λ program. begin old.geometry program old.session (program_line_at program old.session.stored.place) in
    let begun = subst (λ (r : Reply). CarriesOut g.R.Rig.seen needs_line begins (Ok r) old c.begin.new.self) c.in-Begun.is c.in_ok-reply.ensures in
    let once = carried_planned g.R.Rig.seen ⊥ (Unit {0}) (Unit {0}) reply.Begun
    c.in_ok-plan-in-Begun.field-0 begins old c.begin.new.self c.plan.new.self begun
    c.in_ok-plan-in-Begun.ensures in
    rw (p.1) (carried_unplanned g.R.Rig.seen p.0 c.in_err-plan-in-Begun-2.field-0.0 old c.plan.new.self
    c.plan-in-Begun.new.self p.2 c.requires.runs once c.in_err-plan-in-Begun-2.ensures)

pub returns-in_ok-plan-in-Begun-2 : goal.returns-in_ok-plan-in-Begun-2
returns-in_ok-plan-in-Begun-2 g c =
    let old : ControllerModel g.row.R.Denot = c.args.self.now in
    let begins : List ℕ → Transition = λ program. begin old.geometry program old.session (program_line_at program old.session.stored.place) in
    let begun = subst (λ (r : Reply). CarriesOut g.R.Rig.seen needs_line begins (Ok r) old c.begin.new.self) c.in-Begun.is c.in_ok-reply.ensures in
    let once = carried_planned g.R.Rig.seen ⊥ (Unit {0}) (Unit {0}) reply.Begun
    c.in_ok-plan-in-Begun.field-0 begins old c.begin.new.self c.plan.new.self begun
    c.in_ok-plan-in-Begun.ensures in
    carried_planned g.R.Rig.seen ⊥ (Unit {0}) (Unit {0}) reply.Begun c.in_ok-plan-in-Begun-2.field-0 begins
    old c.plan.new.self c.plan-in-Begun.new.self once c.in_ok-plan-in-Begun-2.ensures
