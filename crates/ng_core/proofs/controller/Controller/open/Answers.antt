use Rattle.std.proofs.Common.{◌≡◌, ℕ, List, Ok, Err, Some, refl, sym, ◌∙◌, ap, subst}
use Rattle.std.proofs.lemmas.Result.{err_from_is_err_and}
use Rattle.ng_num.specs.declared.fault.Fault.{Fault}
use Rattle.ng_num.specs.declared.fault.Fault.TheVariants.{CountersUsed}
use Rattle.ng_journal.specs.Storing.{ledger_of}
use Rattle.std.specs.Prelude.{IsSome}
use Rattle.ng_layout.specs.Stored.{StoredModel}
use Rattle.ng_canon.specs.declared.geometry.Geometry.{Geometry}
use Rattle.ng_session.specs.Session.{SessionModel}
use Rattle.ng_session.specs.Planned.{base_of}
use Rattle.ng_session.proofs.PlannedLineLemmas.{opened_base, plan_as}
use Rattle.ng_rig.proofs.GuaranteeLemmas.{meaning}
use Rattle.ng_core.proofs.ReadAheadLemmas.{some_of}
use Rattle.ng_session.specs.declared.reply.Reply.TheVariants as reply
use Rattle.ng_core.specs.Model.{ControllerModel}
use Rattle.ng_core.proofs.AnyDeviceLemmas.{comes_by}
use Rattle.ng_core.proofs.CarriesOutLemmas.{carried_as, carried_failed}
use Rattle.ng_core.proofs.ProgramInForceLemmas.{reads_answered}
use Rattle.ng_core.proofs.HonestCallLemmas.{calls_made, makes_opening, ledger_opening}
use Rattle.ng_core.proofs.EventCauseLemmas.{hindered_opening, stored_opening}
use Rattle.ng_core.proofs.TickLemmas.{opening, opens, opens_none}
use Rattle.ng_core.proofs.controller.Controller.open.Goals as goal

pub returns-in_err-open_segment : goal.returns-in_err-open_segment
returns-in_err-open_segment g c =
    let p = err_from_is_err_and c.from_residual.result c.from_residual.ensures.1 in
    let e = c.in_err-open_segment.field-0.0 in
    let geometry : Geometry = c.self.inside.geometry in
    let old : ControllerModel g.row.R.Denot =
    record {
      journal = c.self.inside.journal;
      session = c.self.inside.session;
      lines = c.self.inside.lines;
      geometry = geometry;
    } in
    let new : ControllerModel g.row.R.Denot =
    record {
      journal = c.open_segment.new.self;
      session = c.self.inside.session;
      lines = c.self.inside.lines;
      geometry = geometry;
    } in
    let whole = ap (λ (x : ControllerModel g.row.R.Denot). x.journal.broken) c.self.view_is ∙ c.requires.whole in
    let unchanged : e ≡ CountersUsed → new.journal ≡ old.journal = λ used. c.in_err-open_segment.ensures.fails.unchanged (ap (λ (f : Fault). Err f) used) in
    rw (p.1) (carried_as g.R.Rig.seen (λ (x : ControllerModel g.row.R.Denot). ⊥)
    (λ (x : ControllerModel g.row.R.Denot). Unit {0}) (λ (x : ControllerModel g.row.R.Denot). ⊥)
    (λ (x : ControllerModel g.row.R.Denot) (program : List ℕ). opening c.args.half program x.geometry x.session)
    (Err p.0) c.args.self.now old new c.self.view_is
    (carried_failed g.R.Rig.seen ⊥ (Unit {0}) ⊥ p.0 e (λ (program : List ℕ). opening c.args.half program geometry old.session) old new p.2
    (opens_none g.R.Rig.seen e e c.args.half old new refl (c.self.invariant.saved whole)
    c.in_err-open_segment.ensures.fails.causes unchanged (meaning c.in_err-open_segment.ensures.stores (λ s. s.stops)) refl)
    (makes_opening {T = Unit {0}} g.R.Rig.seen (Err e) reply.Idle c.args.half (λ (program : List ℕ). opening c.args.half program geometry old.session) old new
    (λ program. stored_opening (opening c.args.half program geometry old.session) c.args.half.index c.args.half.opened)
    (meaning c.in_err-open_segment.ensures.stores (λ s. s.writes)))
    c.in_err-open_segment.ensures.fails.causes unchanged refl refl refl
    (hindered_opening (Unit {0}) e geometry old.session (ledger_of old.journal) c.args.half
    c.in_err-open_segment.ensures.fails.causes c.in_err-open_segment.ensures.fails.used_up)
    c.in_err-open_segment.ensures.call))

pub returns : goal.returns
returns g c =
    let geometry : Geometry = c.self.inside.geometry in
    let old : ControllerModel g.row.R.Denot =
    record {
      journal = c.self.inside.journal;
      session = c.self.inside.session;
      lines = c.self.inside.lines;
      geometry = geometry;
    } in
    let new : ControllerModel g.row.R.Denot = record {
      journal = c.open_segment.new.self;
      session = c.open.new.self;
      lines = c.self.inside.lines;
      geometry = geometry;
    } in
    let whole = ap (λ (x : ControllerModel g.row.R.Denot). x.journal.broken) c.self.view_is ∙ c.requires.whole in
    carried_as g.R.Rig.seen (λ (x : ControllerModel g.row.R.Denot). ⊥) (λ (x : ControllerModel g.row.R.Denot).
    Unit {0}) (λ (x : ControllerModel g.row.R.Denot). ⊥)
    (λ (x : ControllerModel g.row.R.Denot) (program : List ℕ). opening c.args.half program x.geometry x.session)
    (Ok c.open.result) c.args.self.now old new c.self.view_is (record {
      does = opens g.R.Rig.seen c.in_ok-open_segment.field-0 c.open.result c.args.half old new c.open.ensures.reply
          c.open.ensures.next (c.self.invariant.saved whole) (meaning c.in_ok-open_segment.ensures.stores (λ s. s.stops)) refl;
      calls = calls_made g.R.Rig.seen c.open.result (λ (program : List ℕ). opening c.args.half program geometry old.session) old new
          (makes_opening g.R.Rig.seen (Ok c.in_ok-open_segment.field-0) c.open.result c.args.half
          (λ (program : List ℕ). opening c.args.half program geometry old.session) old new
          (λ program. stored_opening (opening c.args.half program geometry old.session) c.args.half.index
          c.args.half.opened) (meaning c.in_ok-open_segment.ensures.stores (λ s. s.writes)));
      reads = reads_answered g.R.Rig.seen c.open.result
          (λ (program : List ℕ). opening c.args.half program geometry old.session) old new
          (λ h. (c.in_ok-open_segment.ensures.stores.holds h).holds)
          (λ program. refl) (λ program known. known) (λ program. c.open.ensures.reply) (λ program. c.open.ensures.next);
      comes = comes_by ⊥ c.open.result (λ program. opening c.args.half program geometry old.session) old new
          (λ program. c.open.ensures.reply) (λ program. c.open.ensures.next);
      line = λ none. absurd none;
      ledger = ledger_opening g.R.Rig.seen c.args.half (λ (program : List ℕ). opening c.args.half program geometry old.session) old new
          (λ program. stored_opening (opening c.args.half program geometry old.session) c.args.half.index
          c.args.half.opened) c.in_ok-open_segment.ensures.keeps.ledger;
      hindered = tt;
      broken = c.in_ok-open_segment.ensures.call.broken;
      geometry = refl;
      size = c.in_ok-open_segment.ensures.call.size;
      failures = c.in_ok-open_segment.ensures.call.failures;
    })

pub invariant_of-self-2 : goal.invariant_of-self-2
invariant_of-self-2 g c =
    let session = c.self.inside.session in
    let block = some_of session.current (subst (λ (x : ControllerModel g.row.R.Denot). IsSome x.session.current) (sym c.self.view_is) c.requires.block) in
    let same = ap base_of c.open.ensures.next ∙ opened_base c.self.inside.geometry session c.args.half block.0 block.1 in
    let whole = ap (λ (x : ControllerModel g.row.R.Denot). x.journal.broken) c.self.view_is ∙ c.requires.whole in
    record {
      saved = λ after. ap (λ (s : SessionModel). s.stored) c.open.ensures.next
          ∙ ap (λ (x : StoredModel). (let y : StoredModel = record x { half = Some c.args.half } in y))
          (c.self.invariant.saved whole) ∙ sym c.in_ok-open_segment.ensures.keeps.saved_is;
      plan = plan_as _ (base_of session) (base_of c.open.new.self) c.self.inside.lines.ahead _ same c.self.invariant.plan;
    }
